-- Eight bits from a bit number, by themselves.
use Rattle.std.specs.Prelude.{ℕ, List, [], ◌∷◌}
use Rattle.eight.specs.Eight.{Verdict, shown, number, eight_at}
use Rattle.capi.specs.Told.{answer_cells_missing, Told, gives, refuses, unless_cells}

-- two answer cells: the byte, and how many of its bits lie before n
abbrev pub eight_tells : Verdict → Told
eight_tells (number k) = refuses k
eight_tells (shown byte count) = gives (byte ∷ count ∷ [])

-- What `mitongory_eight_bits` tells: 101 first, then refusals 1 and 2, or the byte and the count.
unfoldable pub eight_told : List ℕ → ℕ → ℕ → List ℕ → Told
eight_told bytes n place answer =
    unless_cells 2 answer (refuses answer_cells_missing) (eight_tells (eight_at (record { bytes = bytes; count = n }) place))
