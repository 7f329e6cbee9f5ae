-- The bits of a word that are 1.
use Rattle.std.specs.Prelude.{ℕ, Bool, List, eqb}
use Rattle.bits.specs.Packed.{weight}
use Rattle.rules.specs.Ranges.{among}

-- whether bit i is 1
abbrev pub flagged : ℕ → ℕ → Bool
flagged word i = eqb (weight word i) 1

-- their numbers, lowest first
abbrev pub ones : ℕ → List ℕ
ones word = among (flagged word) 0 64
