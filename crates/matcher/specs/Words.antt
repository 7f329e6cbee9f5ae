-- Words of 64 bits compared where a third one has a 1.
use Rattle.std.specs.Prelude.{ℕ, Bool, eqb}
use Rattle.bits.specs.Packed.{bit_of}
use Rattle.rules.specs.Ranges.{implies, every}

-- the first k bits of x and y are the same where those of `care` are 1
unfoldable pub same_where : ℕ → ℕ → ℕ → ℕ → Bool
same_where x y care k = every k (λ j. implies (eqb (bit_of 64 care j) 1) (eqb (bit_of 64 x j) (bit_of 64 y j)))
