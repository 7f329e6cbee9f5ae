-- What the lengths of a set's patterns tell.
use Rattle.std.specs.Prelude.{ℕ, ◌+◌, ◌≤◌, ◌<◌, ◌≡◌, List, length, get_or}
use Rattle.bits.specs.Packed.{weight}

-- Before the place `until` every pattern fits, and a pattern without a flag in `long` has at most the 32 bits that the tables
-- compare.
pub record Lengths (n : ℕ) (counts : List ℕ) (until long : ℕ) : Type 0 where
  pub fits : (p i : ℕ) → p < until → i < length counts → p + get_or counts i 0 ≤ n
  pub short : (i : ℕ) → i < length counts → weight long i ≡ 0 → get_or counts i 0 ≤ 32
