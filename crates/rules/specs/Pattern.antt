-- The pattern (document 01: the word), and when a bit agrees with it.
use Rattle.std.specs.Prelude.{ℕ, Bool, List, eqb}
use Rattle.bits.specs.Packed.{bit_at}
use Rattle.rules.specs.Ranges.{implies}

-- "A word is bytes and a bit count m, 1 to 2,048, packed alike", and it "gains a second run of m bits, 1 for fixed and 0 for wild"
-- (document 02). It is a record of its own, apart from the text's.
pub record Pattern : Type 0 where
  pub bytes : List ℕ
  pub fixed : List ℕ
  pub count : ℕ

-- bit j of the pattern is fixed; else it is wild
unfoldable pub is_fixed : Pattern → ℕ → Bool
is_fixed w j = eqb (bit_at w.fixed j) 1

-- "w[j] is its bit j": the bit b equals w[j], or w[j] is wild, for "wild bits agree with both values". Whatever compares a bit of
-- the text with the pattern goes through this; plain's rows compare by bytes, and `rows_match` says that they do the same.
unfoldable pub agrees : Pattern → ℕ → ℕ → Bool
agrees w j b = implies (is_fixed w j) (eqb b (bit_at w.bytes j))
