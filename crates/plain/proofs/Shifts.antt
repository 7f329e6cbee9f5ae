-- Bits of shifts within 64 bits: of all ones, and of 64 bits put together from two runs.
-- Assumes nothing.
use Prim.Native.Nat.{ℕ, ◌+◌, ◌-◌, ◌*◌, ◌/◌, ◌%◌, ◌^◌, ◌≤◌, ◌<◌, max}
use mathlib.Core.Path.{◌≡◌, refl, ap, ◌∙◌}
use mathlib.Core.Bool.{Bool, true, false, cond}
use native.Mathlib.Omega.{arith}
use lib.Bits.{bit_or}
use lib.Dec.{ltb}
use borrow.Author.Tests.{ltb-true, ltb-false, lt-ltb}
use Rattle.bits.specs.Packed.{weight, bit_of}
use Rattle.bits.proofs.Weight.{weight_out, weight_shr, shl_low, shl_high, weight_ones, weight_or}
use Rattle.plain.specs.RowCells.{shifted_bit}

-- ones before bit m of the bits from bit a on
module _ (a m : ℕ) where
  pub ones_all : a + 64 ≤ m → (j : ℕ) → j < 64 → bit_of 64 18446744073709551615 j ≡ cond (ltb (a + j) m) 1 0
  ones_all h j l = weight_ones 64 (63 - j) (omega arith) ∙ rw (lt-ltb (a + j) m (omega arith))

only_left : {a b c : ℕ} → a ≡ c → b ≡ 0 → max a b ≡ c
only_left p q = omega arith

only_right : {a b c : ℕ} → a ≡ 0 → b ≡ c → max a b ≡ c
only_right p q = omega arith

-- 64 bits that begin i bits before those of x, where those of prev stand
module _ (prev x i : ℕ) (fits : x < 2 ^ 64) (small : i < 8) where
  left : ℕ
  left = prev * 2 ^ (63 - i) % 2 ^ 64 * 2 ^ 1 % 2 ^ 64

  left_low : (n : ℕ) → n < 64 - i → weight left n ≡ 0
  unfolding left
  left_low n h = go (ltb n 1) refl
    where
      go : (b : Bool) → ltb n 1 ≡ b → weight left n ≡ 0
      go true e = shl_low (prev * 2 ^ (63 - i) % 2 ^ 64) 1 n (omega arith) (ltb-true n 1 e)
      go false e =
          let from = ltb-false n 1 e in
          shl_high (prev * 2 ^ (63 - i) % 2 ^ 64) 1 n (omega arith) from ∙ shl_low prev (63 - i) (n - 1) (omega arith) (omega arith)

  left_high : (n : ℕ) → n < 64 → 64 - i ≤ n → weight left n ≡ weight prev (n - 1 - (63 - i))
  unfolding left
  left_high n h l =
      shl_high (prev * 2 ^ (63 - i) % 2 ^ 64) 1 n h (omega arith) ∙ shl_high prev (63 - i) (n - 1) (omega arith) (omega arith)

  left_before : (j : ℕ) → j < i → weight left (63 - j) ≡ weight prev (63 - (64 + j - i))
  left_before j l = left_high (63 - j) (omega arith) (omega arith) ∙ ap (weight prev) there
    where
      there : 63 - j - 1 - (63 - i) ≡ 63 - (64 + j - i)
      there = omega arith

  right_before : (j : ℕ) → j < i → weight x (i + (63 - j)) ≡ 0
  right_before j l = weight_out {x = x} {w = 64} {i = i + (63 - j)} fits (omega arith)

  pub shifted_bit_lem : (j : ℕ) → j < 64 → bit_of 64 (bit_or (prev * 2 ^ (63 - i) % 2 ^ 64 * 2 ^ 1 % 2 ^ 64) (x / 2 ^ i)) j ≡ shifted_bit prev x i j
  unfolding shifted_bit left
  shifted_bit_lem j h =
      weight_or left (x / 2 ^ i) (63 - j)
      ∙ ap (max (weight left (63 - j))) (weight_shr x i (63 - j))
      ∙ go (ltb j i) refl
    where
      go : (b : Bool) → ltb j i ≡ b → max (weight left (63 - j)) (weight x (i + (63 - j))) ≡ cond (ltb j i) (bit_of 64 prev (64 + j - i)) (bit_of 64 x (j - i))
      go true e =
          let before = ltb-true j i e in
          rw e (only_left (left_before j before) (right_before j before))
      go false e =
          let from = ltb-false j i e in
          let there : i + (63 - j) ≡ 63 - (j - i) = omega arith in
          let low : weight x (i + (63 - j)) ≡ weight x (63 - (j - i)) = ap (weight x) there in
          rw e (only_right (left_low (63 - j) (omega arith)) low)
