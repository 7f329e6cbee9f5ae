-- Whether no bit of a pattern is wild, by loads of its second run.
-- Assumes nothing.
use Prim.Native.Nat.{ℕ, ◌+◌, ◌-◌, ◌/◌, ◌^◌, ◌≤◌, ◌<◌}
use mathlib.Core.Path.{◌≡◌, sym, ap, ◌∙◌}
use mathlib.Core.Logic.{◌↔◌}
use mathlib.Core.Bool.{true}
use mathlib.Core.List.{List}
use native.Mathlib.Decide.{dec_le}
use native.Mathlib.Omega.{arith}
use lib.Dec.{eqb}
use lib.Pow.{high, ones_lt, ones_split}
use borrow.Author.Tests.{eqb-true, eq-eqb}
use Rattle.bits.specs.Packed.{bit_at, bits_at, bit_of}
use Rattle.bits.proofs.Weight.{weight_ones, same_weights}
use Rattle.bits.proofs.Run.{bits_lt, bits_first, bit_of_bits, weight_of_bits}
use Rattle.rules.specs.Pattern.{Pattern, is_fixed}
use Rattle.rules.specs.Wild.{AllFixed}
use Rattle.rules.proofs.Pattern.{fixed_iff}

-- k bits of a run from p on are ones just if the load is
ones_load : (run : List ℕ) (p k : ℕ) → (bits_at run p k ≡ 2 ^ k - 1) ↔ ((j : ℕ) → j < k → bit_at run (p + j) ≡ 1)
ones_load run p k = (
  λ e j l. sym (bit_of_bits run p l) ∙ ap (λ (x : ℕ). bit_of k x j) e ∙ weight_ones k (k - 1 - j) (omega arith),
  λ h. same_weights k _ _ (bits_lt run p k) (ones_lt k) (λ i l. weight_of_bits run p l ∙ h (k - 1 - i) (omega arith) ∙ sym (weight_ones k i l)),
)

-- the bits below o are fixed
abbrev pub FixedTo : Pattern → ℕ → Type 0
FixedTo w o = (j : ℕ) → j < o → is_fixed w j ≡ true

module _ (w : Pattern) (o k : ℕ) where
  pub fixed_more : FixedTo w o → bits_at w.fixed o k ≡ 2 ^ k - 1 → FixedTo w (o + k)
  fixed_more below e j l = go (dec_le o j)
    where
      go : Dec (o ≤ j) → is_fixed w j ≡ true
      go (no n) = below j (omega arith)
      go (yes h) =
          let there : o + (j - o) ≡ j = omega arith in
          (fixed_iff w j).1 (rw there at ((ones_load w.fixed o k).0 e (j - o) (omega arith)))

  pub fixed_load : AllFixed w → o + k ≤ w.count → bits_at w.fixed o k ≡ 2 ^ k - 1
  fixed_load fixed h = (ones_load w.fixed o k).1 (λ j l. (fixed_iff w (o + j)).0 (fixed (o + j) (omega arith)))

-- the last load, of which the bits before m count
module _ (w : Pattern) (o : ℕ) (below : FixedTo w o) (inside : o < w.count) (last : w.count ≤ o + 64) where
  ones_first : 18446744073709551615 / 2 ^ (64 - (w.count - o)) ≡ 2 ^ (w.count - o) - 1
  ones_first =
      let whole : w.count - o + (64 - (w.count - o)) ≡ 64 = omega arith in
      ap (λ (n : ℕ). (2 ^ n - 1) / 2 ^ (64 - (w.count - o))) (sym whole)
      ∙ ap (λ (x : ℕ). x / 2 ^ (64 - (w.count - o))) (ones_split (w.count - o) (64 - (w.count - o)))
      ∙ high (2 ^ (w.count - o) - 1) (64 - (w.count - o)) (ones_lt (64 - (w.count - o)))

  pub fixed_last : {x : ℕ} → x ≡ bits_at w.fixed o 64
      → (eqb (x / 2 ^ (64 - (w.count - o))) (18446744073709551615 / 2 ^ (64 - (w.count - o))) ≡ true) ↔ AllFixed w
  fixed_last {x} e =
      let first : x / 2 ^ (64 - (w.count - o)) ≡ bits_at w.fixed o (w.count - o) =
      ap (λ (y : ℕ). y / 2 ^ (64 - (w.count - o))) e ∙ bits_first w.fixed o {j = w.count - o} {k = 64} (omega arith) in (
        λ t j l. fixed_more w o (w.count - o) below (sym first ∙ eqb-true _ _ t ∙ ones_first) j (omega arith),
        λ f. eq-eqb _ _ (first ∙ fixed_load w o (w.count - o) f (omega arith) ∙ sym ones_first),
      )
