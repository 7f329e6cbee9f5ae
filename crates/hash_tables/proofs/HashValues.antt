-- H(B) by itself: the least move at which the condition holds, found by trying the moves in order.
-- Assumes nothing.
use Prim.Native.Nat.{ℕ, ◌+◌, ◌-◌, ◌*◌, ◌/◌, ◌%◌, ◌^◌, ◌≤◌, ◌<◌}
use mathlib.Core.Path.{◌≡◌, refl, sym, ◌∙◌}
use mathlib.Core.Logic.{◌↔◌, ◌⊎◌, inl, inr}
use mathlib.Core.Bool.{true, false, true≢false}
use native.Mathlib.Nat.{lt_of_lt_of_le, div-one, mod-eq_of_lt}
use native.Mathlib.Decide.{dec_le}
use native.Mathlib.Omega.{arith}
use lib.Bits.{bit_and, bit_xor}
use lib.Dec.{eqb}
use lib.Pow.{pow_mono, shl_exact}
use borrow.Author.Tests.{eqb-true, eq-eqb, ltb-false}
use Rattle.bits.specs.Packed.{bits_at, weight}
use Rattle.bits.proofs.Weight.{weight_out, weight_mod}
use Rattle.bits.proofs.Run.{bits_lt, bits_first}
use Rattle.rules.specs.declared.Method.TheVariants.{Hash}
use Rattle.rules.specs.Pattern.{Pattern}
use Rattle.rules.specs.Hash.{meets, hash_of}
use Rattle.rules.proofs.Ranges.{not_true_false, eq_or_below}
use Rattle.rules.proofs.Hash.{LeastMeeting, meets_where, meets_all, hash_least}
use Rattle.matcher.specs.Words.{same_where}
use Rattle.matcher.specs.Ready.{GoodPattern}
use Rattle.matcher.proofs.Chunks.{same_where_iff}
use Rattle.matcher.proofs.Words.{same_where_word}

-- a pattern of the method has a whole value
pub long_enough : (w : Pattern) → GoodPattern Hash w → 8 ≤ w.count
long_enough w g = ltb-false w.count 8 g.fit

-- a power of 2 by a shift
pub one_shl : (k : ℕ) → k ≤ 8 → (1 * 2 ^ k) % 2 ^ 32 ≡ 2 ^ k
one_shl k h = shl_exact {a = 1} 1 k 32 (omega arith) (omega arith) ∙ one (2 ^ k)
  where
    one : (x : ℕ) → 1 * x ≡ x
    one x = omega arith

-- x and y differ at no bit where `care`, a number of k bits, has a 1
masked_same : (x y care k : ℕ) → care < 2 ^ k → k ≤ 64
    → (bit_and (bit_xor x y) care ≡ 0) ↔ ((i : ℕ) → i < k → weight care i ≡ 1 → weight x i ≡ weight y i)
masked_same x y care k small few = (to, from)
  where
    word : eqb (bit_and (bit_xor x y) care) 0 ≡ same_where x y care 64
    word = rw (div-one (bit_and (bit_xor x y) care)) at (same_where_word x y care 64 (lt_of_lt_of_le small (pow_mono few)) (omega arith))

    to : bit_and (bit_xor x y) care ≡ 0 → (i : ℕ) → i < k → weight care i ≡ 1 → weight x i ≡ weight y i
    to e i l one =
        let there : 63 - (63 - i) ≡ i = omega arith in
        rw there at ((same_where_iff x y care 64).0 (sym word ∙ eq-eqb _ _ e) (63 - i) (omega arith) (rw there one))

    from : ((i : ℕ) → i < k → weight care i ≡ 1 → weight x i ≡ weight y i) → bit_and (bit_xor x y) care ≡ 0
    from h = eqb-true _ _ (word ∙ (same_where_iff x y care 64).1 (λ j l one. go j one (dec_le k (63 - j))))
      where
        go : (j : ℕ) → weight care (63 - j) ≡ 1 → Dec (k ≤ 63 - j) → weight x (63 - j) ≡ weight y (63 - j)
        go j one (no n) = h (63 - j) (omega arith) one
        go j one (yes n) = absurd (omega (arith, weight_out {x = care} {w = k} {i = 63 - j} small n))

module _ (w : Pattern) (B : ℕ) where
  -- the condition as the code tests it: where the second run has a 1, the last k bits of B are the pattern's k bits from p on
  meets_masked : (d k p : ℕ) → p + k + d ≡ w.count → k ≤ 8 → (k < 8 → p ≡ 0)
      → (meets w B d ≡ true) ↔ (bit_and (bit_xor (B % 2 ^ k) (bits_at w.bytes p k)) (bits_at w.fixed p k) ≡ 0)
  meets_masked d k p size few first =
      let r = meets_where w B d k p size few first in
      let m = masked_same (B % 2 ^ k) (bits_at w.bytes p k) (bits_at w.fixed p k) k (bits_lt w.fixed p k) (omega arith) in (
        λ h. m.1 (λ i l one. weight_mod B l ∙ r.0 h i l one),
        λ e. r.1 (λ i l one. sym (weight_mod B l) ∙ m.0 e i l one),
      )

  -- no move below d meets the condition
  abbrev pub NoneBelow : ℕ → Type 0
  NoneBelow d = (e : ℕ) → e < d → meets w B e ≡ false

  pub none_more : (d : ℕ) → NoneBelow d → (meets w B d ≡ true → ⊥) → NoneBelow (d + 1)
  none_more d below here e h = go (eq_or_below (omega arith))
    where
      go : (e ≡ d) ⊎ (e < d) → meets w B e ≡ false
      go (inl q) = rw q (not_true_false _ here)
      go (inr l) = below e l

  -- the first from `from` on that meets it is the least
  pub first_meets : (from d r : ℕ) → LeastMeeting w B from r → from ≤ d → ((e : ℕ) → from ≤ e → e < d → meets w B e ≡ false)
      → meets w B d ≡ true → d ≡ r
  first_meets from d r least low below here = go (dec_le d r) (dec_le r d)
    where
      go : Dec (d ≤ r) → Dec (r ≤ d) → d ≡ r
      go (yes a) (yes b) = omega arith
      go (yes a) (no b) = absurd (true≢false (sym here ∙ least.none_before d low (omega arith)))
      go (no a) b = absurd (true≢false (sym least.meets_it ∙ below r least.low (omega arith)))

  -- from 0 on it is H(B)
  pub hash_is : (d : ℕ) → NoneBelow d → meets w B d ≡ true → d ≡ hash_of w B
  hash_is d below here = first_meets 0 d (hash_of w B) (hash_least w B) (omega arith) (λ e _ l. below e l) here

  -- d = m meets it in any case
  pub hash_last : (d : ℕ) → d ≡ w.count → NoneBelow d → d ≡ hash_of w B
  hash_last d e below = hash_is d below (rw e (meets_all w B))

  -- the pattern shows the whole value d before its last eight bits
  pub shown_whole : (d : ℕ) → d + 8 ≤ w.count → B < 256
      → (meets w B d ≡ true) ↔ (bit_and (bit_xor B (bits_at w.bytes (w.count - 8 - d) 8)) (bits_at w.fixed (w.count - 8 - d) 8) ≡ 0)
  shown_whole d h small =
      let whole : B % 2 ^ 8 ≡ B = mod-eq_of_lt small in
      rw whole at (meets_masked d 8 (w.count - 8 - d) (omega arith) (omega arith) (λ x. absurd (omega arith)))

  -- its first k bits are the value's last
  pub shown_first : (k x y z : ℕ) → k ≤ 8 → k ≤ w.count → x ≡ B % 2 ^ k → y ≡ bits_at w.bytes 0 8 / 2 ^ (8 - k)
      → z ≡ bits_at w.fixed 0 8 / 2 ^ (8 - k) → (meets w B (w.count - k) ≡ true) ↔ (bit_and (bit_xor x y) z ≡ 0)
  shown_first k x y z h l ex ey ez =
      let first : y ≡ bits_at w.bytes 0 k = ey ∙ bits_first w.bytes 0 {j = k} {k = 8} h in
      let care : z ≡ bits_at w.fixed 0 k = ez ∙ bits_first w.fixed 0 {j = k} {k = 8} h in
      rw (ex, first, care) (meets_masked (w.count - k) k 0 (omega arith) h (λ z. refl))
