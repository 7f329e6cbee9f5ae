-- Words of 64 bits compared under a mask: what the code's tests on whole words say of the bits.
-- Assumes nothing.
use mathlib.Core.Path.{◌≡◌, refl, sym, ap, ◌∙◌}
use mathlib.Core.Logic.{◌⊎◌, inl, inr}
use mathlib.Core.Bool.{Bool, true, false, cond}
use mathlib.Core.List.{List}
use Prim.Native.Nat.{ℕ, ◌+◌, ◌-◌, ◌/◌, ◌^◌, ◌≤◌, ◌<◌, min}
use native.Mathlib.Nat.{lt_of_le_of_lt, div-le_self, zero-add}
use native.Mathlib.Decide.{dec_lt}
use native.Mathlib.Omega.{arith}
use lib.Bits.{bit_and, bit_xor, and_le_r}
use lib.Dec.{eqb, ltb}
use borrow.Author.Tests.{eqb-true, eq-eqb, ltb-true, lt-ltb}
use Rattle.bits.specs.Packed.{bit_at, bit_of, bits_at, weight}
use Rattle.bits.proofs.Weight.{weight_lt, weight_and, weight_xor, weight_shr, weight_out, weight_zero, same_weights, bit_or_bit}
use Rattle.bits.proofs.Run.{bit_lt, bit_of_bits}
use Rattle.rules.specs.Ranges.{every}
use Rattle.rules.specs.Pattern.{Pattern, agrees}
use Rattle.rules.proofs.Pattern.{agrees_by}
use Rattle.rules.proofs.Ranges.{same_test, every_at, to_every}
use Rattle.matcher.specs.Ready.{pattern_of, HeadOf}
use Rattle.matcher.specs.Words.{same_where}
use Rattle.matcher.proofs.Chunks.{same_where_iff}

-- a bit of the difference under the mask
differ_bit : (x y care i : ℕ) → weight (bit_and (bit_xor x y) care) i ≡ min (cond (eqb (weight x i) (weight y i)) 0 1) (weight care i)
differ_bit x y care i = weight_and (bit_xor x y) care i ∙ ap (λ (z : ℕ). min z (weight care i)) (weight_xor x y i)

-- no bit of the difference is set just if the bits are the same where the mask has a 1
same_bit : (x y care i : ℕ) → weight (bit_and (bit_xor x y) care) i ≡ 0 → weight care i ≡ 1 → weight x i ≡ weight y i
same_bit x y care i none one = go (eqb (weight x i) (weight y i)) refl
  where
    go : (b : Bool) → eqb (weight x i) (weight y i) ≡ b → weight x i ≡ weight y i
    go true e = eqb-true _ _ e
    go false e =
        let is : weight (bit_and (bit_xor x y) care) i ≡ min 1 (weight care i) = rw e at (differ_bit x y care i) in
        absurd (omega (arith, is))

none_bit : (x y care i : ℕ) → (weight care i ≡ 1 → weight x i ≡ weight y i) → weight (bit_and (bit_xor x y) care) i ≡ 0
none_bit x y care i same = go (bit_or_bit (weight care i) (weight_lt care i))
  where
    go : (weight care i ≡ 0) ⊎ (weight care i ≡ 1) → weight (bit_and (bit_xor x y) care) i ≡ 0
    go (inl z) = differ_bit x y care i ∙ omega arith
    go (inr o) = differ_bit x y care i ∙ rw (eq-eqb _ _ (same o)) (omega arith)

-- the test of the code: no bit of the difference is set among the first k
pub same_where_word : (x y care k : ℕ) → care < 2 ^ 64 → k ≤ 64 → eqb (bit_and (bit_xor x y) care / 2 ^ (64 - k)) 0 ≡ same_where x y care k
same_where_word x y care k small few = same_test _ _ to from
  where
    z : ℕ
    z = bit_and (bit_xor x y) care

    to : eqb (z / 2 ^ (64 - k)) 0 ≡ true → same_where x y care k ≡ true
    to e = (same_where_iff x y care k).1 (λ j l one.
        let there : 64 - k + (63 - j - (64 - k)) ≡ 63 - j = omega arith in
        let none : weight z (63 - j) ≡ 0 =
        ap (weight z) (sym there)
        ∙ sym (weight_shr z (64 - k) (63 - j - (64 - k)))
        ∙ ap (λ (y : ℕ). weight y (63 - j - (64 - k))) (eqb-true _ _ e)
        ∙ weight_zero (63 - j - (64 - k)) in
        same_bit x y care (63 - j) none one)

    from : same_where x y care k ≡ true → eqb (z / 2 ^ (64 - k)) 0 ≡ true
    from e =
        eq-eqb _ _ (same_weights 64 (z / 2 ^ (64 - k)) 0 high (omega arith) (λ i l.
        weight_shr z (64 - k) i ∙ each i l ∙ sym (weight_zero i)))
      where
        below : z < 2 ^ 64
        below = lt_of_le_of_lt (and_le_r (bit_xor x y) care) small

        high : z / 2 ^ (64 - k) < 2 ^ 64
        high = lt_of_le_of_lt (div-le_self z (2 ^ (64 - k))) below

        each : (i : ℕ) → i < 64 → weight z (64 - k + i) ≡ 0
        each i l = go (dec_lt i k)
          where
            go : Dec (i < k) → weight z (64 - k + i) ≡ 0
            go (yes u) =
                let there : 63 - (k - 1 - i) ≡ 64 - k + i = omega arith in
                none_bit x y care (64 - k + i) (λ one.
                rw there at ((same_where_iff x y care k).0 e (k - 1 - i) (omega arith) (rw there one)))
            go (no n) = weight_out {w = 64} below (omega arith)

-- the pattern's head: `mask` has the second run's bits where `front` has ones, which is before bit k, and `head` the pattern's
-- bits there
pub head_is : (pattern fixed : List ℕ) (m : ℕ) {p f front : ℕ} → p ≡ bits_at pattern 0 64 → f ≡ bits_at fixed 0 64 → front < 2 ^ 64
    → ((j : ℕ) → j < 64 → bit_of 64 front j ≡ cond (ltb j (min m 57)) 1 0)
    → HeadOf (pattern_of pattern fixed m) (bit_and p (bit_and f front)) (bit_and f front)
head_is pattern fixed m {p} {f} {front} ep ef small ones x = same_test _ _ to from
  where
    w : Pattern
    w = pattern_of pattern fixed m

    k : ℕ
    k = min m 57

    mask : ℕ
    mask = bit_and f front

    pattern_bit : (j : ℕ) → j < 64 → bit_of 64 p j ≡ bit_at pattern j
    pattern_bit j l = ap (λ (z : ℕ). bit_of 64 z j) ep ∙ bit_of_bits pattern 0 l ∙ ap (bit_at pattern) (zero-add j)

    mask_bit : (j : ℕ) → j < 64 → bit_of 64 mask j ≡ min (bit_at fixed j) (cond (ltb j k) 1 0)
    mask_bit j l =
        weight_and f front (63 - j)
        ∙ ap (λ (z : ℕ). min z (weight front (63 - j))) (ap (λ (z : ℕ). bit_of 64 z j) ef ∙ bit_of_bits fixed 0 l ∙ ap (bit_at fixed) (zero-add j))
        ∙ ap (min (bit_at fixed j)) (ones j l)

    mask_below : (j : ℕ) → j < k → bit_of 64 mask j ≡ min (bit_at fixed j) 1
    mask_below j l = mask_bit j (omega arith) ∙ ap (λ (b : Bool). min (bit_at fixed j) (cond b 1 0)) (lt-ltb _ _ l)

    -- under the mask
    masked : (y j : ℕ) → weight (bit_and y mask) (63 - j) ≡ min (bit_of 64 y j) (bit_of 64 mask j)
    masked y j = weight_and y mask (63 - j)

    to : eqb (bit_and x mask) (bit_and p mask) ≡ true → every k (λ j. agrees w j (bit_of 64 x j)) ≡ true
    to e = to_every k _ (λ j l. (agrees_by w j _).1 (λ one.
        let same : min (bit_of 64 x j) (bit_of 64 mask j) ≡ min (bit_of 64 p j) (bit_of 64 mask j) =
        sym (masked x j) ∙ ap (λ (z : ℕ). weight z (63 - j)) (eqb-true _ _ e) ∙ masked p j in
        let a = weight_lt x (63 - j) in
        let b = weight_lt p (63 - j) in
        let c = mask_below j l in
        omega (arith, pattern_bit j (omega arith))))

    each : every k (λ j. agrees w j (bit_of 64 x j)) ≡ true → (j : ℕ) → j < 64 → (b : Bool) → ltb j k ≡ b
        → (bit_at fixed j ≡ 0) ⊎ (bit_at fixed j ≡ 1) → min (bit_of 64 x j) (bit_of 64 mask j) ≡ min (bit_of 64 p j) (bit_of 64 mask j)
    each h j l true e (inr one) =
        let same = (agrees_by w j _).0 (every_at k _ h j (ltb-true _ _ e)) one in
        omega (arith, pattern_bit j l)
    each h j l true e (inl zero) = let c = mask_bit j l in omega arith
    each h j l false e o = let c : bit_of 64 mask j ≡ min (bit_at fixed j) 0 = rw e at (mask_bit j l) in omega arith

    from : every k (λ j. agrees w j (bit_of 64 x j)) ≡ true → eqb (bit_and x mask) (bit_and p mask) ≡ true
    from h =
        eq-eqb _ _ (same_weights 64 _ _ (lt_of_le_of_lt (and_le_r x mask) below) (lt_of_le_of_lt (and_le_r p mask) below) (λ i l.
        let there : 63 - (63 - i) ≡ i = omega arith in
        rw there at
        (masked x (63 - i)
        ∙ each h (63 - i) (omega arith) _ refl (bit_or_bit (bit_at fixed (63 - i)) (bit_lt fixed (63 - i)))
        ∙ sym (masked p (63 - i)))))
      where
        below : mask < 2 ^ 64
        below = lt_of_le_of_lt (and_le_r f front) small
