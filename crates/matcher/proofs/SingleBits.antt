-- Single bits of a number: the lowest one, one turned, all turned.
-- Assumes nothing.
use Prim.Native.Nat.{ℕ, zero, suc, ◌+◌, ◌-◌, ◌*◌, ◌/◌, ◌%◌, ◌^◌, ◌≤◌, ◌<◌, min}
use mathlib.Core.Path.{◌≡◌, refl, sym, ap, ◌∙◌}
use mathlib.Core.Logic.{◌⊎◌, inl, inr}
use mathlib.Core.Bool.{cond}
use native.Mathlib.Nat.{not-suc-le-zero, le_of_suc-le-suc}
use native.Mathlib.Decide.{dec_le}
use native.Mathlib.Omega.{arith}
use lib.Bits.{bit_and, bit_xor}
use lib.Count.{count_trailing_zeros, under}
use lib.Dec.{eqb}
use lib.Pow.{pow_pos, pow-lt, shl_exact, shr_lt}
use borrow.Author.Tests.{eqb-true, eq-eqb, ne_eqb}
use Rattle.bits.specs.Packed.{weight}
use Rattle.bits.proofs.Weight.{weight_lt, bit_or_bit, weight_out, weight_shl, weight_shl_low, weight_shr, weight_zero, weight_ones, weight_and, weight_xor, same_weights}
use Rattle.rules.proofs.Ranges.{same_test}

-- The lowest bit of a number

pub half_weight : (n i : ℕ) → weight n (suc i) ≡ weight (n / 2) i
half_weight n i = ap (weight n) (omega arith) ∙ sym (weight_shr n 1 i)

pub trailing_below : (k n i : ℕ) → i < count_trailing_zeros k n → weight n i ≡ 0
unfolding count_trailing_zeros
trailing_below zero n i h = absurd (not-suc-le-zero h)
trailing_below (suc k) n i h = go (n % 2) refl i (λ i l. trailing_below k (n / 2) i l) h
  where
    go : (d : ℕ) → n % 2 ≡ d → (i : ℕ) → ((i : ℕ) → i < count_trailing_zeros k (n / 2) → weight (n / 2) i ≡ 0)
        → i < under d (count_trailing_zeros k (n / 2)) → weight n i ≡ 0
    go zero e zero ih h = omega arith
    go zero e (suc i) ih h = half_weight n i ∙ ih i (le_of_suc-le-suc h)
    go (suc d) e i ih h = absurd (not-suc-le-zero h)

pub trailing_at : (k n : ℕ) → count_trailing_zeros k n < k → weight n (count_trailing_zeros k n) ≡ 1
unfolding count_trailing_zeros
trailing_at zero n h = absurd (not-suc-le-zero h)
trailing_at (suc k) n h = go (n % 2) refl (trailing_at k (n / 2)) h
  where
    go : (d : ℕ) → n % 2 ≡ d → (count_trailing_zeros k (n / 2) < k → weight (n / 2) (count_trailing_zeros k (n / 2)) ≡ 1)
        → under d (count_trailing_zeros k (n / 2)) < suc k → weight n (under d (count_trailing_zeros k (n / 2))) ≡ 1
    go zero e ih h = half_weight n (count_trailing_zeros k (n / 2)) ∙ ih (le_of_suc-le-suc h)
    go (suc d) e ih h = omega arith

pub trailing_lt : (j k n : ℕ) → n < 2 ^ k → (n ≡ 0 → ⊥) → count_trailing_zeros j n < k
trailing_lt j k n h ne = go (dec_le k (count_trailing_zeros j n))
  where
    go : Dec (k ≤ count_trailing_zeros j n) → count_trailing_zeros j n < k
    go (yes l) = absurd (ne (same_weights k n 0 h (pow_pos k) (λ i u. trailing_below j n i (omega arith) ∙ sym (weight_zero i))))
    go (no l) = omega arith

same_suc : (i j : ℕ) → eqb (suc i) (suc j) ≡ eqb i j
same_suc i j = same_test _ _ (λ e. eq-eqb i j (omega (arith, eqb-true (suc i) (suc j) e))) (λ e. eq-eqb (suc i) (suc j) (ap suc (eqb-true i j e)))

-- `x & (x − 1)` is x without its lowest bit
without_lowest : (k x i : ℕ) → x < 2 ^ k → (x ≡ 0 → ⊥)
    → min (weight x i) (weight (x - 1) i) ≡ cond (eqb i (count_trailing_zeros k x)) 0 (weight x i)
unfolding count_trailing_zeros
without_lowest zero x i h ne = absurd (ne (omega arith))
without_lowest (suc k) x i h ne = go (x % 2) refl i (λ i l z. without_lowest k (x / 2) i l z)
  where
    go : (r : ℕ) → x % 2 ≡ r → (i : ℕ)
        → ((i : ℕ) → x / 2 < 2 ^ k → (x / 2 ≡ 0 → ⊥) → min (weight (x / 2) i) (weight (x / 2 - 1) i) ≡ cond (eqb i (count_trailing_zeros k (x / 2))) 0 (weight (x / 2) i))
        → min (weight x i) (weight (x - 1) i) ≡ cond (eqb i (under r (count_trailing_zeros k (x / 2)))) 0 (weight x i)
    go zero e zero ih = rw (ne_eqb 0 (suc (count_trailing_zeros k (x / 2))) (λ z. absurd (omega arith))) (omega arith)
    go zero e (suc i) ih =
        let less : (x - 1) / 2 ≡ x / 2 - 1 = omega arith in
        let more : suc k ≡ k + 1 = omega arith in
        rw (half_weight x i, half_weight (x - 1) i, less, same_suc i (count_trailing_zeros k (x / 2))) (ih i (shr_lt k 1 (rw more at h)) (λ z. ne (omega arith)))
    go (suc r) e zero ih = omega arith
    go (suc r) e (suc i) ih =
        let same : (x - 1) / 2 ≡ x / 2 = omega arith in
        rw (half_weight x i, half_weight (x - 1) i, same, ne_eqb (suc i) 0 (λ z. absurd (omega arith))) (omega arith)

module _ (k x : ℕ) (small : x < 2 ^ k) (some : x ≡ 0 → ⊥) where
  pub lowest_gone : weight (bit_and x (x - 1)) (count_trailing_zeros k x) ≡ 0
  lowest_gone =
      weight_and x (x - 1) (count_trailing_zeros k x)
      ∙ without_lowest k x (count_trailing_zeros k x) small some
      ∙ rw (eq-eqb (count_trailing_zeros k x) (count_trailing_zeros k x) refl)

  pub others_stay : (i : ℕ) → (i ≡ count_trailing_zeros k x → ⊥) → weight (bit_and x (x - 1)) i ≡ weight x i
  others_stay i ne = weight_and x (x - 1) i ∙ without_lowest k x i small some ∙ rw (ne_eqb i (count_trailing_zeros k x) ne)

-- One bit turned: `x ^ (1 << j)`

pub weight_power : (j i : ℕ) → weight (2 ^ j) i ≡ cond (eqb i j) 1 0
weight_power j i = go (dec_le i j) (dec_le j i)
  where
    once : 1 * 2 ^ j ≡ 2 ^ j
    once = omega arith

    go : Dec (i ≤ j) → Dec (j ≤ i) → weight (2 ^ j) i ≡ cond (eqb i j) 1 0
    go (yes a) (yes b) =
        let here : i ≡ j + 0 = omega arith in
        let same : i ≡ j = omega arith in
        rw (eq-eqb i j same) (rw (← once, here) (weight_shl 1 j 0))
    go (yes a) (no b) = rw (ne_eqb i j (λ e. b (omega arith))) (rw (← once) (weight_shl_low 1 {s = j} {i = i} (omega arith)))
    go (no a) b = rw (ne_eqb i j (λ e. a (omega arith))) (weight_out {x = 2 ^ j} {w = suc j} {i = i} (pow-lt (omega arith)) (omega arith))

module _ (x j : ℕ) (small : j < 64) where
  one_at : (1 * 2 ^ j) % 2 ^ 64 ≡ 2 ^ j
  one_at = shl_exact {a = 1} 1 j 64 (omega arith) (omega arith) ∙ omega arith

  turned : (i : ℕ) → weight (bit_xor x ((1 * 2 ^ j) % 2 ^ 64)) i ≡ cond (eqb (weight x i) (cond (eqb i j) 1 0)) 0 1
  turned i = rw one_at (weight_xor x (2 ^ j) i ∙ ap (λ (z : ℕ). cond (eqb (weight x i) z) 0 1) (weight_power j i))

  pub turn_off : weight x j ≡ 1 → weight (bit_xor x ((1 * 2 ^ j) % 2 ^ 64)) j ≡ 0
  turn_off e = turned j ∙ rw (eq-eqb j j refl, e)

  pub turn_other : (i : ℕ) → (i ≡ j → ⊥) → weight (bit_xor x ((1 * 2 ^ j) % 2 ^ 64)) i ≡ weight x i
  turn_other i ne = turned i ∙ rw (ne_eqb i j ne) (go (bit_or_bit (weight x i) (weight_lt x i)))
    where
      go : (weight x i ≡ 0) ⊎ (weight x i ≡ 1) → cond (eqb (weight x i) 0) 0 1 ≡ weight x i
      go (inl e) = rw e
      go (inr e) = rw e

-- all 64 bits turned: `z ^ ALL`
abbrev pub all_ones : ℕ
all_ones = 18446744073709551615

pub not_bit : (z e : ℕ) → e < 64 → weight (bit_xor z all_ones) e ≡ 1 - weight z e
not_bit z e l = weight_xor z all_ones e ∙ ap (λ (x : ℕ). cond (eqb (weight z e) x) 0 1) (weight_ones 64 e l) ∙ go (bit_or_bit (weight z e) (weight_lt z e))
  where
    go : (weight z e ≡ 0) ⊎ (weight z e ≡ 1) → ◌≡◌ {A = ℕ} (cond (eqb (weight z e) 1) 0 1) (1 - weight z e)
    go (inl q) = rw q
    go (inr q) = rw q
