-- Laws of `last_below`: one more than the last number below a bound at which a test passes, or 0.
-- Assumes nothing.
use Prim.Native.Nat.{ℕ, zero, suc, ◌-◌, ◌≤◌, ◌<◌}
use mathlib.Core.Path.{◌≡◌, refl, sym, ◌∙◌}
use mathlib.Core.Logic.{inl, inr}
use mathlib.Core.Bool.{Bool, true, false, true≢false, cond}
use native.Mathlib.Decide.{dec_le}
use native.Mathlib.Omega.{arith}
use Rattle.matcher.specs.Tables.{last_below}
use Rattle.rules.proofs.Ranges.{eq_or_below}

module _ (f : ℕ → Bool) where
  pub below_zero : last_below f 0 ≡ 0
  unfolding last_below
  below_zero = refl

  -- below k + 1, by whether k passes
  pub below_here : (k : ℕ) → f k ≡ true → last_below f (suc k) ≡ suc k
  unfolding last_below
  below_here k e = rw e

  pub below_before : (k : ℕ) → f k ≡ false → last_below f (suc k) ≡ last_below f k
  unfolding last_below
  below_before k e = rw e

  -- what `last_below` gives
  pub record Below (k r : ℕ) : Type 0 where
    pub within : r ≤ k
    pub passes : (j : ℕ) → r ≡ suc j → f j ≡ true
    pub none : (i : ℕ) → r ≤ i → i < k → f i ≡ false

  pub below_is : (k : ℕ) → Below k (last_below f k)
  unfolding last_below
  below_is zero = record { within = omega arith; passes = λ j e. absurd (omega arith); none = λ i l h. absurd (omega arith) }
  below_is (suc k) = go (f k) refl (below_is k)
    where
      go : (b : Bool) → f k ≡ b → Below k (last_below f k) → Below (suc k) (cond b (suc k) (last_below f k))
      go true e ih =
          record {
            within = omega arith;
            passes = λ j q. let same : j ≡ k = omega arith in rw same e;
            none = λ i l h. absurd (omega arith);
          }
      go false e ih =
          record {
            within = omega arith;
            passes = ih.passes;
            none = λ i l h. elim (eq_or_below {a = i} {b = k} (omega arith)) [
              | inl same ↦ rw same e
              | inr less ↦ ih.none i l less
            ];
          }

  pub below_eq : (k r : ℕ) → Below k r → last_below f k ≡ r
  below_eq k r a = go (dec_le r (last_below f k)) (dec_le (last_below f k) r)
    where
      u : Below k (last_below f k)
      u = below_is k

      go : Dec (r ≤ last_below f k) → Dec (last_below f k ≤ r) → last_below f k ≡ r
      go (yes p) (yes q) = omega arith
      go (yes p) (no q) =
          absurd (true≢false (sym (u.passes (last_below f k - 1) (omega arith)) ∙ a.none (last_below f k - 1) (omega arith) (omega (arith, u.within))))
      go (no p) q =
          absurd (true≢false (sym (a.passes (r - 1) (omega arith)) ∙ u.none (r - 1) (omega arith) (omega (arith, a.within))))

  -- a lower bound that does not cut it off
  pub below_lower : (k h : ℕ) → last_below f k ≤ h → h ≤ k → last_below f h ≡ last_below f k
  below_lower k h l g =
      let u = below_is k in
      below_eq h (last_below f k) (record { within = l; passes = u.passes; none = λ i a b. u.none i a (omega arith) })

  -- it is its own: nothing is above it
  pub below_again : (k r : ℕ) → r ≡ last_below f k → last_below f r ≡ r
  below_again k r e =
      let u = below_is k in
      rw e (below_lower k (last_below f k) (omega arith) u.within)

-- two tests that pass alike
pub below_same : (f g : ℕ → Bool) (k : ℕ) → ((i : ℕ) → i < k → f i ≡ g i) → last_below f k ≡ last_below g k
below_same f g k same =
    let u = below_is g k in
    below_eq f k (last_below g k)
    (record {
      within = u.within;
      passes = λ j e. same j (omega (arith, u.within)) ∙ u.passes j e;
      none = λ i l h. same i h ∙ u.none i l h;
    })
