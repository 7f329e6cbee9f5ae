-- Laws of agreement with the pattern: whoever has to know what it is uses these and not its text.
use Prim.Native.Nat.{ℕ, ◌-◌, ◌<◌, max}
use mathlib.Core.Path.{◌≡◌, refl, sym, ◌∙◌}
use mathlib.Core.Logic.{◌↔◌, ◌⊎◌, inl, inr, ⊎_elim}
use mathlib.Core.Bool.{Bool, true, false, true≢false, cond}
use native.Mathlib.Omega.{arith}
use lib.Dec.{eqb}
use borrow.Author.Tests.{eqb-true, eq-eqb}
use Rattle.bits.specs.Packed.{bit_at}
use Rattle.bits.proofs.Weight.{bit_or_bit}
use Rattle.bits.proofs.Run.{bit_lt}
use Rattle.rules.specs.Pattern.{Pattern, is_fixed, agrees}
use Rattle.rules.proofs.Ranges.{not_true_false, implies_to, to_implies}

-- a bit is fixed just if the second run has a 1 there
pub fixed_iff : (w : Pattern) (j : ℕ) → (is_fixed w j ≡ true) ↔ (bit_at w.fixed j ≡ 1)
unfolding is_fixed
fixed_iff w j = (eqb-true (bit_at w.fixed j) 1, eq-eqb (bit_at w.fixed j) 1)

-- and wild just if it has a 0
pub wild_iff : (w : Pattern) (j : ℕ) → (is_fixed w j ≡ false) ↔ (bit_at w.fixed j ≡ 0)
wild_iff w j = (
  λ e. ⊎_elim (λ z. z) (λ o. absurd (true≢false (sym ((fixed_iff w j).1 o) ∙ e))) (bit_or_bit (bit_at w.fixed j) (bit_lt w.fixed j)),
  λ z. not_true_false _ (λ t. absurd (omega (arith, (fixed_iff w j).0 t))),
)

pub fixed_bit : (w : Pattern) (j : ℕ) → bit_at w.fixed j ≡ cond (is_fixed w j) 1 0
fixed_bit w j = go (is_fixed w j) refl
  where
    go : (b : Bool) → is_fixed w j ≡ b → bit_at w.fixed j ≡ cond b 1 0
    go true e = (fixed_iff w j).0 e
    go false e = (wild_iff w j).0 e

-- a bit agrees with the pattern just if it equals the pattern's bit or that is wild
pub agrees_iff : (w : Pattern) (j b : ℕ) → (agrees w j b ≡ true) ↔ (is_fixed w j ≡ true → b ≡ bit_at w.bytes j)
unfolding agrees
agrees_iff w j b = (
  λ a f. eqb-true b (bit_at w.bytes j) (implies_to (is_fixed w j) _ a f),
  λ h. to_implies (is_fixed w j) _ (λ f. eq-eqb b (bit_at w.bytes j) (h f)),
)

-- "wild bits agree with both values"
pub agrees_wild : (w : Pattern) (j b : ℕ) → is_fixed w j ≡ false → agrees w j b ≡ true
agrees_wild w j b e = (agrees_iff w j b).1 (λ f. absurd (true≢false (sym f ∙ e)))

-- at a fixed bit agreement is equality
pub agrees_fixed : (w : Pattern) (j b : ℕ) → is_fixed w j ≡ true → agrees w j b ≡ eqb b (bit_at w.bytes j)
unfolding agrees
agrees_fixed w j b e = rw e

-- the same by the bits of the two runs
pub agrees_by : (w : Pattern) (j b : ℕ) → (agrees w j b ≡ true) ↔ (bit_at w.fixed j ≡ 1 → b ≡ bit_at w.bytes j)
agrees_by w j b = (
  λ a f. (agrees_iff w j b).0 a ((fixed_iff w j).1 f),
  λ h. (agrees_iff w j b).1 (λ f. h ((fixed_iff w j).0 f)),
)

-- whether a 1 agrees, and whether a 0 does, as numbers
agrees_number : (w : Pattern) (p c x : ℕ) → x < 2
    → (bit_at w.fixed p ≡ 1 → c ≡ bit_at w.bytes p → x ≡ 1) → (bit_at w.fixed p ≡ 1 → (c ≡ bit_at w.bytes p → ⊥) → x ≡ 0)
    → cond (agrees w p c) 1 0 ≡ max x (1 - bit_at w.fixed p)
agrees_number w p c x few one zero = go (agrees w p c) refl (bit_or_bit (bit_at w.fixed p) (bit_lt w.fixed p))
  where
    go : (a : Bool) → agrees w p c ≡ a → (bit_at w.fixed p ≡ 0) ⊎ (bit_at w.fixed p ≡ 1) → cond a 1 0 ≡ max x (1 - bit_at w.fixed p)
    go true e (inl f) = omega arith
    go false e (inl f) = absurd (true≢false (sym (agrees_wild w p c ((wild_iff w p).1 f)) ∙ e))
    go true e (inr f) = omega (arith, one f ((agrees_by w p c).0 e f))
    go false e (inr f) = omega (arith, zero f (λ s. true≢false (sym ((agrees_by w p c).1 (λ _. s)) ∙ e)))

pub agrees_one : (w : Pattern) (p : ℕ) → cond (agrees w p 1) 1 0 ≡ max (bit_at w.bytes p) (1 - bit_at w.fixed p)
agrees_one w p =
    agrees_number w p 1 _ (bit_lt w.bytes p) (λ f e. sym e) (λ f o. ⊎_elim (λ z. z) (λ e. absurd (o (sym e))) (bit_or_bit _ (bit_lt w.bytes p)))

pub agrees_zero : (w : Pattern) (p : ℕ) → cond (agrees w p 0) 1 0 ≡ max (1 - bit_at w.bytes p) (1 - bit_at w.fixed p)
agrees_zero w p =
    agrees_number w p 0 _ (omega arith) (λ f e. omega arith) (λ f o. ⊎_elim (λ e. absurd (o (sym e))) (λ z. omega arith) (bit_or_bit _ (bit_lt w.bytes p)))
