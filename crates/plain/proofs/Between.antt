-- What holds of each number from a on and before b: one number more, and two stretches in a row.
-- Assumes nothing.
use Prim.Native.Nat.{ℕ, ◌+◌, ◌≤◌, ◌<◌}
use mathlib.Core.Path.{◌≡◌, subst, sym}
use mathlib.Core.Logic.{◌⊎◌, inl, inr}
use native.Mathlib.Decide.{dec_le}
use native.Mathlib.Omega.{arith}
use Rattle.rules.proofs.Ranges.{eq_or_below}

module _ (P : ℕ → Type 0) where
  abbrev pub Between : ℕ → ℕ → Type 0
  Between a b = (p : ℕ) → a ≤ p → p < b → P p

  pub between_none : (a : ℕ) → Between a a
  between_none a p l u = absurd (omega arith)

  pub between_join : (a b c : ℕ) → Between a b → Between b c → Between a c
  between_join a b c f g p l u = elim (dec_le b p) [ yes h ↦ g p h u | no h ↦ f p l (omega arith) ]

  pub between_more : (a b : ℕ) → Between a b → P b → Between a (b + 1)
  between_more a b f x p l u = go (eq_or_below {a = p} {b = b} (omega arith))
    where
      go : (p ≡ b) ⊎ (p < b) → P p
      go (inl e) = subst P (sym e) x
      go (inr h) = f p l h
