-- Laws about what is told: the answer cells after stores, and which way a call goes by the number of its answer cells.
-- Assumes nothing.
use Prim.Native.Nat.{ℕ, ◌≤◌, ◌<◌}
use mathlib.Core.Path.{◌≡◌, refl}
use mathlib.Core.List.{List, [], ◌∷◌}
use native.Mathlib.Omega.{arith}
use lib.ListN.{length, set}
use borrow.Author.Tests.{lt-ltb, le-ltb}
use Rattle.capi.specs.Told.{gives, refuses, answer_after, unless_cells, Tells}

pub one_cell : (l : List ℕ) (a : ℕ) → 1 ≤ length l → set l 0 a ≡ answer_after (gives (a ∷ [])) l
one_cell [] a h = absurd (omega arith)
one_cell (x ∷ l) a h = refl

pub two_cells : (l : List ℕ) (a b : ℕ) → 2 ≤ length l → set (set l 0 a) 1 b ≡ answer_after (gives (a ∷ b ∷ [])) l
two_cells [] a b h = absurd (omega arith)
two_cells (w ∷ []) a b h = absurd (omega arith)
two_cells (w ∷ x ∷ l) a b h = refl

pub three_cells : (l : List ℕ) (a b c : ℕ) → 3 ≤ length l → set (set (set l 0 a) 1 b) 2 c ≡ answer_after (gives (a ∷ b ∷ c ∷ [])) l
three_cells [] a b c h = absurd (omega arith)
three_cells (w ∷ []) a b c h = absurd (omega arith)
three_cells (w ∷ x ∷ []) a b c h = absurd (omega arith)
three_cells (w ∷ x ∷ y ∷ l) a b c h = refl

pub four_cells : (l : List ℕ) (a b c d : ℕ) → 4 ≤ length l
    → set (set (set (set l 0 a) 1 b) 2 c) 3 d ≡ answer_after (gives (a ∷ b ∷ c ∷ d ∷ [])) l
four_cells [] a b c d h = absurd (omega arith)
four_cells (w ∷ []) a b c d h = absurd (omega arith)
four_cells (w ∷ x ∷ []) a b c d h = absurd (omega arith)
four_cells (w ∷ x ∷ y ∷ []) a b c d h = absurd (omega arith)
four_cells (w ∷ x ∷ y ∷ z ∷ l) a b c d h = refl

module _ {A : Type 0} (needed : ℕ) (answer : List ℕ) (a b : A) where
  pub few_cells : length answer < needed → unless_cells needed answer a b ≡ a
  few_cells h = rw (lt-ltb (length answer) needed h)

  pub enough_cells : needed ≤ length answer → unless_cells needed answer a b ≡ b
  enough_cells h = rw (le-ltb (length answer) needed h)

-- a refusal leaves the answer cells
pub refusing : (k : ℕ) (answer : List ℕ) → Tells (refuses k) answer k answer
refusing k answer = record { result_is = refl; answer_is = refl }
