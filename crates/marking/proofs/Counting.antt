-- Laws of a sitting's counts and sheets at an index.
use Prim.Native.Nat.{ℕ, ◌+◌, ◌≤◌, ◌<◌}
use mathlib.Core.Path.{◌≡◌, refl, sym, ap, ◌∙◌}
use mathlib.Core.Bool.{Bool, true, false, ◌&&◌}
use mathlib.Core.List.{List, [], ◌∷◌}
use borrow.Author.Tests.{eq-eqb, ne_eqb, eqb-true, eqb-false}
use lib.Dec.{eqb}
use lib.ListN.{length, get_or, take, drop, drop_of_length-le}
use Rattle.positions.specs.Rising.{rising}
use Rattle.positions.proofs.Rising.{and_both, here}
use Rattle.marking.specs.Sitting.{sum, sheets_of, all_rise}

module _ (counts : List ℕ) (i : ℕ) (h : i < length counts) where
  pub sum_here : sum (drop i counts) ≡ get_or counts i 0 + sum (drop (i + 1) counts)
  unfolding sum
  sum_here = ap sum (here counts i h)

  -- the sheet at an index of the counts comes first in the cells that are left, and then the sheets after it
  pub sheets_here : (cells : List ℕ)
      → sheets_of cells (drop i counts) ≡ take (get_or counts i 0) cells ∷ sheets_of (drop (get_or counts i 0) cells) (drop (i + 1) counts)
  unfolding sheets_of
  sheets_here cells = rw (here counts i h)

  -- whether it rises is decided first
  pub rise_here : (cells : List ℕ)
      → all_rise (sheets_of cells (drop i counts))
      ≡ (rising (take (get_or counts i 0) cells) && all_rise (sheets_of (drop (get_or counts i 0) cells) (drop (i + 1) counts)))
  unfolding all_rise
  rise_here cells = rw (sheets_here cells)

  pub rise_taken : (cells : List ℕ) → all_rise (sheets_of cells (drop i counts)) ≡ true
      → (rising (take (get_or counts i 0) cells) ≡ true) × (all_rise (sheets_of (drop (get_or counts i 0) cells) (drop (i + 1) counts)) ≡ true)
  rise_taken cells e = and_both (rising (take (get_or counts i 0) cells)) (all_rise (sheets_of (drop (get_or counts i 0) cells) (drop (i + 1) counts))) (sym (rise_here cells) ∙ e)

module _ (counts : List ℕ) (i : ℕ) (h : length counts ≤ i) where
  pub sum_end : sum (drop i counts) ≡ 0
  unfolding sum
  sum_end = rw (drop_of_length-le counts h)

  pub sheets_end : (cells : List ℕ) → sheets_of cells (drop i counts) ≡ []
  unfolding sheets_of
  sheets_end cells = rw (drop_of_length-le counts h)

-- two tests of numbers that are equal together
pub same_test : (a b c d : ℕ) → (a ≡ b → c ≡ d) → (c ≡ d → a ≡ b) → eqb a b ≡ eqb c d
same_test a b c d f g = go (eqb a b) refl
  where
    go : (t : Bool) → eqb a b ≡ t → eqb a b ≡ eqb c d
    go true h = h ∙ sym (eq-eqb c d (f (eqb-true a b h)))
    go false h = h ∙ sym (ne_eqb c d (λ e. eqb-false a b h (g e)))
