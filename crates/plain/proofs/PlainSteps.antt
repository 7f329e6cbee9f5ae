-- Steps of the plain method, from the comparison at a place: places that do not match are passed, one that does is written.
-- Assumes nothing.
use Prim.Native.Nat.{ℕ, zero, suc, ◌+◌, ◌-◌, ◌^◌, ◌≤◌, ◌<◌}
use mathlib.Core.Path.{◌≡◌, refl, sym, ◌∙◌}
use mathlib.Core.Logic.{◌↔◌}
use mathlib.Core.Bool.{Bool, true, false, cond}
use mathlib.Core.List.{List, [], ◌∷◌}
use native.Mathlib.Nat.{add-zero}
use native.Mathlib.Numerals.{add-one}
use native.Mathlib.Omega.{arith}
use lib.ListN.{length, get_or, set}
use Rattle.bits.specs.Packed.{Packed}
use Rattle.rules.specs.declared.Method.TheVariants.{Plain}
use Rattle.rules.specs.Pattern.{Pattern}
use Rattle.rules.specs.Occurrence.{places, matches}
use Rattle.rules.specs.Plain.{plain_finds}
use Rattle.rules.specs.Step.{finds, ahead, next}
use Rattle.matcher.specs.Progress.{Reaches, Stepped, Advanced}
use Rattle.matcher.specs.Ready.{Ready}
use Rattle.matcher.specs.Tables.{row_chunks}
use Rattle.plain.specs.RowCells.{cell_fits}
use Rattle.rules.proofs.Plain.{rows_match}
use Rattle.plain.proofs.RowCells.{fits_matches}
use Rattle.matcher.proofs.Progress.{reaches_none, reaches_quiet}
use Rattle.matcher.proofs.Advancing.{counted, advanced_step, advanced_more}
use Rattle.matcher.proofs.Writing.{stepped_none, stepped_one, stepped_no_cell}

module _ (t : Packed) (w : Pattern) where
  finds_none : (s : ℕ) → matches t w s ≡ false → finds Plain t w s ≡ []
  unfolding finds plain_finds
  finds_none s e = rw (rows_match t w s, e)

  finds_one : (s : ℕ) → matches t w s ≡ true → finds Plain t w s ≡ s ∷ []
  unfolding finds plain_finds
  finds_one s e = rw (rows_match t w s, e)

  next_one : (s : ℕ) → s < places t w → next Plain t w s ≡ s + 1
  unfolding next ahead
  next_one s h = omega arith

  -- d places that do not match are d steps that find nothing
  passed : (s d : ℕ) → s + d ≤ places t w → ((p : ℕ) → s ≤ p → p < s + d → matches t w p ≡ false) → Reaches Plain t w s d [] (s + d)
  passed s zero h f = rw (add-zero s) (reaches_none Plain t w s)
  passed s (suc d) h f =
      let there : next Plain t w (s + d) ≡ s + suc d = next_one (s + d) (omega arith) ∙ omega arith in
      rw (there, add-one) at
      (reaches_quiet Plain t w s (s + d) d (passed s d (omega arith) (λ p l u. f p l (omega arith))) (omega arith)
      (finds_none (s + d) (f (s + d) (omega arith) (omega arith))))

  -- the steps from the mark `from` have come to the place `at`, one for each place
  module _ (from budget : ℕ) (before : List ℕ) (had at hits : ℕ) (list : List ℕ) (h : had ≤ length before) (l : from ≤ at)
      (a : Advanced Plain t w from budget before had at (at - from) hits false list) where
    -- places more that do not match
    pub pass_to : (p : ℕ) → at ≤ p → p ≤ places t w → p ≤ from + budget → ((q : ℕ) → at ≤ q → q < p → matches t w q ≡ false)
        → Advanced Plain t w from budget before had p (p - from) hits false list
    pass_to p g i b f =
        let there : at + (p - at) ≡ p = omega arith in
        let steps : at - from + (p - at) ≡ p - from = omega arith in
        rw steps at
        (advanced_more Plain t w from budget before had at (at - from) hits list h a p (p - at)
        (rw there at (passed at (p - at) (omega arith) (λ q k u. f q k (omega arith)))) (omega arith) i)

    -- and the step at the place after them
    pub step_at : (p : ℕ) → at ≤ p → p < places t w → p < from + budget → ((q : ℕ) → at ≤ q → q < p → matches t w q ≡ false)
        → (at' hits' : ℕ) (no_cell : Bool) (list' : List ℕ) → Stepped Plain t w p list hits at' hits' no_cell list'
        → Advanced Plain t w from budget before had at' (cond no_cell (p - from) (p + 1 - from)) hits' no_cell list'
    step_at p g i b f at' hits' no_cell list' u =
        rw (passed_places no_cell) at
        (advanced_step Plain t w from budget before had p (p - from) hits list h (pass_to p g (omega arith) (omega arith) f)
        at' hits' no_cell list' i (omega arith) u)
      where
        passed_places : (no_cell : Bool) → counted no_cell (p - from) ≡ cond no_cell (p - from) (p + 1 - from)
        passed_places false = omega arith
        passed_places true = refl

  -- one step, from a test r of all cells of the row at s
  module _ (cells : List ℕ) (ready : Ready Plain t w cells) (small : (x : ℕ) → get_or cells x 0 < 2 ^ 64) (s : ℕ) (inside : s < places t w)
      (before : List ℕ) (had : ℕ) (fits : had ≤ length before) (r : Bool)
      (iff : (r ≡ true) ↔ ((k : ℕ) → 0 ≤ k → k < row_chunks w.count → cell_fits t.bytes cells s k ≡ true)) where
    same : r ≡ matches t w s
    same = fits_matches t w cells ready.tables s small r iff

    pub step_none : r ≡ false → Stepped Plain t w s before had (s + 1) had false before
    step_none e = rw (next_one s inside) at (stepped_none Plain t w s before had (finds_none s (sym same ∙ e)) fits)

    pub step_one : r ≡ true → had < length before → Stepped Plain t w s before had (s + 1) (had + 1) false (set before had s)
    step_one e h = rw (next_one s inside) at (stepped_one Plain t w s before had (finds_one s (sym same ∙ e)) h)

    pub step_full : r ≡ true → length before ≤ had → Stepped Plain t w s before had s had true before
    step_full e h = stepped_no_cell Plain t w s before had (finds_one s (sym same ∙ e)) (omega arith)
