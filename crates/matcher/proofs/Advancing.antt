-- Laws of steps made one after the other with their list: none, one, some that find nothing, and some more after them.
-- Assumes nothing.
use mathlib.Core.Path.{◌≡◌, refl, sym, ap, ◌∙◌}
use mathlib.Core.Bool.{Bool, true, false, cond, true≢false}
use mathlib.Core.List.{List, [], ◌++◌}
use Prim.Native.Nat.{ℕ, ◌+◌, ◌-◌, ◌≤◌, ◌<◌}
use native.Mathlib.Nat.{add-zero, sub-zero}
use native.Mathlib.Omega.{arith}
use borrow.Author.Tests.{ltb-true, ltb-false}
use lib.ListN.{length, get_or, take}
use lib.Seq.{length-take-le, take_all}
use Rattle.bits.specs.Packed.{Packed}
use Rattle.rules.specs.declared.Method.{Method}
use Rattle.rules.specs.Pattern.{Pattern}
use Rattle.rules.specs.Occurrence.{places}
use Rattle.rules.specs.Step.{finds, next}
use Rattle.rules.specs.Machine.{full, run, after, cut}
use Rattle.matcher.specs.Progress.{Reaches, Writing, Stepped, Advanced}
use Rattle.rules.proofs.Step.{next_le}
use Rattle.matcher.proofs.Progress.{reaches_none, reaches_step, reaches_join, run_to_cut, whole}
use Rattle.matcher.proofs.Writing.{writing_none, writing_append, writing_length}

-- the steps counted after one step more: one that was cut is not
abbrev pub counted : Bool → ℕ → ℕ
counted no_cell steps = cond no_cell steps (steps + 1)

module _ (x : Method) (t : Packed) (w : Pattern) where
  -- steps that find nothing
  pub advanced_quiet : (s budget : ℕ) (before : List ℕ) (had at steps : ℕ) → had ≤ length before → Reaches x t w s steps [] at → steps ≤ budget → at ≤ places t w
      → Advanced x t w s budget before had at steps had false before
  advanced_quiet s budget before had at steps h r k l =
      record {
        found = [];
        writing = writing_none before had h;
        within = k;
        inside = λ _. l;
        goes = λ _. r;
        stops = λ e. absurd (true≢false (sym e));
      }

  -- no step
  pub advanced_none : (s budget : ℕ) (before : List ℕ) (had : ℕ) → had ≤ length before → s ≤ places t w → Advanced x t w s budget before had s 0 had false before
  advanced_none s budget before had h l = advanced_quiet s budget before had s 0 h (reaches_none x t w s) (omega arith) l

  -- a step whose places all have cells
  pub whole_step : (at had hits at' : ℕ) (list list' : List ℕ) → had ≤ length list → Stepped x t w at list had at' hits false list'
      → (at' ≡ next x t w at) × Writing list had (finds x t w at) list' hits
  whole_step at had hits at' list list' h u =
      let room : length (finds x t w at) ≤ length list - had = ltb-false _ _ (sym u.is_full) in
      let all : take (length list - had) (finds x t w at) ≡ finds x t w at = take_all _ _ room in
      let count : hits ≡ had + length (finds x t w at) = rw all at u.count in
      (u.mark, record { cells = rw all at u.cells; count = count; fits = omega arith })

  -- a step that finds a place without a cell
  cut_here : (s budget cells at : ℕ) → s < places t w → 0 < budget → cells < length (finds x t w s) → at ≡ get_or (finds x t w s) cells 0
      → run x t w budget s cells ≡ record { steps = 0; written = take cells (finds x t w s); mark = at; ending = full at }
  unfolding cut after
  cut_here s budget cells at l b few e =
      run_to_cut x t w s 0 s [] (reaches_none x t w s) budget cells (omega arith) b l (rw (sub-zero cells) few)
      ∙ rw (sub-zero cells, e) refl

  -- one step
  pub advanced_one : (s budget : ℕ) (before : List ℕ) (had at hits : ℕ) (no_cell : Bool) (list : List ℕ) → had ≤ length before → s < places t w → 0 < budget
      → Stepped x t w s before had at hits no_cell list → Advanced x t w s budget before had at (counted no_cell 0) hits no_cell list
  advanced_one s budget before had at hits false list h l b u =
      let one = whole_step s had hits at before list h u in
      record {
        found = finds x t w s;
        writing = one.1;
        within = omega arith;
        inside = λ _. rw one.0 (next_le x t w s);
        goes = λ _. rw one.0 (reaches_step x t w s l);
        stops = λ e. absurd (true≢false (sym e));
      }
  advanced_one s budget before had at hits true list h l b u =
      let few : length before - had < length (finds x t w s) = ltb-true _ _ (sym u.is_full) in
      record {
        found = take (length before - had) (finds x t w s);
        writing = record { cells = u.cells; count = u.count; fits = omega (arith, u.count, length-take-le (length before - had) (finds x t w s) (omega arith)) };
        within = omega arith;
        inside = λ e. absurd (true≢false e);
        goes = λ e. absurd (true≢false e);
        stops = λ _. cut_here s budget (length before - had) at l b few u.mark;
      }

  -- some steps, and some more after them
  pub advanced_join : (s budget : ℕ) (before : List ℕ) (had at steps hits : ℕ) (list : List ℕ) (at' more hits' : ℕ) (no_cell : Bool) (list' : List ℕ)
      → had ≤ length before → Advanced x t w s budget before had at steps hits false list → Advanced x t w at (budget - steps) list hits at' more hits' no_cell list'
      → Advanced x t w s budget before had at' (steps + more) hits' no_cell list'
  unfolding after
  advanced_join s budget before had at steps hits list at' more hits' no_cell list' h a b =
      let same : length list ≡ length before = writing_length before had a.found list hits a.writing in
      let free : length before - had - length a.found ≡ length list - hits = omega (arith, a.writing.count) in
      let fits : length a.found ≤ length before - had = omega (arith, a.writing.count, a.writing.fits) in
      record {
        found = a.found ++ b.found;
        writing = writing_append before had a.found list hits b.found list' hits' a.writing b.writing;
        within = omega (arith, a.within, b.within);
        inside = b.inside;
        goes = λ e. reaches_join x t w s at at' steps more a.found b.found (a.goes refl) (b.goes e);
        stops = λ e.
            whole x t w s steps at a.found (a.goes refl) budget (length before - had) fits (budget - steps) (omega (arith, a.within))
            ∙ ap (λ (n : ℕ). after steps a.found (run x t w (budget - steps) at n)) free
            ∙ ap (after steps a.found) (b.stops e);
      }

  module _ (s budget : ℕ) (before : List ℕ) (had at steps hits : ℕ) (list : List ℕ) (h : had ≤ length before) (a : Advanced x t w s budget before had at steps hits false list) where
    -- a step more
    pub advanced_step : (at' hits' : ℕ) (no_cell : Bool) (list' : List ℕ) → at < places t w → steps < budget → Stepped x t w at list hits at' hits' no_cell list'
        → Advanced x t w s budget before had at' (counted no_cell steps) hits' no_cell list'
    advanced_step at' hits' no_cell list' l b u =
        let same : length list ≡ length before = writing_length before had a.found list hits a.writing in
        rw (counted_after no_cell) at
        (advanced_join s budget before had at steps hits list at' (counted no_cell 0) hits' no_cell list' h a
        (advanced_one at (budget - steps) list hits at' hits' no_cell list' (omega (arith, a.writing.fits)) l (omega arith) u))
      where
        counted_after : (no_cell : Bool) → steps + counted no_cell 0 ≡ counted no_cell steps
        counted_after false = refl
        counted_after true = add-zero steps

    -- steps more that find nothing
    pub advanced_more : (at' more : ℕ) → Reaches x t w at more [] at' → steps + more ≤ budget → at' ≤ places t w
        → Advanced x t w s budget before had at' (steps + more) hits false list
    advanced_more at' more r k l =
        let same : length list ≡ length before = writing_length before had a.found list hits a.writing in
        advanced_join s budget before had at steps hits list at' more hits false list h a
        (advanced_quiet at (budget - steps) list hits at' more (omega (arith, a.writing.fits)) r (omega arith) l)
