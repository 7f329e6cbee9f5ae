-- From the steps that a call has made to what it leaves: the run of the machine.
-- Assumes nothing.
use mathlib.Core.Path.{◌≡◌, refl, sym, ap, ◌∙◌}
use mathlib.Core.Bool.{Bool, true, false}
use borrow.Author.Tests.{ltb-true}
use mathlib.Core.List.{List, ◌++◌, append-nil}
use Prim.Native.Nat.{ℕ, ◌≤◌, ◌<◌, ◌+◌, ◌-◌}
use native.Mathlib.Nat.{add-zero, zero-add, sub-zero}
use native.Mathlib.Decide.{dec_le}
use native.Mathlib.Omega.{arith}
use lib.ListN.{length, drop, take}
use lib.Seq.{sets-eq, length-sets, length-take-le}
use Rattle.bits.specs.Packed.{Packed}
use Rattle.rules.specs.declared.Method.{Method}
use Rattle.rules.specs.Pattern.{Pattern}
use Rattle.rules.specs.Occurrence.{places}
use Rattle.rules.specs.Machine.{Run, run, after, stopped}
use Rattle.rules.specs.Step.{finds}
use Rattle.matcher.specs.Progress.{Writing, Stepped, Advanced}
use Rattle.search.specs.Parts.{Ran, ending_at}
use Rattle.matcher.proofs.Progress.{run_to_budget, run_to_end}
use Rattle.matcher.proofs.Writing.{writing_length}
use Rattle.matcher.proofs.Advancing.{advanced_step, advanced_join}
use Rattle.matcher.proofs.Rest.{rest_of, with_rest, stepped_rest, advanced_rest}

-- what is written stands in front, and the cells after it are as they were
pub writing_front : (before found list : List ℕ) (hits : ℕ) → Writing before 0 found list hits → list ≡ found ++ drop (length found) before
writing_front before found list hits u =
    u.cells ∙ sets-eq found before 0 (omega (arith, u.count, u.fits)) ∙ ap (λ (n : ℕ). found ++ drop n before) (zero-add (length found))

module _ (x : Method) (t : Packed) (w : Pattern) (s budget : ℕ) (before : List ℕ) where
  -- what is left against a run that is known
  ran_is : (list : List ℕ) (at steps hits : ℕ) (no_cell : Bool) (r : Run) → run x t w budget s (length before) ≡ r
      → steps ≡ r.steps → hits ≡ length r.written → at ≡ r.mark → ending_at no_cell at (places t w) ≡ r.ending
      → list ≡ r.written ++ drop (length r.written) before → Ran x t w s budget before at steps hits no_cell list
  ran_is list at steps hits no_cell r is a b c d e =
      record {
        steps_are = a ∙ ap (λ (o : Run). o.steps) (sym is);
        hits_are = b ∙ ap (λ (o : Run). length o.written) (sym is);
        mark_is = c ∙ ap (λ (o : Run). o.mark) (sym is);
        ending_is = d ∙ ap (λ (o : Run). o.ending) (sym is);
        list_is = e ∙ ap (λ (o : Run). o.written ++ drop (length o.written) before) (sym is);
      }

  -- the places or the budget are at an end
  pub ran_to_end : (list : List ℕ) (at steps hits : ℕ) → Advanced x t w s budget before 0 at steps hits false list → (at < places t w → steps ≡ budget)
      → Ran x t w s budget before at steps hits false list
  unfolding after stopped
  ran_to_end list at steps hits a e = elim (dec_le (places t w) at) [
    | yes h ↦ ended (run_to_end x t w s steps at a.found (a.goes refl) budget (length before) room a.within h)
    | no h ↦ ended (run_to_budget x t w s steps at a.found (a.goes refl) budget (length before) room (e (omega arith)))
  ]
    where
      room : length a.found ≤ length before
      room = omega (arith, a.writing.count, a.writing.fits)

      ended : run x t w budget s (length before) ≡ after steps a.found (stopped (places t w) at) → Ran x t w s budget before at steps hits false list
      ended is =
          ran_is list at steps hits false _ is
          (sym (add-zero steps))
          (rw append-nil (a.writing.count ∙ zero-add _))
          refl
          refl
          (rw append-nil (writing_front before a.found list hits a.writing))

  -- a place found no cell
  pub ran_to_cut : (list : List ℕ) (at steps hits : ℕ) → Advanced x t w s budget before 0 at steps hits true list → Ran x t w s budget before at steps hits true list
  ran_to_cut list at steps hits a =
      ran_is list at steps hits true _ (rw (sub-zero (length before)) at (a.stops refl))
      refl
      (a.writing.count ∙ zero-add _)
      refl
      refl
      (writing_front before a.found list hits a.writing)

  -- the budget is at an end
  pub ran_spent : (list : List ℕ) (at steps hits : ℕ) → Advanced x t w s budget before 0 at steps hits false list → budget ≤ steps
      → Ran x t w s budget before at steps hits false list
  ran_spent list at steps hits a b = ran_to_end list at steps hits a (λ _. omega (arith, a.within))

  -- a step of its own, after those made, found no cell
  pub ran_cut_step : (list list' : List ℕ) (at steps hits at' hits' : ℕ) (full : Bool) → Advanced x t w s budget before 0 at steps hits false list
      → Stepped x t w at list hits at' hits' full list' → full ≡ true → at < places t w → steps < budget
      → Ran x t w s budget before at' steps hits' true list'
  ran_cut_step list list' at steps hits at' hits' full a u e l b =
      ran_to_cut list' at' steps hits'
      (rw e at (advanced_step x t w s budget before 0 at steps hits list (omega arith) a at' hits' full list' l b u))

  -- a step that leaves a cell free found no place without one
  pub cell_free : (list list' : List ℕ) (at steps hits at' hits' : ℕ) (full : Bool) → Advanced x t w s budget before 0 at steps hits false list
      → Stepped x t w at list hits at' hits' full list' → (hits' ≡ length list' → ⊥) → full ≡ false
  cell_free list list' at steps hits at' hits' false a u n = refl
  cell_free list list' at steps hits at' hits' true a u n =
      let few : length list - hits < length (finds x t w at) = ltb-true _ _ (sym u.is_full) in
      let all : length (take (length list - hits) (finds x t w at)) ≡ length list - hits = length-take-le (length list - hits) (finds x t w at) (omega arith) in
      let same : length list ≡ length before = writing_length before 0 a.found list hits a.writing in
      let size : length list' ≡ length list = ap length u.cells ∙ length-sets list hits (take (length list - hits) (finds x t w at)) in
      absurd (n (omega (arith, u.count, a.writing.fits)))

  -- what a turn begins with: the steps made so far, and the ways out that they lead to
  pub record Turn (at steps hits : ℕ) (list : List ℕ) : Type 0 where
    pub made : Advanced x t w s budget before 0 at steps hits false list
    pub spent : budget ≤ steps → Ran x t w s budget before at steps hits false list
    pub full : (list' : List ℕ) (at' hits' : ℕ) (no_cell : Bool) → Stepped x t w at list hits at' hits' no_cell list' → no_cell ≡ true
        → at < places t w → steps < budget → Ran x t w s budget before at' steps hits' true list'

  pub turn : (list : List ℕ) (at steps hits : ℕ) → Advanced x t w s budget before 0 at steps hits false list → Turn at steps hits list
  turn list at steps hits a =
      record {
        made = a;
        spent = ran_spent list at steps hits a;
        full = λ list' at' hits' no_cell u e l b. ran_cut_step list list' at steps hits at' hits' no_cell a u e l b;
      }

-- A turn of the loop: a step on the rest of the list, and many after it on what is left of that.
module _ (x : Method) (t : Packed) (w : Pattern) (s budget : ℕ) (before list : List ℕ) (at steps hits : ℕ)
    (made : Advanced x t w s budget before 0 at steps hits false list) (inside : at < places t w) (left : steps < budget) where
  pub cells_left : hits ≤ length list
  cells_left = omega (arith, writing_length before 0 made.found list hits made.writing, made.writing.fits)

  module _ (new : List ℕ) (at' wrote : ℕ) (one : Stepped x t w at (rest_of list hits cells_left) 0 at' wrote false new) where
    -- the step
    pub step_more : Advanced x t w s budget before 0 at' (steps + 1) (hits + wrote) false (with_rest list hits cells_left new)
    step_more =
        advanced_step x t w s budget before 0 at steps hits list (omega arith) made at' (hits + wrote) false _ inside left
        (stepped_rest list hits cells_left x t w at at' wrote false new one)

    pub cells_after : hits + wrote ≤ length (with_rest list hits cells_left new)
    cells_after = omega (arith, writing_length before 0 step_more.found _ _ step_more.writing, step_more.writing.fits)

    -- and those after it
    pub many_more : (last : List ℕ) (end k more : ℕ) (no_cell : Bool)
        → Advanced x t w at' (budget - (steps + 1)) (rest_of (with_rest list hits cells_left new) (hits + wrote) cells_after) 0 end k more no_cell last
        → Advanced x t w s budget before 0 end (steps + 1 + k) (hits + wrote + more) no_cell (with_rest (with_rest list hits cells_left new) (hits + wrote) cells_after last)
    many_more last end k more no_cell u =
        advanced_join x t w s budget before 0 at' (steps + 1) (hits + wrote) _ end k (hits + wrote + more) no_cell _ (omega arith) step_more
        (advanced_rest (with_rest list hits cells_left new) (hits + wrote) cells_after x t w at' end more no_cell last (budget - (steps + 1)) k u)
