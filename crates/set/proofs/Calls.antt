-- What is true of every list of calls for a set that each meet the call's promise, the first from mark 0 and each from the mark
-- that the one before left.
-- Assumes nothing.
use Rattle.std.specs.Prelude.{Ok, Err}
use Prim.Native.Nat.{ℕ, ◌≤◌}
use mathlib.Core.Path.{◌≡◌, refl, sym, ap, ◌∙◌}
use mathlib.Core.Logic.{◌↔◌}
use mathlib.Core.List.Memᴰ
use mathlib.Core.List.{List, [], ◌∷◌, map, Memᴰ}
use mathlib.Core.Option.{some, some-injective}
use native.Mathlib.Omega.{arith}
use Rattle.bits.specs.Packed.{Packed}
use Rattle.rules.specs.Machine.{done}
use Rattle.search.specs.Verdict.{refused, accepted}
use Rattle.search.specs.Calls.{Result}
use Rattle.search.proofs.Verdict.{judge_accepted}
use Rattle.search.proofs.Passed.{Passed, none_passed, one_passed, both_passed, InBudget, none_spent, each_of}
use Rattle.set_rules.specs.PatternSet.{PatternSet, set_places}
use Rattle.set_rules.specs.Hits.{all_hits}
use Rattle.set_rules.specs.SetMachine.{SetLeft}
use Rattle.set_rules.specs.Verdict.{Request, rows, room_in, machine, verdict}
use Rattle.set.specs.Promise.{Outcome, number_of_refusal, Searched}
use Rattle.set.specs.Calls.{request_of, Call, mark_of, pairs_in, steps_of, stop_of, Made, answer_of, result_of, results, result_by, machine_results, last_mark, joined, all_steps, last_stop, NoneFits, Whole}
use Rattle.set_rules.proofs.Hits.{all_append, all_none, all_order, all_exactly, pairs_cells, places_below, places_least}
use Rattle.set_rules.proofs.SetMachine.{left}
use Rattle.set.proofs.Rows.{allowed}

-- an accepted call ran the machine, from a mark that is a place or E
pub accepted_left : (q : Request) → verdict q ≡ accepted (machine q) → SetLeft q.text q.patterns q.mark q.budget (room_in q.list) (machine q)
unfolding machine verdict
accepted_left q h =
    let fail = (judge_accepted (machine q) (rows q.text q.patterns q.mark) (machine q) h).0 in
    left q.text q.patterns q.budget q.mark (room_in q.list) (allowed q.text q.patterns q.mark fail).inside

-- One call, refused or accepted.
one : (q : Request) (o : Outcome) (list : List ℕ) → q.mark ≤ set_places q.text q.patterns → Searched q o list
    → Passed (all_hits q.text q.patterns) (set_places q.text q.patterns) q.mark (pairs_in o list) (steps_of o) (stop_of o) (mark_of q.mark o)
one q (Ok a) list h c =
    let l = accepted_left q c.verdict_is in
    let is = c.answer in
    one_passed _ _ q.mark _ _ _ _
    (rw (is.mark, is.occurrences, c.list_is) (pairs_cells (machine q).written _ ∙ l.written_are))
    (omega (arith, l.low, is.mark))
    (omega (arith, l.high, is.mark))
    (λ d. is.mark ∙ l.done_iff.0 (sym is.ending ∙ d), λ m. is.ending ∙ l.done_iff.1 (sym is.mark ∙ m))
    (omega (arith, l.moved, is.steps, is.mark))
one q (Err r) list h c = none_passed _ _ q.mark (all_none q.text q.patterns q.mark) h

kept : (q : Request) (o : Outcome) (list : List ℕ) → Searched q o list → InBudget q.budget (steps_of o) (stop_of o)
kept q (Ok a) list c =
    let l = accepted_left q c.verdict_is in
    let is = c.answer in
    record {
      spent_all = λ e. is.steps ∙ l.spent_all (sym is.ending ∙ some-injective _ _ e);
      within = omega (arith, l.within, is.steps);
    }
kept q (Err r) list c = none_spent q.budget

-- The same of a list of calls from the mark s.
from : (t : Packed) (ws : PatternSet) (calls : List Call) (s : ℕ) → s ≤ set_places t ws → Made t ws s calls
    → Passed (all_hits t ws) (set_places t ws) s (joined calls) (all_steps calls) (last_stop calls) (last_mark s calls)
unfolding last_mark joined all_steps last_stop
from t ws [] s h m = none_passed _ _ s (all_none t ws s) h
from t ws (c ∷ cs) s h m =
    let first = one (request_of t ws s c.asked) c.outcome c.list_after h m.0 in
    both_passed _ _ s (all_append t ws) _ _ _ _ _ _ _ _ first (from t ws cs (mark_of s c.outcome) first.high m.1)

each_kept : (t : Packed) (ws : PatternSet) (calls : List Call) (s : ℕ) → Made t ws s calls
    → (c : Call) → Memᴰ c calls → InBudget c.asked.budget (steps_of c.outcome) (stop_of c.outcome)
each_kept t ws [] s m c i = absurd (Memᴰ.not-nil i)
each_kept t ws (d ∷ ds) s m c i =
    each_of (λ c. InBudget c.asked.budget (steps_of c.outcome) (stop_of c.outcome)) d ds
    (kept (request_of t ws s d.asked) d.outcome d.list_after m.0)
    (each_kept t ws ds (mark_of s d.outcome) m.1)
    c i

-- each call gave what the machine gives, or its refusal
result_is : (q : Request) (c : Call) → Searched q c.outcome c.list_after → result_of q.mark c ≡ result_by q (verdict q)
result_is q c h = go c.outcome h
  where
    go : (o : Outcome) → Searched q o c.list_after → record { answer = answer_of o; list = c.list_after; mark = mark_of q.mark o } ≡ result_by q (verdict q)
    go (Ok a) h =
        let is = h.answer in
        rw h.verdict_is (λ i. record {
          answer = accepted (record { steps = is.steps i; occurrences = is.occurrences i; mark = is.mark i; ending = is.ending i });
          list = h.list_is i;
          mark = is.mark i;
        })
    go (Err r) h =
        rw h.verdict_is (λ i. record { answer = refused (number_of_refusal r); list = h.list_is i; mark = q.mark })

results_from : (t : Packed) (ws : PatternSet) (calls : List Call) (s : ℕ) → Made t ws s calls
    → results s calls ≡ machine_results t ws s (map (λ (c : Call). c.asked) calls)
unfolding results machine_results
results_from t ws [] s m = refl
results_from t ws (c ∷ cs) s m =
    rw (← (result_is (request_of t ws s c.asked) c m.0))
    (ap (λ (l : List Result). result_of s c ∷ l) (results_from t ws cs (mark_of s c.outcome) m.1))

-- a mark is E just if no pattern fits any more from it on
pub none_fits : (t : Packed) (ws : PatternSet) (s : ℕ) → s ≤ set_places t ws → (s ≡ set_places t ws) ↔ NoneFits t ws s
none_fits t ws s h = (
  λ e i l. omega (arith, places_below t ws i l),
  λ n. omega (arith, places_least t ws s (λ i l. omega (arith, n i l))),
)

-- The theorem: every list of calls, the first from mark 0.
pub whole : (t : Packed) (ws : PatternSet) (calls : List Call) → Made t ws 0 calls → Whole t ws calls
whole t ws calls m =
    let f = from t ws calls 0 (omega arith) m in
    let kept = each_kept t ws calls 0 m in
    record {
      results_are = results_from t ws calls 0 m;
      pairs_are = f.found_are;
      in_order = rw f.found_are (all_order t ws 0 (last_mark 0 calls));
      exactly = λ h.
          let are = all_exactly t ws 0 (last_mark 0 calls) h in
          rw f.found_are (λ i. ((are.0 i).0, (are.0 i).2), λ o. are.1 (o.0, omega arith, o.1));
      finished = λ e h.
          let i = f.finished e h in
          let k = none_fits t ws (last_mark 0 calls) f.high in
          (λ d. k.0 (i.0 d), λ n. i.1 (k.1 n));
      spent_all = λ c i. (kept c i).spent_all;
      within = λ c i. (kept c i).within;
      bounded = omega (arith, f.bounded);
    }

-- So a list of calls that ends with done has written all hits.
pub complete : (t : Packed) (ws : PatternSet) (calls : List Call) → Made t ws 0 calls → last_stop calls ≡ some done
    → joined calls ≡ all_hits t ws 0 (set_places t ws)
complete t ws calls m h =
    let f = from t ws calls 0 (omega arith) m in
    f.found_are ∙ ap (all_hits t ws 0) ((f.finished done h).0 refl)
