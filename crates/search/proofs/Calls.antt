-- Demand 3: what is true of every list of calls that each meet the search call's promise, the first from mark 0 and each
-- from the mark that the one before left.
use Rattle.std.specs.Prelude.{Ok, Err}
use Prim.Native.Nat.{ℕ, ◌≤◌}
use mathlib.Core.Path.{◌≡◌, refl, sym, ap, ◌∙◌}
use mathlib.Core.List.Memᴰ
use mathlib.Core.List.{List, [], ◌∷◌, map, Memᴰ}
use mathlib.Core.Option.{some, some-injective}
use native.Mathlib.Omega.{arith}
use lib.ListN.{length}
use lib.Seq.{take_at}
use borrow.Author.Tests.{ltb-false}
use Rattle.bits.specs.Packed.{Packed}
use Rattle.rules.specs.Pattern.{Pattern}
use Rattle.rules.specs.Occurrence.{places, occurrences}
use Rattle.rules.specs.Machine.{done, Left}
use Rattle.search.specs.Verdict.{Outcome, Request, rows, refused, accepted, machine, verdict, number_of_refusal, Searched}
use Rattle.search.specs.Calls.{request_of, Call, mark_of, places_of, steps_of, stop_of, Made, Result, answer_of, result_of, results, result_by, machine_results, last_mark, joined, all_steps, last_stop, Whole}
use Rattle.rules.proofs.Occurrence.{occurrences_append, occurrences_none, occurrences_rising, occurrences_exactly}
use Rattle.rules.proofs.Machine.{left}
use Rattle.search.proofs.Verdict.{accepted_iff}
use Rattle.search.proofs.Passed.{Passed, none_passed, one_passed, both_passed, InBudget, none_spent, each_of}

-- an accepted call ran the machine, from a mark that is a place or E
pub accepted_left : (q : Request) → verdict q ≡ accepted (machine q) → Left q.text q.pattern q.mark q.budget (length q.list) (machine q)
unfolding machine rows
accepted_left q h =
    let fail = (accepted_iff q).0 h in
    let fit = fail.1.1.1.1.1.0 in
    let low = fail.1.1.1.1.1.1.0 in
    left q.method q.text q.pattern fit q.budget q.mark (length q.list) (omega (arith, ltb-false))

-- no place lies between a mark and itself
none_between : (t : Packed) (w : Pattern) (s : ℕ) → occurrences t w s s ≡ []
none_between t w s = occurrences_none t w s s (λ p l u. absurd (omega arith))

-- One call, refused or accepted.
one : (q : Request) (o : Outcome) (list scratch : List ℕ) → q.mark ≤ places q.text q.pattern → Searched q o list scratch
    → Passed (occurrences q.text q.pattern) (places q.text q.pattern) q.mark (places_of o list) (steps_of o) (stop_of o) (mark_of q.mark o)
one q (Ok a) list scratch h c =
    let l = accepted_left q c.verdict_is in
    let is = c.answer in
    one_passed _ _ q.mark _ _ _ _
    (rw (is.mark, is.occurrences, c.list_is) (take_at (machine q).written _ _ refl ∙ l.written_are))
    (omega (arith, l.low, is.mark))
    (omega (arith, l.high, is.mark))
    (λ d. is.mark ∙ l.done_iff.0 (sym is.ending ∙ d), λ m. is.ending ∙ l.done_iff.1 (sym is.mark ∙ m))
    (rw (is.steps, is.mark) l.bounded)
one q (Err r) list scratch h c = none_passed _ _ q.mark (none_between q.text q.pattern q.mark) h

kept : (q : Request) (o : Outcome) (list scratch : List ℕ) → Searched q o list scratch → InBudget q.budget (steps_of o) (stop_of o)
kept q (Ok a) list scratch c =
    let l = accepted_left q c.verdict_is in
    let is = c.answer in
    record {
      spent_all = λ e. is.steps ∙ l.spent_all (sym is.ending ∙ some-injective _ _ e);
      within = omega (arith, l.within, is.steps);
    }
kept q (Err r) list scratch c = none_spent q.budget

-- The same of a list of calls from the mark s.
from : (t : Packed) (w : Pattern) (calls : List Call) (s : ℕ) → s ≤ places t w → Made t w s calls
    → Passed (occurrences t w) (places t w) s (joined calls) (all_steps calls) (last_stop calls) (last_mark s calls)
unfolding last_mark joined all_steps last_stop
from t w [] s h m = none_passed _ _ s (none_between t w s) h
from t w (c ∷ cs) s h m =
    let first = one (request_of t w s c.asked) c.outcome c.list_after c.scratch_after h m.0 in
    both_passed _ _ s (occurrences_append t w) _ _ _ _ _ _ _ _ first (from t w cs (mark_of s c.outcome) first.high m.1)

each_kept : (t : Packed) (w : Pattern) (calls : List Call) (s : ℕ) → Made t w s calls
    → (c : Call) → Memᴰ c calls → InBudget c.asked.budget (steps_of c.outcome) (stop_of c.outcome)
each_kept t w [] s m c i = absurd (Memᴰ.not-nil i)
each_kept t w (d ∷ ds) s m c i =
    each_of (λ c. InBudget c.asked.budget (steps_of c.outcome) (stop_of c.outcome)) d ds
    (kept (request_of t w s d.asked) d.outcome d.list_after d.scratch_after m.0)
    (each_kept t w ds (mark_of s d.outcome) m.1)
    c i

-- each call gave what the machine gives, or its refusal
result_is : (q : Request) (c : Call) → Searched q c.outcome c.list_after c.scratch_after → result_of q.mark c ≡ result_by q (verdict q)
result_is q c h = go c.outcome h
  where
    go : (o : Outcome) → Searched q o c.list_after c.scratch_after
        → record { answer = answer_of o; list = c.list_after; mark = mark_of q.mark o } ≡ result_by q (verdict q)
    go (Ok a) h =
        let is = h.answer in
        rw h.verdict_is (λ i. record {
          answer = accepted (record { steps = is.steps i; occurrences = is.occurrences i; mark = is.mark i; ending = is.ending i });
          list = h.list_is i;
          mark = is.mark i;
        })
    go (Err r) h =
        rw h.verdict_is (λ i. record { answer = refused (number_of_refusal r); list = h.list_is i; mark = q.mark })

results_from : (t : Packed) (w : Pattern) (calls : List Call) (s : ℕ) → Made t w s calls
    → results s calls ≡ machine_results t w s (map (λ (c : Call). c.asked) calls)
unfolding results machine_results
results_from t w [] s m = refl
results_from t w (c ∷ cs) s m =
    rw (← (result_is (request_of t w s c.asked) c m.0))
    (ap (λ (l : List Result). result_of s c ∷ l) (results_from t w cs (mark_of s c.outcome) m.1))

-- The theorem: every list of calls, the first from mark 0.
pub whole : (t : Packed) (w : Pattern) (calls : List Call) → Made t w 0 calls → Whole t w calls
whole t w calls m =
    let f = from t w calls 0 (omega arith) m in
    let kept = each_kept t w calls 0 m in
    record {
      results_are = results_from t w calls 0 m;
      places_are = f.found_are;
      rising = rw f.found_are (occurrences_rising t w 0 (last_mark 0 calls));
      exactly = λ p.
          let are = occurrences_exactly t w 0 (last_mark 0 calls) p in
          rw f.found_are (λ i. ((are.0 i).0, (are.0 i).2), λ o. are.1 (o.0, omega arith, o.1));
      finished = λ e h.
          let i = f.finished e h in
          let top = f.high in
          (λ d. let at = i.0 d in omega arith, λ l. i.1 (omega arith));
      spent_all = λ c i. (kept c i).spent_all;
      within = λ c i. (kept c i).within;
      bounded = omega (arith, f.bounded);
    }

-- So a list of calls that ends with done has written all occurrences.
pub complete : (t : Packed) (w : Pattern) (calls : List Call) → Made t w 0 calls → last_stop calls ≡ some done
    → joined calls ≡ occurrences t w 0 (places t w)
complete t w calls m h =
    let f = from t w calls 0 (omega arith) m in
    f.found_are ∙ ap (occurrences t w 0) ((f.finished done h).0 refl)
