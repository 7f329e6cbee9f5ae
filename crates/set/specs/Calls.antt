-- A list of calls for one set on one text, each going on from the mark that the call before it left; and the one claim about
-- every such list.
use Rattle.std.specs.Prelude.{ℕ, ◌+◌, ◌≤◌, ◌<◌, ◌≡◌, ◌↔◌, length, get_or, Ok, Err}
use mathlib.Core.List.{List, [], ◌∷◌, ◌++◌, map, Memᴰ}
use Rattle.std.proofs.Math.Option.{Option, none, some}
use Rattle.bits.specs.Packed.{Packed}
use Rattle.rules.specs.Machine.{Ending, done, spent}
use Rattle.search.specs.Verdict.{Verdict, refused, accepted, ending_of}
use Rattle.search.specs.Calls.{Carried, Result, later}
use Rattle.set_rules.specs.PatternSet.{PatternSet}
use Rattle.set_rules.specs.Hits.{Hit, IsHit, InOrder, all_hits, pairs_of}
use Rattle.set_rules.specs.SetMachine.{SetRun}
use Rattle.set_rules.specs.Verdict.{Request, verdict, list_after}
use Rattle.set.specs.Promise.{Outcome, number_of_refusal, Searched}

-- what a call is asked beside text, set and mark
pub record Asked : Type 0 where
  pub budget : ℕ
  pub list : List ℕ

abbrev pub request_of : Packed → PatternSet → ℕ → Asked → Request
request_of t ws s q = record { text = t; patterns = ws; mark = s; budget = q.budget; list = q.list }

-- one call as it was made: what it was asked, and what stood there as it returned
pub record Call : Type 0 where
  pub asked : Asked
  pub outcome : Outcome
  pub list_after : List ℕ

-- the mark that a call leaves; a refused one leaves the mark that it got
abbrev pub mark_of : ℕ → Outcome → ℕ
mark_of s (Ok a) = a.mark.at.0
mark_of s (Err r) = s

-- the pairs that a call wrote: the first cells of its list as they stand when it returns, two for each hit in its answer
abbrev pub pairs_in : Outcome → List ℕ → List Hit
pairs_in (Ok a) list = pairs_of a.occurrences list
pairs_in (Err r) list = []

-- a refused call made no step
abbrev pub steps_of : Outcome → ℕ
steps_of (Ok a) = a.steps
steps_of (Err r) = 0

-- how an accepted call stopped
abbrev pub stop_of : Outcome → Option Ending
stop_of (Ok a) = some (ending_of a.stop)
stop_of (Err r) = none

-- Each call meets the very promise of the call, at the mark that the call before it left, the first at s.
abbrev pub Made : Packed → PatternSet → ℕ → List Call → Type 0
Made t ws s [] = Unit
Made t ws s (c ∷ cs) = Searched (request_of t ws s c.asked) c.outcome c.list_after × Made t ws (mark_of s c.outcome) cs

-- What a call gives: its answer or the number of its refusal, its list, and the mark for the next call.
abbrev pub answer_of : Outcome → Verdict Carried
answer_of (Ok a) =
    accepted (record { steps = a.steps; occurrences = a.occurrences; mark = a.mark.at.0; ending = ending_of a.stop })
answer_of (Err r) = refused (number_of_refusal r)

abbrev pub result_of : ℕ → Call → Result
result_of s c = record { answer = answer_of c.outcome; list = c.list_after; mark = mark_of s c.outcome }

unfoldable pub results : ℕ → List Call → List Result
results s [] = []
results s (c ∷ cs) = result_of s c ∷ results (mark_of s c.outcome) cs

-- What the machine gives for a request, or its refusal, by the request's verdict; nothing here rests on what a call gave.
abbrev pub result_by : Request → Verdict SetRun → Result
result_by q (refused number) = record { answer = refused number; list = q.list; mark = q.mark }
result_by q (accepted r) =
    record {
      answer = accepted (record { steps = r.steps; occurrences = length r.written; mark = r.mark; ending = r.ending });
      list = list_after r q.list;
      mark = r.mark;
    }

-- what it gives for one request after the other, the first at the mark s, each later one at the mark that the one before gave
unfoldable pub machine_results : Packed → PatternSet → ℕ → List Asked → List Result
machine_results t ws s [] = []
machine_results t ws s (q ∷ qs) =
    let r = result_by (request_of t ws s q) (verdict (request_of t ws s q)) in
    r ∷ machine_results t ws r.mark qs

-- the mark left after all calls; with no call it is the first mark
unfoldable pub last_mark : ℕ → List Call → ℕ
last_mark s [] = s
last_mark s (c ∷ cs) = last_mark (mark_of s c.outcome) cs

-- the pairs that the calls wrote, joined in the calls' order
unfoldable pub joined : List Call → List Hit
joined [] = []
joined (c ∷ cs) = pairs_in c.outcome c.list_after ++ joined cs

-- the steps made in all
unfoldable pub all_steps : List Call → ℕ
all_steps [] = 0
all_steps (c ∷ cs) = steps_of c.outcome + all_steps cs

-- how the last accepted call stopped, if any call was accepted
unfoldable pub last_stop : List Call → Option Ending
last_stop [] = none
last_stop (c ∷ cs) = later (stop_of c.outcome) (last_stop cs)

-- no pattern fits any more from the mark s on
abbrev pub NoneFits : Packed → PatternSet → ℕ → Type 0
NoneFits t ws s = (i : ℕ) → i < length ws.counts → t.count < s + get_or ws.counts i 0

-- "For every list of these calls on one recording and one set, the first from mark 0 and each going on from the mark left, the
-- joined pairs are all hits before the last mark, each once." Each call's answer, list and mark are those that the machine
-- gives, or those of its refusal; the pairs are in their order; the last accepted call said done just if no pattern fits any
-- more from the last mark on; a call that said spent made all the steps of its budget, and no call made more; and the steps in
-- all are at most the last mark.
pub record Whole (t : Packed) (ws : PatternSet) (calls : List Call) : Type 0 where
  pub results_are : results 0 calls ≡ machine_results t ws 0 (map (λ (c : Call). c.asked) calls)
  pub pairs_are : joined calls ≡ all_hits t ws 0 (last_mark 0 calls)
  pub in_order : InOrder (joined calls)
  pub exactly : (h : Hit) → Memᴰ h (joined calls) ↔ (IsHit t ws h × (h.place < last_mark 0 calls))
  pub finished : (e : Ending) → last_stop calls ≡ some e → (e ≡ done) ↔ NoneFits t ws (last_mark 0 calls)
  pub spent_all : (c : Call) → Memᴰ c calls → stop_of c.outcome ≡ some spent → steps_of c.outcome ≡ c.asked.budget
  pub within : (c : Call) → Memᴰ c calls → steps_of c.outcome ≤ c.asked.budget
  pub bounded : all_steps calls ≤ last_mark 0 calls
