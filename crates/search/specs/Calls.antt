-- A list of search calls on one text and one pattern, each going on from the mark that the call before it left; and the
-- one claim about every such list (demand 3).
use Rattle.std.specs.Prelude.{Ok, Err}
use Rattle.std.specs.Prelude.{ℕ, ◌+◌, ◌≤◌, ◌<◌, ◌≡◌, ◌↔◌, length, take, drop}
use mathlib.Core.List.{List, [], ◌∷◌, ◌++◌, map, Memᴰ}
use Rattle.std.proofs.Math.Option.{Option, none, some}
use Rattle.bits.specs.Packed.{Packed}
use Rattle.rules.specs.declared.Method.{Method}
use Rattle.rules.specs.Ranges.{Rising}
use Rattle.rules.specs.Pattern.{Pattern}
use Rattle.rules.specs.Occurrence.{Occurs, occurrences}
use Rattle.rules.specs.Machine.{Ending, done, spent, Run}
use Rattle.search.specs.Verdict.{Outcome, Request, Verdict, refused, accepted, verdict, number_of_refusal, ending_of, Searched}

-- What a call is asked beside text, pattern and mark. "Position list and scratch may come with any content and any length."
pub record Asked : Type 0 where
  pub method : Method
  pub budget : ℕ
  pub list : List ℕ
  pub scratch : List ℕ

abbrev pub request_of : Packed → Pattern → ℕ → Asked → Request
request_of t w s q =
    record {
      text = t;
      pattern = w;
      method = q.method;
      mark = s;
      budget = q.budget;
      list = q.list;
      scratch = q.scratch;
    }

-- One call as it was made: what it was asked, and what stood there as it returned.
pub record Call : Type 0 where
  pub asked : Asked
  pub outcome : Outcome
  pub list_after : List ℕ
  pub scratch_after : List ℕ

-- the mark that a call leaves; a refused one "leaves the mark that it got"
abbrev pub mark_of : ℕ → Outcome → ℕ
mark_of s (Ok a) = a.mark.at.0
mark_of s (Err r) = s

-- "The places that a call wrote are the first cells of its position list as they stand when it returns, as many as the
-- hits in its answer. A refused call wrote no place"
abbrev pub places_of : Outcome → List ℕ → List ℕ
places_of (Ok a) list = take a.occurrences list
places_of (Err r) list = []

-- a refused call "made no step"
abbrev pub steps_of : Outcome → ℕ
steps_of (Ok a) = a.steps
steps_of (Err r) = 0

-- how an accepted call stopped
abbrev pub stop_of : Outcome → Option Ending
stop_of (Ok a) = some (ending_of a.stop)
stop_of (Err r) = none

-- Each call meets the very promise of the search call, at the mark that the call before it left, the first at s.
abbrev pub Made : Packed → Pattern → ℕ → List Call → Type 0
Made t w s [] = Unit
Made t w s (c ∷ cs) =
    Searched (request_of t w s c.asked) c.outcome c.list_after c.scratch_after × Made t w (mark_of s c.outcome) cs

-- "The answer carries steps, hits written, the mark and, inside it, how the call stopped."
pub record Carried : Type 0 where
  pub steps : ℕ
  pub occurrences : ℕ
  pub mark : ℕ
  pub ending : Ending

-- What a call gives: its answer or the number of its refusal, its position list, and the mark for the next call.
pub record Result : Type 0 where
  pub answer : Verdict Carried
  pub list : List ℕ
  pub mark : ℕ

-- what the calls gave, the first at the mark s
abbrev pub answer_of : Outcome → Verdict Carried
answer_of (Ok a) =
    accepted (record { steps = a.steps; occurrences = a.occurrences; mark = a.mark.at.0; ending = ending_of a.stop })
answer_of (Err r) = refused (number_of_refusal r)

abbrev pub result_of : ℕ → Call → Result
result_of s c = record { answer = answer_of c.outcome; list = c.list_after; mark = mark_of s c.outcome }

unfoldable pub results : ℕ → List Call → List Result
results s [] = []
results s (c ∷ cs) = result_of s c ∷ results (mark_of s c.outcome) cs

-- What the machine gives for a request, or its refusal, by the request's verdict; nothing here rests on what a call gave.
abbrev pub result_by : Request → Verdict Run → Result
result_by q (refused number) = record { answer = refused number; list = q.list; mark = q.mark }
result_by q (accepted r) =
    record {
      answer = accepted (record { steps = r.steps; occurrences = length r.written; mark = r.mark; ending = r.ending });
      list = r.written ++ drop (length r.written) q.list;
      mark = r.mark;
    }

-- what it gives for one request after the other, the first at the mark s, each later one at the mark that the one before gave
unfoldable pub machine_results : Packed → Pattern → ℕ → List Asked → List Result
machine_results t w s [] = []
machine_results t w s (q ∷ qs) =
    let r = result_by (request_of t w s q) (verdict (request_of t w s q)) in
    r ∷ machine_results t w r.mark qs

-- the mark left after all calls; with no call it is the first mark
unfoldable pub last_mark : ℕ → List Call → ℕ
last_mark s [] = s
last_mark s (c ∷ cs) = last_mark (mark_of s c.outcome) cs

-- the places that the calls wrote, joined in the calls' order
unfoldable pub joined : List Call → List ℕ
joined [] = []
joined (c ∷ cs) = places_of c.outcome c.list_after ++ joined cs

-- "The steps made in all are those that the loop above counts, added up over the calls"
unfoldable pub all_steps : List Call → ℕ
all_steps [] = 0
all_steps (c ∷ cs) = steps_of c.outcome + all_steps cs

-- the later of two, where there is a later one
abbrev pub later : Option Ending → Option Ending → Option Ending
later e none = e
later e (some l) = some l

-- how the last accepted call stopped, if any call was accepted
unfoldable pub last_stop : List Call → Option Ending
last_stop [] = none
last_stop (c ∷ cs) = later (stop_of c.outcome) (last_stop cs)

-- Demand 3, about the calls as a whole: each call's answer, position list and mark are those that the machine gives, or
-- those of its refusal; the joined places are all occurrences before the last mark, rising, each once;
-- the last accepted call said done just if the pattern no longer fits from the last mark on, "when that mark plus m is
-- above n"; a call that said spent made all the steps of its budget; and "the steps made are at most the last mark, with no
-- term for full answers" (document 02).
pub record Whole (t : Packed) (w : Pattern) (calls : List Call) : Type 0 where
  pub results_are : results 0 calls ≡ machine_results t w 0 (map (λ (c : Call). c.asked) calls)
  pub places_are : joined calls ≡ occurrences t w 0 (last_mark 0 calls)
  pub rising : Rising (joined calls)
  pub exactly : (p : ℕ) → Memᴰ p (joined calls) ↔ (Occurs t w p × (p < last_mark 0 calls))
  pub finished : (e : Ending) → last_stop calls ≡ some e → (e ≡ done) ↔ (t.count < last_mark 0 calls + w.count)
  pub spent_all : (c : Call) → Memᴰ c calls → stop_of c.outcome ≡ some spent → steps_of c.outcome ≡ c.asked.budget
  pub within : (c : Call) → Memᴰ c calls → steps_of c.outcome ≤ c.asked.budget
  pub bounded : all_steps calls ≤ last_mark 0 calls
