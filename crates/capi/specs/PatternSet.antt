-- The search for a set of patterns, and every list of such calls in what C sees.
use Rattle.std.specs.Prelude.{ℕ, ◌≡◌, cond, List, [], ◌∷◌, map, eqb, length, get_or}
use Rattle.bits.specs.Packed.{Packed}
use Rattle.search.specs.declared.Stop.{Stop}
use Rattle.search.specs.declared.Stop.TheVariants.{Done, Full, Spent}
use Rattle.search.specs.Verdict.{Verdict, refused, accepted}
use Rattle.std.specs.Prelude.{Ok, Err}
use Rattle.set.specs.Promise.{Outcome}
use Rattle.set.specs.declared.Refusal.{Refusal}
use Rattle.set.specs.declared.Refusal.TheVariants.{TextTooLong, TextBytesMissing, SetSize, PatternLength, PatternBytesMissing, FixedBytesMissing, BeyondEnd}
use Rattle.set_rules.specs.PatternSet.{PatternSet}
use Rattle.set_rules.specs.SetMachine.{SetRun}
use Rattle.set_rules.specs.Verdict.{Request, verdict, list_after}
use Rattle.set.specs.Calls as library
use Rattle.capi.specs.Told.{answer_cells_missing, Told, gives, refuses, result_of, answer_after, unless_cells, Tells}
use Rattle.capi.specs.Scan.{stop_number}
use Rattle.capi.specs.CallList.{Seen}

-- ---- one call

-- what the call is handed: the bytes of the text and of both runs, the counts, numbers, and the buffers as they stand at entry
pub record SetCall : Type 0 where
  pub text : List ℕ
  pub n : ℕ
  pub patterns : List ℕ
  pub fixed : List ℕ
  pub counts : List ℕ
  pub mark : ℕ
  pub budget : ℕ
  pub list : List ℕ
  pub answer : List ℕ

-- the same as a request to the library
abbrev pub set_request : SetCall → Request
set_request q =
    record {
      text = record { bytes = q.text; count = q.n };
      patterns = record { bytes = q.patterns; fixed = q.fixed; counts = q.counts };
      mark = q.mark;
      budget = q.budget;
      list = q.list;
    }

-- 101 first, then the library's own verdict: its refusals, or what the machine comes to
unfoldable pub set_verdict : SetCall → Verdict SetRun
set_verdict q = unless_cells 4 q.answer (refused answer_cells_missing) (verdict (set_request q))

-- the four answer cells: steps, occurrences as pairs, mark, stop
abbrev pub set_tells : Verdict SetRun → Told
set_tells (refused number) = refuses number
set_tells (accepted r) = gives (r.steps ∷ length r.written ∷ r.mark ∷ stop_number r.ending ∷ [])

-- the list at exit: the pairs written in front and then the cells as they were, or after a refusal all as it was
abbrev pub set_list : Verdict SetRun → List ℕ → List ℕ
set_list (refused number) before = before
set_list (accepted r) before = list_after r before

-- The promise of `mitongory_search_set`, for buffers that are `list` and `answer` at exit.
pub record SetSearched (q : SetCall) (result : ℕ) (list answer : List ℕ) : Type 0 where
  pub tells : Tells (set_tells (set_verdict q)) q.answer result answer
  pub list_is : list ≡ set_list (set_verdict q) q.list

-- ---- every list of calls on one text and one set

-- what a call is handed beside text, set and mark
pub record SetAsked : Type 0 where
  pub budget : ℕ
  pub list : List ℕ
  pub answer : List ℕ

abbrev pub set_call_of : Packed → PatternSet → ℕ → SetAsked → SetCall
set_call_of t ws s q =
    record {
      text = t.bytes;
      n = t.count;
      patterns = ws.bytes;
      fixed = ws.fixed;
      counts = ws.counts;
      mark = s;
      budget = q.budget;
      list = q.list;
      answer = q.answer;
    }

-- one call as it was made: what it was handed, what it returned, and its buffers then
pub record SetMade : Type 0 where
  pub asked : SetAsked
  pub result : ℕ
  pub list_after : List ℕ
  pub answer_after : List ℕ

-- the mark for the next call: the third answer cell, or after a refusal the mark as it was
abbrev pub set_mark_after : ℕ → SetMade → ℕ
set_mark_after s c = cond (eqb c.result 0) (get_or c.answer_after 2 0) s

-- each call meets the promise of `mitongory_search_set`, at the mark that the call before it left, the first at s
abbrev pub AllSetMade : Packed → PatternSet → ℕ → List SetMade → Type 0
AllSetMade t ws s [] = Unit
AllSetMade t ws s (c ∷ cs) =
    SetSearched (set_call_of t ws s c.asked) c.result c.list_after c.answer_after × AllSetMade t ws (set_mark_after s c) cs

-- what C saw of the calls as they were made (`Seen`: result, answer cells, list and mark), the first at the mark s
abbrev pub set_seen_of : ℕ → SetMade → Seen
set_seen_of s c = record { result = c.result; answer = c.answer_after; list = c.list_after; mark = set_mark_after s c }

unfoldable pub set_seen : ℕ → List SetMade → List Seen
set_seen s [] = []
set_seen s (c ∷ cs) = set_seen_of s c ∷ set_seen (set_mark_after s c) cs

-- What the machine shows, or the refusal, 101 included, by the call's verdict; nothing here rests on what a call gave.
abbrev pub set_mark_by : Verdict SetRun → ℕ → ℕ
set_mark_by (refused number) s = s
set_mark_by (accepted r) s = r.mark

abbrev pub set_seen_by : SetCall → Verdict SetRun → Seen
set_seen_by q v =
    record {
      result = result_of (set_tells v);
      answer = answer_after (set_tells v) q.answer;
      list = set_list v q.list;
      mark = set_mark_by v q.mark;
    }

-- what it shows of one call after the other, the first at the mark s, each later one at the mark that the one before showed
unfoldable pub set_machine_seen : Packed → PatternSet → ℕ → List SetAsked → List Seen
set_machine_seen t ws s [] = []
set_machine_seen t ws s (q ∷ qs) =
    let r = set_seen_by (set_call_of t ws s q) (set_verdict (set_call_of t ws s q)) in
    r ∷ set_machine_seen t ws r.mark qs

-- What C reads off result and answer cells, as an outcome of the library: how the call stopped, by the fourth cell and the mark
abbrev pub stop_seen : ℕ → ℕ → Stop
stop_seen mark k = cond (eqb k 0) Done (cond (eqb k 1) (Full (record { 0 = mark })) Spent)

-- why it was refused
abbrev pub refusal_seen : ℕ → Refusal
refusal_seen k =
    cond (eqb k 1) TextTooLong
    (cond (eqb k 2) TextBytesMissing
    (cond (eqb k 18) SetSize
    (cond (eqb k 3) PatternLength
    (cond (eqb k 4) PatternBytesMissing
    (cond (eqb k 17) FixedBytesMissing BeyondEnd)))))

abbrev pub outcome_seen : ℕ → List ℕ → Outcome
outcome_seen result answer =
    cond (eqb result 0)
    (Ok
    (record {
      steps = get_or answer 0 0;
      occurrences = get_or answer 1 0;
      mark = record { at = record { 0 = get_or answer 2 0 } };
      stop = stop_seen (get_or answer 2 0) (get_or answer 3 0);
    }))
    (Err (refusal_seen result))

-- a call from C as a call of the library
abbrev pub call_seen : SetMade → library.Call
call_seen c =
    record {
      asked = record { budget = c.asked.budget; list = c.asked.list };
      outcome = outcome_seen c.result c.answer_after;
      list_after = c.list_after;
    }

-- the calls from C as calls of the library: all but those that got 101
unfoldable pub calls_seen : List SetMade → List library.Call
calls_seen [] = []
calls_seen (c ∷ cs) = cond (eqb c.result answer_cells_missing) (calls_seen cs) (call_seen c ∷ calls_seen cs)

-- the mark left after all calls from C
unfoldable pub set_last_mark : ℕ → List SetMade → ℕ
set_last_mark s [] = s
set_last_mark s (c ∷ cs) = set_last_mark (set_mark_after s c) cs

-- Each call's result, answer cells, list and mark are those that the machine gives, or those of its refusal, 101 included. Read
-- off results, answer cells and lists, the others are calls of the library that each meet its promise at the mark left by the one
-- before; so the claim about every list of these holds (`Whole`), and the last mark is the one that C has.
pub record SetWhole (t : Packed) (ws : PatternSet) (calls : List SetMade) : Type 0 where
  pub seen_is : set_seen 0 calls ≡ set_machine_seen t ws 0 (map (λ (c : SetMade). c.asked) calls)
  pub made : library.Made t ws 0 (calls_seen calls)
  pub whole : library.Whole t ws (calls_seen calls)
  pub mark : set_last_mark 0 calls ≡ library.last_mark 0 (calls_seen calls)
