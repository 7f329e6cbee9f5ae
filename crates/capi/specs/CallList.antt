-- A list of search calls as C makes them, on one text and one pattern; and the claim about every such list in what C sees:
-- results, answer cells, lists and marks (demand 3).
use Rattle.std.specs.Prelude.{ℕ, ◌+◌, ◌≤◌, ◌<◌, ◌≡◌, cond, ◌↔◌, eqb, get_or, take}
use mathlib.Core.List.{List, [], ◌∷◌, ◌++◌, map, Memᴰ}
use Rattle.std.proofs.Math.Option.{Option, none, some}
use Rattle.bits.specs.Packed.{Packed}
use Rattle.rules.specs.Ranges.{Rising}
use Rattle.rules.specs.Pattern.{Pattern}
use Rattle.rules.specs.Occurrence.{Occurs, occurrences}
use Rattle.rules.specs.Machine.{Run}
use Rattle.search.specs.Verdict.{Verdict, refused, accepted}
use Rattle.capi.specs.Told.{result_of, answer_after}
use Rattle.capi.specs.Scan.{Call, search_verdict, run_tells, list_after, Searches}

-- what a call is handed beside text, pattern and mark
pub record Asked : Type 0 where
  pub method : ℕ
  pub budget : ℕ
  pub list : List ℕ
  pub scratch : List ℕ
  pub answer : List ℕ

abbrev pub call_of : Packed → Pattern → ℕ → Asked → Call
call_of t w s q =
    record {
      text = t.bytes;
      n = t.count;
      pattern = w.bytes;
      fixed = w.fixed;
      m = w.count;
      method = q.method;
      mark = s;
      budget = q.budget;
      list = q.list;
      scratch = q.scratch;
      answer = q.answer;
    }

-- one call as it was made: what it was handed, what it returned, and its buffers then
pub record Made : Type 0 where
  pub asked : Asked
  pub result : ℕ
  pub list_after : List ℕ
  pub scratch_after : List ℕ
  pub answer_after : List ℕ

-- the first where the call returned 0, else the second
abbrev pub if_accepted {ℓ} : {A : Type ℓ} → Made → A → A → A
if_accepted c a b = cond (eqb c.result 0) a b

-- an answer cell
abbrev pub cell : ℕ → Made → ℕ
cell i c = get_or c.answer_after i 0

-- the mark for the next call: the third answer cell, or after a refusal the mark as it was
abbrev pub mark_after : ℕ → Made → ℕ
mark_after s c = if_accepted c (cell 2 c) s

-- the places that the call wrote: as many cells of its list as the second answer cell says
abbrev pub places_in : Made → List ℕ
places_in c = if_accepted c (take (cell 1 c) c.list_after) []

-- the steps that the call made: the first answer cell
abbrev pub steps_in : Made → ℕ
steps_in c = if_accepted c (cell 0 c) 0

-- how an accepted call stopped: the fourth answer cell
abbrev pub stop_in : Made → Option ℕ
stop_in c = if_accepted c (some (cell 3 c)) none

-- each call meets the promise of `mitongory_search`, at the mark that the call before it left, the first at s
abbrev pub AllMade : Packed → Pattern → ℕ → List Made → Type 0
AllMade t w s [] = Unit
AllMade t w s (c ∷ cs) =
    Searches (call_of t w s c.asked) c.result c.list_after c.scratch_after c.answer_after
    × AllMade t w (mark_after s c) cs

-- What C sees of a call: the number that it returned, its answer cells, its list, and the mark for the next call.
pub record Seen : Type 0 where
  pub result : ℕ
  pub answer : List ℕ
  pub list : List ℕ
  pub mark : ℕ

abbrev pub seen_of : ℕ → Made → Seen
seen_of s c = record { result = c.result; answer = c.answer_after; list = c.list_after; mark = mark_after s c }

-- what C saw of the calls as they were made, the first at the mark s
unfoldable pub seen : ℕ → List Made → List Seen
seen s [] = []
seen s (c ∷ cs) = seen_of s c ∷ seen (mark_after s c) cs

-- What the machine shows, or the refusal, 100 and 101 included, by the call's verdict; nothing here rests on what a call gave.
abbrev pub mark_by : Verdict Run → ℕ → ℕ
mark_by (refused number) s = s
mark_by (accepted r) s = r.mark

abbrev pub seen_by : Call → Verdict Run → Seen
seen_by q v =
    record {
      result = result_of (run_tells v);
      answer = answer_after (run_tells v) q.answer;
      list = list_after v q.list;
      mark = mark_by v q.mark;
    }

-- what it shows of one call after the other, the first at the mark s, each later one at the mark that the one before showed
unfoldable pub machine_seen : Packed → Pattern → ℕ → List Asked → List Seen
machine_seen t w s [] = []
machine_seen t w s (q ∷ qs) =
    let r = seen_by (call_of t w s q) (search_verdict (call_of t w s q)) in
    r ∷ machine_seen t w r.mark qs

-- the mark left after all calls, the places that they wrote, their steps, and how the last accepted one stopped
unfoldable pub last_mark : ℕ → List Made → ℕ
last_mark s [] = s
last_mark s (c ∷ cs) = last_mark (mark_after s c) cs

unfoldable pub joined : List Made → List ℕ
joined [] = []
joined (c ∷ cs) = places_in c ++ joined cs

unfoldable pub all_steps : List Made → ℕ
all_steps [] = 0
all_steps (c ∷ cs) = steps_in c + all_steps cs

abbrev pub later : Option ℕ → Option ℕ → Option ℕ
later e none = e
later e (some l) = some l

unfoldable pub last_stop : List Made → Option ℕ
last_stop [] = none
last_stop (c ∷ cs) = later (stop_in c) (last_stop cs)

-- Each call's result, answer cells, list and mark are those that the machine gives, or those of its refusal; the joined
-- places are all occurrences before the last mark, rising, each once; the last accepted call stopped with 0,
-- done, just if the pattern no longer fits from the last mark on; a call that stopped with 2, spent, made all the steps of its
-- budget, and no call made more; and the steps in all are at most the last mark.
pub record Whole (t : Packed) (w : Pattern) (calls : List Made) : Type 0 where
  pub seen_is : seen 0 calls ≡ machine_seen t w 0 (map (λ (c : Made). c.asked) calls)
  pub places_are : joined calls ≡ occurrences t w 0 (last_mark 0 calls)
  pub rising : Rising (joined calls)
  pub exactly : (p : ℕ) → Memᴰ p (joined calls) ↔ (Occurs t w p × (p < last_mark 0 calls))
  pub finished : (e : ℕ) → last_stop calls ≡ some e → (e ≡ 0) ↔ (t.count < last_mark 0 calls + w.count)
  pub spent_all : (c : Made) → Memᴰ c calls → stop_in c ≡ some 2 → steps_in c ≡ c.asked.budget
  pub within : (c : Made) → Memᴰ c calls → steps_in c ≤ c.asked.budget
  pub bounded : all_steps calls ≤ last_mark 0 calls
