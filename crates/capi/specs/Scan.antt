-- The search call, and by themselves H(B) and the cells of scratch that a search takes.
use Rattle.std.specs.Prelude.{ℕ, ◌≡◌, cond, List, [], ◌∷◌, ◌++◌, eqb, length, drop}
use Rattle.rules.specs.declared.Method.{Method}
use Rattle.rules.specs.declared.Method.TheVariants.{Plain, Hash, Skip, Wide, Tail}
use Rattle.rules.specs.Scratch.{scratch_cells}
use Rattle.rules.specs.Machine.{Ending, done, spent, full, Run}
use Rattle.search.specs.Verdict.{Request, Verdict, refused, accepted, verdict, hash_verdict, scratch_verdict}
use Rattle.capi.specs.Told.{unknown_method, answer_cells_missing, Told, gives, refuses, unless_cells, Tells}

-- ---- the numbers of the methods and of the ways to stop

-- a method by its number
pub data Named : Type 0 where
  known : Method → Named
  unknown : Named

unfoldable pub method_named : ℕ → Named
method_named k =
    cond (eqb k 0) (known Plain)
    (cond (eqb k 1) (known Hash)
    (cond (eqb k 2) (known Skip)
    (cond (eqb k 3) (known Wide)
    (cond (eqb k 4) (known Tail) unknown))))

abbrev pub stop_number : Ending → ℕ
stop_number done = 0
stop_number (full p) = 1
stop_number spent = 2

-- ---- the search call

-- what the call is handed: the bytes of text, pattern and second run with the bit counts, numbers, and the buffers as they stand at
-- entry
pub record Call : Type 0 where
  pub text : List ℕ
  pub n : ℕ
  pub pattern : List ℕ
  pub fixed : List ℕ
  pub m : ℕ
  pub method : ℕ
  pub mark : ℕ
  pub budget : ℕ
  pub list : List ℕ
  pub scratch : List ℕ
  pub answer : List ℕ

-- the same as a request to the search by a method
abbrev pub request_of : Method → Call → Request
request_of x q =
    record {
      text = record { bytes = q.text; count = q.n };
      pattern = record { bytes = q.pattern; fixed = q.fixed; count = q.m };
      method = x;
      mark = q.mark;
      budget = q.budget;
      list = q.list;
      scratch = q.scratch;
    }

-- 100 first, then 101, then the search's own verdict: its refusals, or what the machine comes to
abbrev pub verdict_by : Named → Call → Verdict Run
verdict_by unknown q = refused unknown_method
verdict_by (known x) q = unless_cells 4 q.answer (refused answer_cells_missing) (verdict (request_of x q))

unfoldable pub search_verdict : Call → Verdict Run
search_verdict q = verdict_by (method_named q.method) q

-- the four answer cells: steps, occurrences, mark, stop
abbrev pub run_tells : Verdict Run → Told
run_tells (refused number) = refuses number
run_tells (accepted r) = gives (r.steps ∷ length r.written ∷ r.mark ∷ stop_number r.ending ∷ [])

-- the list at exit: the places written in front and then the cells as they were, or after a refusal all as it was
abbrev pub list_after : Verdict Run → List ℕ → List ℕ
list_after (refused number) before = before
list_after (accepted r) before = r.written ++ drop (length r.written) before

-- the cells of scratch that the method takes for a pattern of m bits
abbrev pub figure_of : Named → ℕ → ℕ
figure_of (known x) m = scratch_cells x m
figure_of unknown m = 0

-- the scratch at exit: after an accepted call the cells before the figure are free, and those from there on stay
abbrev pub ScratchAfter : ℕ → Verdict Run → List ℕ → List ℕ → Type 0
ScratchAfter figure (refused number) before after = after ≡ before
ScratchAfter figure (accepted r) before after = (length after ≡ length before) × (drop figure after ≡ drop figure before)

-- The promise of `mitongory_search`, for buffers that are `list`, `scratch` and `answer` at exit.
pub record Searches (q : Call) (result : ℕ) (list scratch answer : List ℕ) : Type 0 where
  pub tells : Tells (run_tells (search_verdict q)) q.answer result answer
  pub list_is : list ≡ list_after (search_verdict q) q.list
  pub scratch_is : ScratchAfter (figure_of (method_named q.method) q.m) (search_verdict q) q.scratch scratch

-- ---- H(B) by itself

-- one answer cell
abbrev pub number_tells : Verdict ℕ → Told
number_tells (refused number) = refuses number
number_tells (accepted d) = gives (d ∷ [])

-- What `mitongory_hash_value` tells: 101 first, then refusals 3, 4, 17 and 5, or H(B).
unfoldable pub hash_told : List ℕ → List ℕ → ℕ → ℕ → List ℕ → Told
hash_told pattern fixed m value answer =
    unless_cells 1 answer (refuses answer_cells_missing) (number_tells (hash_verdict (record { bytes = pattern; fixed = fixed; count = m }) value))

-- ---- the cells of scratch by themselves

abbrev pub cells_by : Named → ℕ → List ℕ → Told
cells_by unknown m answer = refuses unknown_method
cells_by (known x) m answer = unless_cells 1 answer (refuses answer_cells_missing) (number_tells (scratch_verdict x m))

-- What `mitongory_scratch_cells` tells: 100 first, then 101, then refusal 3 for m, then 5 where the method does not take m, or the
-- method's figure.
unfoldable pub cells_told : ℕ → ℕ → List ℕ → Told
cells_told method m answer = cells_by (method_named method) m answer
