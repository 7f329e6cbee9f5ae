-- What the scratch is to a call: room for the method's tables, and nothing else. The theorems are in proofs/Scratch.antt.
use Rattle.std.specs.Prelude.{ℕ, ◌≤◌, ◌<◌, ◌≡◌, List, length, Result, Ok, Err}
use Rattle.rules.specs.Scratch.{scratch_cells}
use Rattle.rules.specs.Machine.{Run}
use Rattle.search.specs.declared.Refusal.{Refusal}
use Rattle.search.specs.Verdict.{Outcome, Request, Verdict, refused, accepted, number_of_refusal, verdict}

-- ---- two calls that differ in the scratch alone

-- the request with another scratch
abbrev pub with_scratch : Request → List ℕ → Request
with_scratch q scratch =
    record {
      text = q.text;
      pattern = q.pattern;
      method = q.method;
      mark = q.mark;
      budget = q.budget;
      list = q.list;
      scratch = scratch;
    }

-- the scratch has the cells that the method takes for the pattern
abbrev pub Enough : Request → Type 0
Enough q = scratch_cells q.method q.pattern.count ≤ length q.scratch

-- "with the same answers": two calls came to the same outcome, an answer with its mark or a refusal, and left the same list
pub record SameAnswers (o p : Outcome) (list other : List ℕ) : Type 0 where
  pub outcome : o ≡ p
  pub lists : list ≡ other

-- ---- the figure by itself

-- what the call for the figure answers: the cells, or the number of a refusal
abbrev pub cells_answer : Result ℕ Refusal → Verdict ℕ
cells_answer (Ok k) = accepted k
cells_answer (Err r) = refused (number_of_refusal r)

-- k cells are just what the request needs: with k or more it is not refused with 7, with fewer it is not accepted
pub record Needs (q : Request) (k : ℕ) : Type 0 where
  pub enough : k ≤ length q.scratch → verdict q ≡ refused 7 → ⊥
  pub least : length q.scratch < k → (r : Run) → verdict q ≡ accepted r → ⊥
