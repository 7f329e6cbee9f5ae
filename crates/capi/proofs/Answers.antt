-- The promise of the search call for C leaves nothing open but the cells of the scratch before the method's figure after an
-- accepted call. Where the method is known and there are four answer cells it is the promise of the library's search call; so
-- the theorem about every list of calls (`whole` of the search crate) is about calls from C too.
-- Assumes nothing.
use Prim.Native.Nat.{ℕ, ◌≤◌}
use mathlib.Core.Path.{◌≡◌, sym, ◌∙◌}
use mathlib.Core.List.{List}
use lib.ListN.{length}
use Rattle.rules.specs.declared.Method.{Method}
use Rattle.rules.specs.Machine.{Run}
use Rattle.std.specs.Prelude.{Ok, Err}
use Rattle.search.specs.Verdict.{Outcome, Verdict, refused, accepted, Searched}
use Rattle.search.proofs.Answers.{answered}
use Rattle.capi.specs.Told.{Tells}
use Rattle.capi.specs.Scan.{method_named, known, Call, request_of, search_verdict, figure_of, ScratchAfter, Searches}
use Rattle.capi.specs.Inner.{outcome_tells}
use Rattle.capi.proofs.Calling.{searched_by}

-- one result, one list, one answer, and one scratch but for the cells that are free
pub unique : (q : Call) (r r' : ℕ) (list list' scratch scratch' answer answer' : List ℕ) → Searches q r list scratch answer
    → Searches q r' list' scratch' answer'
    → (r ≡ r') × (list ≡ list') × (answer ≡ answer') × ScratchAfter (figure_of (method_named q.method) q.m) (search_verdict q) scratch' scratch
unique q r r' list list' scratch scratch' answer answer' s t = (
  s.tells.result_is ∙ sym t.tells.result_is,
  s.list_is ∙ sym t.list_is,
  s.tells.answer_is ∙ sym t.tells.answer_is,
  same (figure_of (method_named q.method) q.m) (search_verdict q) s.scratch_is t.scratch_is,
)
  where
    same : (figure : ℕ) (v : Verdict Run) → ScratchAfter figure v q.scratch scratch → ScratchAfter figure v q.scratch scratch'
        → ScratchAfter figure v scratch' scratch
    same figure (refused k) h g = h ∙ sym g
    same figure (accepted a) h g = (h.0 ∙ sym g.0, h.1 ∙ sym g.1)

-- the outcome of the library's call that a call from C is
pub record AsSearched (q : Call) (x : Method) (r : ℕ) (list scratch answer : List ℕ) : Type 0 where
  pub outcome : Outcome
  pub searched : Searched (request_of x q) outcome list scratch
  pub tells : Tells (outcome_tells outcome) q.answer r answer

pub as_searched : (q : Call) (x : Method) (r : ℕ) (list scratch answer : List ℕ) → method_named q.method ≡ known x
    → 4 ≤ length q.answer → Searches q r list scratch answer → AsSearched q x r list scratch answer
as_searched q x r list scratch answer e h s =
    let a = answered (request_of x q) in
    go a.outcome a.list a.scratch a.searched
  where
    go : (o : Outcome) (l u : List ℕ) → Searched (request_of x q) o l u → AsSearched q x r list scratch answer
    go (Ok a) l u p =
        let v = searched_by q x e h ∙ p.verdict_is in
        let kept = rw (v, e) at s.scratch_is in
        record {
          outcome = Ok a;
          searched =
              record {
                verdict_is = p.verdict_is;
                answer = p.answer;
                list_is = rw v at s.list_is;
                scratch_length = kept.0;
                scratch_rest = kept.1;
              };
          tells = rw (p.answer.steps, p.answer.occurrences, p.answer.mark, p.answer.ending) (rw v at s.tells);
        }
    go (Err y) l u p =
        let v = searched_by q x e h ∙ p.verdict_is in
        record {
          outcome = Err y;
          searched = record { verdict_is = p.verdict_is; list_is = rw v at s.list_is; scratch_is = rw v at s.scratch_is };
          tells = rw v at s.tells;
        }
