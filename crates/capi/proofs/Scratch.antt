-- Two searches from C that differ in the scratch alone, each with enough cells, return the same and leave the same list and
-- answer cells. And what `mitongory_scratch_cells` tells is just what the search needs.
-- Assumes nothing.
use Prim.Native.Nat.{ℕ, ◌≤◌}
use mathlib.Core.Path.{◌≡◌, refl, sym, ap, ◌∙◌}
use mathlib.Core.Bool.{Bool, true, false}
use mathlib.Core.List.{List}
use native.Mathlib.Omega.{arith}
use lib.Dec.{ltb}
use lib.ListN.{length, get_or}
use Rattle.rules.specs.declared.Method.{Method}
use Rattle.rules.specs.Machine.{Run}
use Rattle.search.specs.Verdict.{Verdict, refused, accepted, verdict, scratch_verdict}
use Rattle.search.specs.Scratch as library
use Rattle.search.proofs.Scratch as search
use Rattle.capi.specs.Told.{result_of, answer_after, answer_cells_missing, unless_cells, Tells}
use Rattle.capi.specs.Scan.{Named, known, unknown, method_named, Call, request_of, verdict_by, search_verdict, run_tells, list_after, figure_of, Searches, cells_told}
use Rattle.capi.specs.Scratch.{with_scratch, Enough, SameAnswers, Needs}

-- ---- two calls that differ in the scratch alone

module _ (q : Call) (other : List ℕ) where
  by : (n : Named) → figure_of n q.m ≤ length q.scratch → figure_of n q.m ≤ length other
      → verdict_by n (with_scratch q other) ≡ verdict_by n q
  by unknown h g = refl
  by (known x) h g =
      ap (unless_cells 4 q.answer (refused answer_cells_missing)) (search.verdict_same (request_of x q) other h g)

  verdict_same : Enough q → Enough (with_scratch q other) → search_verdict (with_scratch q other) ≡ search_verdict q
  unfolding search_verdict
  verdict_same h g = by (method_named q.method) h g

  pub same_answers : Enough q → Enough (with_scratch q other) → (r r' : ℕ) (list list' scratch scratch' answer answer' : List ℕ)
      → Searches q r list scratch answer → Searches (with_scratch q other) r' list' scratch' answer'
      → SameAnswers r r' list list' answer answer'
  same_answers h g r r' list list' scratch scratch' answer answer' s t =
      let same = sym (verdict_same h g) in
      record {
        results = s.tells.result_is ∙ ap (λ (v : Verdict Run). result_of (run_tells v)) same ∙ sym t.tells.result_is;
        lists = s.list_is ∙ ap (λ (v : Verdict Run). list_after v q.list) same ∙ sym t.list_is;
        answers = s.tells.answer_is ∙ ap (λ (v : Verdict Run). answer_after (run_tells v) q.answer) same ∙ sym t.tells.answer_is;
      }

-- ---- the figure by itself

-- what the call for the figure says where it returns 0
record Told (method m k : ℕ) : Type 0 where
  x : Method
  named : method_named method ≡ known x
  told : scratch_verdict x m ≡ accepted k

told_by : (method m r : ℕ) (before after : List ℕ) → Tells (cells_told method m before) before r after → r ≡ 0 → Told method m (get_or after 0 0)
unfolding cells_told
told_by method m r before after t zero = by_name (method_named method) refl
  where
    by_verdict : (x : Method) → method_named method ≡ known x → ltb (length before) 1 ≡ false → (v : Verdict ℕ) → scratch_verdict x m ≡ v → Told method m (get_or after 0 0)
    by_verdict x e h (refused n) v =
        let is : ◌≡◌ {A = ℕ} 0 n = sym zero ∙ rw v at (rw h at (rw e at t.result_is)) in
        absurd (search.cells_not_zero x m (v ∙ ap refused (sym is)))
    by_verdict x e h (accepted k) v =
        let first : get_or after 0 0 ≡ k = ap (λ (l : List ℕ). get_or l 0 0) (rw v at (rw h at (rw e at t.answer_is))) in
        record { x = x; named = e; told = v ∙ ap accepted (sym first) }

    by_cells : (x : Method) → method_named method ≡ known x → (b : Bool) → ltb (length before) 1 ≡ b → Told method m (get_or after 0 0)
    by_cells x e true h =
        let wrong : ◌≡◌ {A = ℕ} 0 101 = sym zero ∙ rw h at (rw e at t.result_is) in
        absurd (omega arith)
    by_cells x e false h = by_verdict x e h (scratch_verdict x m) refl

    by_name : (n : Named) → method_named method ≡ n → Told method m (get_or after 0 0)
    by_name unknown e =
        let wrong : ◌≡◌ {A = ℕ} 0 100 = sym zero ∙ rw e at t.result_is in
        absurd (omega arith)
    by_name (known x) e = by_cells x e (ltb (length before) 1) refl

module _ (q : Call) (k : ℕ) (x : Method) (named : method_named q.method ≡ known x) (needs : library.Needs (request_of x q) k) where
  search_needs : (r : ℕ) → r ≡ result_of (run_tells (search_verdict q)) → Needs q k r
  unfolding search_verdict
  search_needs r is = by_cells (ltb (length q.answer) 4) refl
    where
      by_verdict : ltb (length q.answer) 4 ≡ false → (v : Verdict Run) → verdict (request_of x q) ≡ v → Needs q k r
      by_verdict h (refused n) v =
          let number : r ≡ n = rw v at (rw h at (rw named at is)) in
          record {
            enough = λ c e. needs.enough c (v ∙ ap refused (sym number ∙ e));
            least = λ c e. absurd (search.search_not_zero (request_of x q) (v ∙ ap refused (sym number ∙ e)));
          }
      by_verdict h (accepted a) v =
          let number : r ≡ 0 = rw v at (rw h at (rw named at is)) in
          record {
            enough = λ c e. omega arith;
            least = λ c e. needs.least c a v;
          }

      by_cells : (b : Bool) → ltb (length q.answer) 4 ≡ b → Needs q k r
      by_cells true h =
          let number : r ≡ 101 = rw h at (rw named at is) in
          record { enough = λ c e. omega arith; least = λ c e. omega arith }
      by_cells false h = by_verdict h (verdict (request_of x q)) refl

-- The cells that `mitongory_scratch_cells` told for the method and m are just what the search needs.
pub needs : (q : Call) (told result : ℕ) (before after list scratch answer : List ℕ)
    → Tells (cells_told q.method q.m before) before told after → told ≡ 0 → Searches q result list scratch answer
    → Needs q (get_or after 0 0) result
needs q told result before after list scratch answer t zero s =
    let by = told_by q.method q.m told before after t zero in
    search_needs q (get_or after 0 0) by.x by.named (search.needs (request_of by.x q) (get_or after 0 0) by.told) result s.tells.result_is
