-- A search from C with every bit of the pattern fixed answers as before there was a second run; two that differ in what a pattern
-- has at wild bits and from bit m on return the same and leave the same list and answer cells. The same holds for H(B) by itself.
-- Assumes nothing.
use Prim.Native.Nat.{ℕ, ◌≤◌}
use mathlib.Core.Path.{◌≡◌, refl, sym, ap, ◌∙◌}
use mathlib.Core.List.{List}
use lib.ListN.{length}
use Rattle.bits.specs.Packed.{bytes_for}
use Rattle.rules.specs.Pattern.{Pattern}
use Rattle.rules.specs.Wild.{AllFixed}
use Rattle.rules.specs.Machine.{Run}
use Rattle.search.specs.Verdict.{Verdict, refused}
use Rattle.search.specs.Wild.{BothThere}
use Rattle.search.proofs.Wild as search
use Rattle.capi.specs.Told.{Told, result_of, answer_after, answer_cells_missing, refuses, unless_cells}
use Rattle.capi.specs.Scan.{Named, known, unknown, method_named, Call, request_of, verdict_by, search_verdict, run_tells, list_after, figure_of, Searches, number_tells, hash_told}
use Rattle.capi.specs.Scratch.{SameAnswers}
use Rattle.capi.specs.Wild.{pattern_in, before_by, search_verdict_before, hash_told_before, EveryBitFixed, with_pattern}

-- ---- a pattern with every bit fixed

before_by_lem : (q : Call) → EveryBitFixed q → (n : Named) → figure_of n q.m ≤ length q.scratch → verdict_by n q ≡ before_by n q
before_by_lem q e unknown room = refl
before_by_lem q e (known x) room =
    ap (unless_cells 4 q.answer (refused answer_cells_missing))
    (search.answers_as_before (request_of x q) (record { fixed_there = e.fixed_there; all_fixed = e.all_fixed; enough = room }))

pub answers_as_before : (q : Call) → EveryBitFixed q → search_verdict q ≡ search_verdict_before q
unfolding search_verdict search_verdict_before
answers_as_before q e = before_by_lem q e (method_named q.method) e.enough

-- what the call for H(B) tells goes by its verdict
telling : List ℕ → Verdict ℕ → Told
telling answer v = unless_cells 1 answer (refuses answer_cells_missing) (number_tells v)

pub hash_as_before : (w : Pattern) → bytes_for w.count ≤ length w.fixed → AllFixed w → (value : ℕ) (answer : List ℕ)
    → hash_told w.bytes w.fixed w.count value answer ≡ hash_told_before w value answer
unfolding hash_told hash_told_before telling
hash_as_before w there f value answer = ap (telling answer) (search.hash_as_before w there f value)

-- ---- patterns that are alike

pub hash_value_alike : (w v : Pattern) → BothThere w v → (value : ℕ) (answer : List ℕ)
    → hash_told w.bytes w.fixed w.count value answer ≡ hash_told v.bytes v.fixed v.count value answer
unfolding hash_told telling
hash_value_alike w v b value answer = ap (telling answer) (search.hash_value_alike w v b value)

module _ (q : Call) (pattern fixed : List ℕ) (b : BothThere (pattern_in q) (pattern_in (with_pattern q pattern fixed))) where
  by : (n : Named) → verdict_by n q ≡ verdict_by n (with_pattern q pattern fixed)
  by unknown = refl
  by (known x) =
      ap (unless_cells 4 q.answer (refused answer_cells_missing))
      (search.verdict_same (pattern_in q) (pattern_in (with_pattern q pattern fixed)) b (request_of x q))

  verdict_same : search_verdict q ≡ search_verdict (with_pattern q pattern fixed)
  unfolding search_verdict
  verdict_same = by (method_named q.method)

  pub alike_answers : (r r' : ℕ) (list list' scratch scratch' answer answer' : List ℕ)
      → Searches q r list scratch answer → Searches (with_pattern q pattern fixed) r' list' scratch' answer'
      → SameAnswers r r' list list' answer answer'
  alike_answers r r' list list' scratch scratch' answer answer' s t =
      record {
        results = s.tells.result_is ∙ ap (λ (v : Verdict Run). result_of (run_tells v)) verdict_same ∙ sym t.tells.result_is;
        lists = s.list_is ∙ ap (λ (v : Verdict Run). list_after v q.list) verdict_same ∙ sym t.list_is;
        answers = s.tells.answer_is ∙ ap (λ (v : Verdict Run). answer_after (run_tells v) q.answer) verdict_same ∙ sym t.tells.answer_is;
      }
