-- With every bit fixed a call answers as before there was a second run; patterns that are alike get the same answers.
-- Assumes nothing.
use Rattle.std.specs.Prelude.{Ok, Err}
use Prim.Native.Nat.{ℕ, ◌≤◌}
use mathlib.Core.Path.{◌≡◌, sym, ap, ◌∙◌}
use mathlib.Core.Bool.{false}
use mathlib.Core.List.{List, [], ◌∷◌, ◌++◌}
use native.Mathlib.Omega.{arith}
use borrow.Author.Tests.{le-ltb}
use lib.ListN.{length, drop}
use Rattle.bits.specs.Packed.{bytes_for}
use Rattle.rules.specs.declared.Method.{Method}
use Rattle.rules.specs.declared.Method.TheVariants.{Plain, Hash, Skip, Wide, Tail}
use Rattle.rules.specs.Pattern.{Pattern}
use Rattle.rules.specs.Wild.{AllFixed}
use Rattle.rules.specs.Scratch.{scratch_cells}
use Rattle.rules.specs.Machine.{Run}
use Rattle.rules.proofs.Before.{as_before}
use Rattle.search.specs.Verdict.{Outcome, Request, text_too_long, text_bytes_missing, pattern_length, pattern_bytes_missing, pattern_unfit, mark_beyond, accepted, rows, judge, machine, verdict, hash_verdict, Searched}
use Rattle.search.specs.Scratch.{SameAnswers}
use Rattle.search.specs.Wild.{cells_before, verdict_before, hash_verdict_before, EveryBitFixed, with_pattern, BothThere}
use Rattle.search.proofs.Verdict.{judge_accepted}
use Rattle.search.proofs.Answers.{unique}
use Rattle.search.proofs.Padding.{judge_same, SamePattern, verdict_alike, hash_verdict_alike}

-- no method took more cells before
cells_fewer : (x : Method) (m : ℕ) → cells_before x m ≤ scratch_cells x m
cells_fewer Plain m = omega arith
cells_fewer Hash m = omega arith
cells_fewer Skip m = omega arith
cells_fewer Wide m = omega arith
cells_fewer Tail m = omega arith

pub answers_as_before : (q : Request) → EveryBitFixed q → verdict q ≡ verdict_before q
unfolding verdict verdict_before rows judge machine
answers_as_before q e =
    let few = cells_fewer q.method q.pattern.count in
    let old : cells_before q.method q.pattern.count ≤ length q.scratch = omega (arith, few, e.enough) in
    rw (le-ltb _ _ e.fixed_there, le-ltb _ _ e.enough, le-ltb _ _ old)
    (judge_same
    (text_too_long q.text
    ∷ text_bytes_missing q.text
    ∷ pattern_length q.pattern.count
    ∷ pattern_bytes_missing q.pattern
    ∷ pattern_unfit q.method q.pattern.count
    ∷ mark_beyond q.text q.pattern q.mark
    ∷ record { number = 7; holds = false }
    ∷ [])
    _ _ (λ f.
    (as_before q.text q.pattern e.all_fixed).run_is q.method f.1.1.1.1.0 q.budget q.mark (length q.list)))

-- no text plays a part in H(B), so any will do
pub hash_as_before : (w : Pattern) → bytes_for w.count ≤ length w.fixed → AllFixed w → (B : ℕ) → hash_verdict w B ≡ hash_verdict_before w B
unfolding hash_verdict hash_verdict_before judge
hash_as_before w there f B =
    rw (le-ltb _ _ there)
    (judge_same (pattern_length w.count ∷ pattern_bytes_missing w ∷ pattern_unfit Hash w.count ∷ [])
    _ _ (λ _. (as_before (record { bytes = []; count = 0 }) w f).hash_of_is B))

module _ (w v : Pattern) (b : BothThere w v) where
  both : SamePattern w v
  both =
      record {
        missing = le-ltb _ _ b.bytes_there ∙ sym (le-ltb _ _ b.bytes_there');
        fixed_missing = le-ltb _ _ b.fixed_there ∙ sym (le-ltb _ _ b.fixed_there');
        alike = b.alike;
      }

  pub hash_value_alike : (B : ℕ) → hash_verdict w B ≡ hash_verdict v B
  hash_value_alike B = hash_verdict_alike w v both B

  module _ (q : Request) where
    pub verdict_same : verdict (with_pattern q w) ≡ verdict (with_pattern q v)
    verdict_same = verdict_alike w v both q

    -- where the second call is accepted, the machine comes to the same for both
    machine_same : verdict (with_pattern q v) ≡ accepted (machine (with_pattern q v)) → machine (with_pattern q v) ≡ machine (with_pattern q w)
    unfolding verdict
    machine_same h =
        (judge_accepted (machine (with_pattern q w)) (rows (with_pattern q w)) (machine (with_pattern q v)) (verdict_same ∙ h)).1

    -- the promise of the second call is one about the first
    as_first : (p : Outcome) (list scratch : List ℕ) → Searched (with_pattern q v) p list scratch → Searched (with_pattern q w) p list scratch
    as_first (Ok a) list scratch s =
        let same = machine_same s.verdict_is in
        record {
          verdict_is = verdict_same ∙ s.verdict_is ∙ ap accepted same;
          answer = rw (← same) s.answer;
          list_is = s.list_is ∙ ap (λ (r : Run). r.written ++ drop (length r.written) q.list) same;
          scratch_length = s.scratch_length;
          scratch_rest = rw b.alike.as_many s.scratch_rest;
        }
    as_first (Err r) list scratch s =
        record { verdict_is = verdict_same ∙ s.verdict_is; list_is = s.list_is; scratch_is = s.scratch_is }

    -- so two calls that differ in the pattern alone come to the same answer, mark and list
    pub alike_answers : (o p : Outcome) (l k s u : List ℕ) → Searched (with_pattern q w) o l s → Searched (with_pattern q v) p k u → SameAnswers o p l k
    alike_answers o p l k s u first second =
        let same = unique (with_pattern q w) o p l k s u first (as_first p k u second) in
        record { outcome = same.outcome; lists = same.list }
