-- `search::Mark::search` meets its contract: the check says which row refuses, and a call that passes is what the machine comes to.
-- Assumes nothing.
use Rattle.search.specs.declared.Refusal.{Refusal}
use Rattle.std.specs.Prelude.{Result, Ok, Err}
use Rattle.std.proofs.lemmas.Result.{err_from_is_err_and}
use mathlib.Core.Path.{◌≡◌, refl}
use native.Mathlib.Omega.{arith}
use Rattle.search.specs.Verdict.{Request, machine}
use Rattle.matcher.specs.Ready.{text_of, pattern_of}
use Rattle.search.specs.Parts.{check_of, check_verdict, Allowed}
use Rattle.search.proofs.Verdict.{accepted_iff}
use Rattle.search.proofs.Accepting.{allowed, passed, not_passed}
use Rattle.search.proofs.Mark.search.Goals as goal
use Rattle.search.proofs.Mark.search.Goals.{Start}

-- the request of a call
asked : Start → Request
asked c =
    let a = c.args in
    record { text = text_of a.text.now a.n; pattern = pattern_of a.pattern.now a.fixed.now a.m; method = a.method; mark = a.self.at.0; budget = a.budget; list = a.list.now; scratch = a.scratch.now }

-- what a call that passed the check may rely on
may_run : (q : Request) (k : Result (Unit {0}) Refusal) → check_of k ≡ check_verdict q.text q.pattern q.method q.mark q.scratch → k ≡ Ok tt
    → Allowed q.method q.text q.pattern q.mark q.scratch
may_run q k says e = allowed q (passed q k says e)

pub overflow_cast-n : goal.overflow_cast-n
unfolding asked
overflow_cast-n c = omega (arith, (may_run (asked (goal.at.overflow_cast-n c).Start) _ c.check.ensures c.in_ok-check.was).few_bits)

pub overflow_cast-pattern : goal.overflow_cast-pattern
unfolding asked
overflow_cast-pattern c = omega (arith, (may_run (asked (goal.at.overflow_cast-pattern c).Start) _ c.check.ensures c.in_ok-check.was).pattern.few_bits)

pub accepted-requires : goal.accepted-requires
unfolding asked
accepted-requires c = may_run (asked (goal.at.accepted-requires c).Start) _ c.check.ensures c.in_ok-check.was

pub returns-in_err-check : goal.returns-in_err-check
unfolding asked
returns-in_err-check c =
    let e = err_from_is_err_and c.from_residual.result c.from_residual.ensures.1 in
    let why : c.check.result ≡ Err e.0 = rw e.2 c.in_err-check.was in
    rw e.1 (record { verdict_is = not_passed (asked (goal.at.returns-in_err-check c).Start) _ c.check.ensures _ why; list_is = refl; scratch_is = refl })

pub returns : goal.returns
unfolding asked machine
returns c =
    let l = c.accepted.ensures in
    record {
      verdict_is = (accepted_iff (asked (goal.at.returns c).Start)).1 (passed (asked (goal.at.returns c).Start) _ c.check.ensures c.in_ok-check.was);
      answer = l.answer;
      list_is = l.list_is;
      scratch_length = l.scratch_length;
      scratch_rest = l.scratch_rest;
    }
