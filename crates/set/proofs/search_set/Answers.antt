-- `set::search_set` meets its contract: the check says which row refuses, and a call that passes is what the machine comes to.
-- Assumes nothing.
use Rattle.std.specs.Prelude.{Result, Ok, Err}
use Rattle.std.proofs.lemmas.Result.{err_from_is_err_and}
use mathlib.Core.Path.{◌≡◌, refl, sym, ◌∙◌, ap}
use native.Mathlib.Omega.{arith}
use Rattle.search.specs.Verdict.{AllFail, refused, accepted, judge}
use Rattle.search.proofs.Verdict.{judge_accepted, accepted_judge}
use Rattle.matcher.specs.Ready.{text_of}
use Rattle.set.specs.declared.Refusal.{Refusal}
use Rattle.set_rules.specs.Verdict.{Request, rows, machine, verdict}
use Rattle.set.specs.Promise.{number_of_refusal}
use Rattle.set_tables.specs.Parts.{set_of}
use Rattle.set.specs.Parts.{check_of, Allowed}
use Rattle.set.proofs.Rows.{allowed, judge_again}
use Rattle.set.proofs.search_set.Goals as goal
use Rattle.set.proofs.search_set.Goals.{Start}

-- the request of a call
asked : Start → Request
asked c =
    let a = c.args in
    record { text = text_of a.text.now a.n; patterns = set_of a.patterns.now a.fixed.now a.counts.now; mark = a.mark.at.0; budget = a.budget; list = a.list.now }

-- what the check said, of the whole request
module _ (q : Request) (k : Result (Unit {0}) Refusal) (says : check_of k ≡ judge (rows q.text q.patterns q.mark) tt) where
  fails : k ≡ Ok tt → AllFail (rows q.text q.patterns q.mark)
  fails e = (judge_accepted tt (rows q.text q.patterns q.mark) tt (sym says ∙ ap check_of e)).0

  may-run : k ≡ Ok tt → Allowed q.text q.patterns q.mark
  may-run e = allowed q.text q.patterns q.mark (fails e)

  passed : k ≡ Ok tt → verdict q ≡ accepted (machine q)
  unfolding verdict
  passed e = accepted_judge (machine q) (rows q.text q.patterns q.mark) (fails e)

  not_passed : (r : Refusal) → k ≡ Err r → verdict q ≡ refused (number_of_refusal r)
  unfolding verdict
  not_passed r e = judge_again tt (machine q) (rows q.text q.patterns q.mark) (number_of_refusal r) (sym says ∙ ap check_of e)

pub overflow_cast-n : goal.overflow_cast-n
unfolding asked
overflow_cast-n c = omega (arith, (may-run (asked (goal.at.overflow_cast-n c).Start) _ c.check.ensures c.in_ok-check.was).few_bits)

pub accepted-requires : goal.accepted-requires
unfolding asked
accepted-requires c = may-run (asked (goal.at.accepted-requires c).Start) _ c.check.ensures c.in_ok-check.was

pub returns-in_err-check : goal.returns-in_err-check
unfolding asked
returns-in_err-check c =
    let e = err_from_is_err_and c.from_residual.result c.from_residual.ensures.1 in
    let why : c.check.result ≡ Err e.0 = rw e.2 c.in_err-check.was in
    rw e.1 (record { verdict_is = not_passed (asked (goal.at.returns-in_err-check c).Start) _ c.check.ensures _ why; list_is = refl })

pub returns : goal.returns
unfolding asked machine
returns c =
    let l = c.accepted.ensures in
    record {
      verdict_is = passed (asked (goal.at.returns c).Start) _ c.check.ensures c.in_ok-check.was;
      answer = l.answer;
      list_is = l.list_is;
    }
