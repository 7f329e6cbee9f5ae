-- `capi::sitting::mitongory_mark_sitting` meets its contract: few answer cells refuse, else answer and report are those of
-- `marking::mark_sitting`.
-- Assumes nothing.
use mathlib.Core.Path.{refl, ap}
use native.Mathlib.Omega.{arith}
use Rattle.capi.specs.Sitting.{totals_tell}
use Rattle.capi.proofs.Calling.{none_filled, refusal_filled, number_filled, marked}
use Rattle.capi.proofs.sitting.mitongory_mark_sitting.Goals as goal

pub returns-then-answer-lt3 : goal.returns-then-answer-lt3
returns-then-answer-lt3 c = marked (none_filled (omega arith) refl)

pub returns-in-Err : goal.returns-in-Err
returns-in-Err c =
    let told = rw c.in-Err.is at c.mark_sitting-marked.ensures.answer in
    marked (refusal_filled (omega arith) (ap totals_tell told) c.mark_sitting-marked.ensures.report c.number.ensures)

pub returns-in-Ok : goal.returns-in-Ok
returns-in-Ok c =
    let told = rw c.in-Ok.is at c.mark_sitting-marked.ensures.answer in
    marked (number_filled (omega arith) (ap totals_tell told) c.mark_sitting-marked.ensures.report c.three.ensures)
