-- `capi::lists::mitongory_list_write` meets its contract: few answer cells refuse, else answer and target are those of `positions::write`.
-- Assumes nothing.
use mathlib.Core.Path.{refl, ap}
use Rattle.capi.specs.ListFile.{count_tells}
use Rattle.positions.specs.Promise.{leaves}
use Rattle.capi.proofs.Calling.{none_filled, refusal_filled, number_filled, written}
use Rattle.capi.proofs.lists.mitongory_list_write.Goals as goal

pub returns-then-answer-lt1 : goal.returns-then-answer-lt1
unfolding leaves
returns-then-answer-lt1 c = written (none_filled c.if-answer-lt1.true refl)

pub returns-in-Err : goal.returns-in-Err
returns-in-Err c =
    let told = rw c.in-Err.is at c.write-written.ensures.answer in
    written (refusal_filled c.if-answer-lt1.false (ap count_tells told) c.write-written.ensures.target c.number.ensures)

pub returns-in-Ok : goal.returns-in-Ok
returns-in-Ok c =
    let told = rw c.in-Ok.is at c.write-written.ensures.answer in
    written (number_filled c.if-answer-lt1.false (ap count_tells told) c.write-written.ensures.target c.one.ensures)
