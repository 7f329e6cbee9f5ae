-- `capi::lists::mitongory_list_read` meets its contract: few answer cells refuse, else answer and cells are those of `positions::read`.
-- Assumes nothing.
use mathlib.Core.Path.{refl, ap}
use Rattle.capi.specs.ListFile.{count_tells}
use Rattle.positions.specs.Promise.{read_answer, read_cells}
use Rattle.capi.proofs.Calling.{none_filled, refusal_filled, number_filled, read}
use Rattle.capi.proofs.lists.mitongory_list_read.Goals as goal

pub returns-then-answer-lt1 : goal.returns-then-answer-lt1
unfolding read_answer read_cells
returns-then-answer-lt1 c = read (none_filled c.if-answer-lt1.true refl)

pub returns-in-Err : goal.returns-in-Err
returns-in-Err c =
    let told = rw c.in-Err.is at c.read-read.ensures.answer in
    read (refusal_filled c.if-answer-lt1.false (ap count_tells told) c.read-read.ensures.cells c.number.ensures)

pub returns-in-Ok : goal.returns-in-Ok
returns-in-Ok c =
    let told = rw c.in-Ok.is at c.read-read.ensures.answer in
    read (number_filled c.if-answer-lt1.false (ap count_tells told) c.read-read.ensures.cells c.one.ensures)
