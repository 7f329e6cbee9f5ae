-- `capi::lists::mitongory_list_size` meets its contract: few answer cells refuse, else the answer is that of `positions::size`.
-- Assumes nothing.
use mathlib.Core.Path.{refl, ap}
use Rattle.capi.specs.ListFile.{count_tells, size_told}
use Rattle.capi.proofs.Calling.{none_told, refusal_told, number_told}
use Rattle.capi.proofs.lists.mitongory_list_size.Goals as goal

pub returns-then-answer-lt1 : goal.returns-then-answer-lt1
unfolding size_told
returns-then-answer-lt1 c = none_told count_tells _ _ _ c.if-answer-lt1.true refl

pub returns-in-Err : goal.returns-in-Err
unfolding size_told
returns-in-Err c =
    let told = rw c.in-Err.is at c.size-needed.ensures in
    refusal_told count_tells _ _ _ c.if-answer-lt1.false (ap count_tells told) c.number.ensures

pub returns-in-Ok : goal.returns-in-Ok
unfolding size_told
returns-in-Ok c =
    let told = rw c.in-Ok.is at c.size-needed.ensures in
    number_told count_tells _ _ _ c.if-answer-lt1.false (ap count_tells told) c.one.ensures
