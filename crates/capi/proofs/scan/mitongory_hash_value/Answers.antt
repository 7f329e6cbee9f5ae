-- `capi::scan::mitongory_hash_value` meets its contract: few answer cells refuse, else the answer is that of `search::hash_value::hash_value`.
-- Assumes nothing.
use mathlib.Core.Path.{refl, ap}
use Rattle.capi.specs.Scan.{number_tells, hash_told}
use Rattle.capi.proofs.Calling.{none_told, refusal_told, number_told}
use Rattle.capi.proofs.scan.mitongory_hash_value.Goals as goal

pub returns-then-answer-lt1 : goal.returns-then-answer-lt1
unfolding hash_told
returns-then-answer-lt1 c = none_told (λ v. v) _ _ _ c.if-answer-lt1.true refl

pub returns-in-Err : goal.returns-in-Err
unfolding hash_told
returns-in-Err c =
    let told = rw c.in-Err.is at c.hash_value.ensures in
    refusal_told (λ v. v) _ _ _ c.if-answer-lt1.false (ap number_tells told) c.number.ensures

pub returns-in-Ok : goal.returns-in-Ok
unfolding hash_told
returns-in-Ok c =
    let told = rw c.in-Ok.is at c.hash_value.ensures in
    number_told (λ v. v) _ _ _ c.if-answer-lt1.false (ap number_tells told) (rw c.from.ensures at c.one.ensures)
