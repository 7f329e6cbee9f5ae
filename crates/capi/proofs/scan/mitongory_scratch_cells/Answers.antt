-- `capi::scan::mitongory_scratch_cells` meets its contract: an unknown method or few answer cells refuse, else the answer is that of
-- `search::scratch_cells::scratch_cells`.
-- Assumes nothing.
use mathlib.Core.Path.{refl, sym, ap}
use Rattle.capi.specs.Scan.{number_tells, cells_told}
use Rattle.capi.proofs.Telling.{refusing}
use Rattle.capi.proofs.Calling.{none_told, refusal_told, number_told}
use Rattle.capi.proofs.scan.mitongory_scratch_cells.Goals as goal

pub returns-in_default : goal.returns-in_default
unfolding cells_told
returns-in_default c =
    let named = c.in_default.is in
    let unknown = rw named at (sym c.method_of.ensures) in
    rw unknown (refusing _ _)

pub returns-then-answer-lt1 : goal.returns-then-answer-lt1
unfolding cells_told
returns-then-answer-lt1 c =
    let named = c.in-Some.is in
    let known = rw named at (sym c.method_of.ensures) in
    rw known (none_told (λ v. v) _ _ _ c.if-answer-lt1.true refl)

pub returns-in-Ok : goal.returns-in-Ok
unfolding cells_told
returns-in-Ok c =
    let told = rw c.in-Ok.is at c.scratch_cells.ensures in
    rw (rw c.in-Some.is at (sym c.method_of.ensures)) (number_told (λ v. v) _ _ _ c.if-answer-lt1.false (ap number_tells told) c.one.ensures)

pub returns-in-Err : goal.returns-in-Err
unfolding cells_told
returns-in-Err c =
    let told = rw c.in-Err.is at c.scratch_cells.ensures in
    rw (rw c.in-Some.is at (sym c.method_of.ensures)) (refusal_told (λ v. v) _ _ _ c.if-answer-lt1.false (ap number_tells told) c.number.ensures)
