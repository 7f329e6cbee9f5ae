-- `marking::report::sheet_marks` meets its contract.
-- Assumes nothing.
use native.Mathlib.Omega.{arith}
use Rattle.marking.specs.Marks.{marks}
use Rattle.marking.proofs.Reporting.{parts}
use Rattle.marking.proofs.report.sheet_marks.Goals as goal

pub overflow_cast-result : goal.overflow_cast-result
unfolding marks
overflow_cast-result c =
    let p = parts _ _ c.right-right.result c.args.key.rises c.args.sheet.rises c.right-right.ensures in
    omega arith

pub overflow_sub-result : goal.overflow_sub-result
unfolding marks
overflow_sub-result c =
    let p = parts _ _ c.right-right.result c.args.key.rises c.args.sheet.rises c.right-right.ensures in
    omega arith

pub overflow_cast-result-2 : goal.overflow_cast-result-2
unfolding marks
overflow_cast-result-2 c =
    let p = parts _ _ c.right-right.result c.args.key.rises c.args.sheet.rises c.right-right.ensures in
    omega arith

pub overflow_sub-result-2 : goal.overflow_sub-result-2
unfolding marks
overflow_sub-result-2 c =
    let p = parts _ _ c.right-right.result c.args.key.rises c.args.sheet.rises c.right-right.ensures in
    omega arith

pub overflow_cast-result-3 : goal.overflow_cast-result-3
unfolding marks
overflow_cast-result-3 c =
    let p = parts _ _ c.right-right.result c.args.key.rises c.args.sheet.rises c.right-right.ensures in
    omega arith

pub returns : goal.returns
unfolding marks
returns c =
    let p = parts _ _ c.right-right.result c.args.key.rises c.args.sheet.rises c.right-right.ensures in
    record { right_is = c.right-right.ensures; missed_is = omega arith; false_is = omega arith }
