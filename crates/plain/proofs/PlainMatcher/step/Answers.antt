-- The plain method's `step` meets its contract: the row at the mark fits just if the pattern stands there.
-- Assumes nothing.
use Rattle.std.proofs.Common.{refl, arith}
use Rattle.matcher.specs.Asked.{text_in, pattern_in}
use Rattle.plain.proofs.PlainSteps.{step_none, step_one, step_full}
use Rattle.plain.proofs.PlainMatcher.step.Goals as goal

pub returns-then-not-row_fits : goal.returns-then-not-row_fits
returns-then-not-row_fits c =
    let a = c.args in
    let q = a.search.now.query in
    let e = c.row_fits.ensures in
    (step_none (text_in q) (pattern_in q) _ a.search.now.ready e.small a.s.0 c.requires a.list.now 0 (omega arith) _ e.agrees c.if-not-row_fits.true, refl)

pub returns-then-is_empty : goal.returns-then-is_empty
returns-then-is_empty c =
    let a = c.args in
    let q = a.search.now.query in
    let e = c.row_fits.ensures in (
      step_full (text_in q) (pattern_in q) _ a.search.now.ready e.small a.s.0 c.requires a.list.now 0 (omega arith) _ e.agrees c.if-not-row_fits.false
          (grind (arith, c.is_empty.ensures)),
      refl,
    )

pub returns : goal.returns
returns c =
    let a = c.args in
    let q = a.search.now.query in
    let e = c.row_fits.ensures in (
      step_one (text_in q) (pattern_in q) _ a.search.now.ready e.small a.s.0 c.requires a.list.now 0 (omega arith) _ e.agrees c.if-not-row_fits.false
          (grind (arith, c.is_empty.ensures)),
      refl,
    )
