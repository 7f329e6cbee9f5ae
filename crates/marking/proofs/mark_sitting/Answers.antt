-- `marking::mark_sitting` meets its contract: what is judged in turn is the verdict's first condition that holds, and only then is the
-- report written.
-- Assumes nothing.
use mathlib.Core.Path.{sym, ap, ◌∙◌}
use native.Mathlib.Omega.{arith}
use borrow.Author.Tests.{eqb-true}
use Rattle.positions.specs.Rising.{rising}
use Rattle.marking.specs.declared.MarkRefusal.TheVariants.{TooManySheets, CountsDiffer, ListNotRising, TargetTooShort}
use Rattle.marking.proofs.Verdicts.{many_sheets, counts_differ, not_rising, report_short, all_marked, marks_refused, marks_all}
use Rattle.marking.proofs.mark_sitting.Goals as goal

pub returns-then-counts-gt-SHEETS : goal.returns-then-counts-gt-SHEETS
returns-then-counts-gt-SHEETS c = marks_refused _ _ _ _ TooManySheets (many_sheets _ _ _ _ (omega arith))

pub returns-then-not-add_up : goal.returns-then-not-add_up
returns-then-not-add_up c = marks_refused _ _ _ _ CountsDiffer (counts_differ _ _ _ _ (omega arith) (sym c.if-not-add_up.ensures))

-- the key does not rise
pub returns-in_default : goal.returns-in_default
returns-in_default c =
    let same = sym c.if-not-add_up.ensures in
    marks_refused _ _ _ _ ListNotRising (not_rising _ _ _ _ (omega arith) same (rw c.in_default.ensures))

pub all_rise-requires : goal.all_rise-requires
all_rise-requires c = omega (arith, eqb-true _ _ (sym c.if-not-add_up.ensures))

-- a sheet does not
pub returns-then-not-all_rise : goal.returns-then-not-all_rise
returns-then-not-all_rise c =
    let same = sym c.if-not-add_up.ensures in
    let rises = ap rising (sym c.in-Some.ensures) ∙ c.in-Some.key.rises in
    let falls = sym c.if-not-all_rise.ensures in
    marks_refused _ _ _ _ ListNotRising (not_rising _ _ _ _ (omega arith) same (rw (rises, falls)))

pub returns-then-target-counts : goal.returns-then-target-counts
returns-then-target-counts c =
    let same = sym c.if-not-add_up.ensures in
    let rises = ap rising (sym c.in-Some.ensures) ∙ c.in-Some.key.rises in
    let rise = sym c.if-not-all_rise.ensures in
    marks_refused _ _ _ _ TargetTooShort (report_short _ _ _ _ (omega arith) same (rw (rises, rise)) c.if-target-counts.true)

pub write-requires : goal.write-requires
write-requires c =
    record {
      few_sheets = omega arith;
      cells_enough = omega (arith, eqb-true _ _ (sym c.if-not-add_up.ensures));
      sheets_rise = sym c.if-not-all_rise.ensures;
      report_fits = c.if-target-counts.false;
    }

pub returns : goal.returns
returns c =
    let same = sym c.if-not-add_up.ensures in
    let rises = ap rising (sym c.in-Some.ensures) ∙ c.in-Some.key.rises in
    let rise = sym c.if-not-all_rise.ensures in
    let write = c.write.ensures in
    let fits = c.if-target-counts.false in
    rw (write.stored, c.in-Some.ensures)
    (marks_all _ _ _ _ c.write.result (all_marked _ _ _ _ (omega arith) same (rw (rises, rise)) fits) (rw c.in-Some.ensures at write.totals) fits)
