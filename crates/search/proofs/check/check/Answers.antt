-- `search::check::check` meets its contract: at each `return` the tests that led there say which row of the table is the first that holds.
-- Assumes nothing.
use mathlib.Core.Path.{sym, ◌∙◌}
use mathlib.Core.List.{[]}
use native.Mathlib.Omega.{arith}
use Rattle.matcher.specs.Ready.{text_of, pattern_of}
use Rattle.search.specs.Verdict.{Request}
use Rattle.search.proofs.Rows.{row_1, row_2, row_3_none, row_3_many, row_4, row_17, row_5, row_6, row_7, no_row}
use Rattle.search.proofs.check.check.Goals as goal
use Rattle.search.proofs.check.check.Goals.{Start}

-- the request as far as a check looks at it
asked : Start → Request
asked c = let a = c.args in record { text = text_of a.text.now a.n; pattern = pattern_of a.pattern.now a.fixed.now a.m; method = a.method; mark = a.mark.0; budget = 0; list = []; scratch = a.scratch.now }

pub returns-then-n-gt1073741824 : goal.returns-then-n-gt1073741824
unfolding asked
returns-then-n-gt1073741824 c = row_1 (asked (goal.at.returns-then-n-gt1073741824 c).Start) c.if-n-gt1073741824.true

pub returns-then-text-bytes_for : goal.returns-then-text-bytes_for
unfolding asked
returns-then-text-bytes_for c =
    row_2 (asked (goal.at.returns-then-text-bytes_for c).Start) c.if-n-gt1073741824.false (rw c.bytes_for.ensures at c.if-text-bytes_for.true)

pub returns-then-m-eq0 : goal.returns-then-m-eq0
unfolding asked
returns-then-m-eq0 c = row_3_none (asked (goal.at.returns-then-m-eq0 c).Start) c.if-n-gt1073741824.false (rw c.bytes_for.ensures at c.if-text-bytes_for.false) c.if-m-eq0.true

pub returns-then-m-gt2048 : goal.returns-then-m-gt2048
unfolding asked
returns-then-m-gt2048 c =
    row_3_many (asked (goal.at.returns-then-m-gt2048 c).Start)
    c.if-n-gt1073741824.false (rw c.bytes_for.ensures at c.if-text-bytes_for.false) c.if-m-eq0.false c.if-m-gt2048.true

pub returns-then-pattern-bytes_for : goal.returns-then-pattern-bytes_for
unfolding asked
returns-then-pattern-bytes_for c =
    row_4 (asked (goal.at.returns-then-pattern-bytes_for c).Start)
    c.if-n-gt1073741824.false (rw c.bytes_for.ensures at c.if-text-bytes_for.false) c.if-m-eq0.false c.if-m-gt2048.false (rw c.bytes_for-2.ensures at c.if-pattern-bytes_for.true)

pub returns-then-fixed-bytes_for : goal.returns-then-fixed-bytes_for
unfolding asked
returns-then-fixed-bytes_for c =
    row_17 (asked (goal.at.returns-then-fixed-bytes_for c).Start) c.if-n-gt1073741824.false (rw c.bytes_for.ensures at c.if-text-bytes_for.false) c.if-m-eq0.false c.if-m-gt2048.false
    (rw c.bytes_for-2.ensures at c.if-pattern-bytes_for.false) (omega (arith, c.bytes_for-3.ensures, c.if-fixed-bytes_for.true))

pub returns-then-does_not_fit : goal.returns-then-does_not_fit
unfolding asked
returns-then-does_not_fit c =
    row_5 (asked (goal.at.returns-then-does_not_fit c).Start)
    c.if-n-gt1073741824.false (rw c.bytes_for.ensures at c.if-text-bytes_for.false) c.if-m-eq0.false c.if-m-gt2048.false (rw c.bytes_for-2.ensures at c.if-pattern-bytes_for.false) (rw c.bytes_for-3.ensures at c.if-fixed-bytes_for.false)
    (sym c.does_not_fit.ensures ∙ c.if-does_not_fit.true)

pub returns-then-places-mark : goal.returns-then-places-mark
unfolding asked
returns-then-places-mark c =
    row_6 (asked (goal.at.returns-then-places-mark c).Start)
    c.if-n-gt1073741824.false (rw c.bytes_for.ensures at c.if-text-bytes_for.false) c.if-m-eq0.false c.if-m-gt2048.false (rw c.bytes_for-2.ensures at c.if-pattern-bytes_for.false) (rw c.bytes_for-3.ensures at c.if-fixed-bytes_for.false)
    (sym c.does_not_fit.ensures ∙ c.if-does_not_fit.false)
    (omega (arith, c.places.ensures, c.if-places-mark.true, c.if-m-eq0.false))

pub returns-then-scratch-scratch_cells : goal.returns-then-scratch-scratch_cells
unfolding asked
returns-then-scratch-scratch_cells c =
    row_7 (asked (goal.at.returns-then-scratch-scratch_cells c).Start)
    c.if-n-gt1073741824.false (rw c.bytes_for.ensures at c.if-text-bytes_for.false) c.if-m-eq0.false c.if-m-gt2048.false (rw c.bytes_for-2.ensures at c.if-pattern-bytes_for.false) (rw c.bytes_for-3.ensures at c.if-fixed-bytes_for.false)
    (sym c.does_not_fit.ensures ∙ c.if-does_not_fit.false)
    (rw c.places.ensures at c.if-places-mark.false)
    (rw c.scratch_cells.ensures at c.if-scratch-scratch_cells.true)

pub returns : goal.returns
unfolding asked
returns c =
    no_row (asked (goal.at.returns c).Start)
    c.if-n-gt1073741824.false (rw c.bytes_for.ensures at c.if-text-bytes_for.false) c.if-m-eq0.false c.if-m-gt2048.false (rw c.bytes_for-2.ensures at c.if-pattern-bytes_for.false) (rw c.bytes_for-3.ensures at c.if-fixed-bytes_for.false)
    (sym c.does_not_fit.ensures ∙ c.if-does_not_fit.false)
    (rw c.places.ensures at c.if-places-mark.false)
    (rw c.scratch_cells.ensures at c.if-scratch-scratch_cells.false)
