-- `search::scratch_cells::scratch_cells` meets its contract: at each `return` the tests that led there say which row of the
-- refusals holds, or that none does.
-- Assumes nothing.
use mathlib.Core.Path.{sym, ◌∙◌}
use borrow.Author.Tests.{le-ltb, eq-eqb, ne_eqb}
use native.Mathlib.Omega.{arith}
use Rattle.search.specs.Verdict.{judge, scratch_verdict}
use Rattle.search.proofs.scratch_cells.scratch_cells.Goals as goal

pub returns-then-m-eq0 : goal.returns-then-m-eq0
unfolding scratch_verdict judge
returns-then-m-eq0 c = simp (eq-eqb _ _ c.if-m-eq0.true)

pub returns-then-does_not_fit : goal.returns-then-does_not_fit
unfolding scratch_verdict judge
returns-then-does_not_fit c =
    let unfit = sym c.does_not_fit.ensures ∙ c.if-does_not_fit.true in
    simp (ne_eqb _ _ c.if-m-eq0.false, le-ltb 2048 c.args.m (omega arith), unfit)

pub returns : goal.returns
unfolding scratch_verdict judge
returns c =
    let fit = sym c.does_not_fit.ensures ∙ c.if-does_not_fit.false in
    simp
    (ne_eqb _ _ c.if-m-eq0.false, le-ltb 2048 c.args.m (omega arith), fit, c.scratch_cells.ensures)
