use mathlib.Core.Path.{sym, ◌∙◌}
use native.Mathlib.Omega.{arith}
use borrow.Author.Tests.{eqb-true, eq-eqb}
use Rattle.plain.proofs.Between.{between_more}
use Rattle.plain.proofs.RowCells.{refused, cell_byte, cell_read}
use Rattle.plain.proofs.row_fits.Goals as goal

pub returns-then-word_at_byte-cells-clause-agrees : goal.returns-then-word_at_byte-cells-clause-agrees
returns-then-word_at_byte-cells-clause-agrees c =
    let a = c.args in
    let l = c.loop-k in
    refused (λ f. c.if-word_at_byte-cells.true
    (eqb-true _ _
    (cell_read a.text.now a.cells.now a.s.0 l.k _ _ _ (cell_byte a.s.0 l.k c.byte.ensures c.byte-in-loop-k.ensures)
    c.offset-row.ensures c.word_at_byte.ensures
    ∙ f l.k (omega arith) (omega arith))))

pub loop-k-preserved : goal.loop-k-preserved
loop-k-preserved c =
    let a = c.args in
    let l = c.loop-k in
    between_more _ _ _ l.invariant
    (sym (cell_read a.text.now a.cells.now a.s.0 l.k _ _ _ (cell_byte a.s.0 l.k c.byte.ensures c.byte-in-loop-k.ensures)
    c.offset-row.ensures c.word_at_byte.ensures)
    ∙ eq-eqb _ _ c.if-word_at_byte-cells.false)
