-- `set_tables::tables::row` meets its contract. The loop's invariant: the cells below x are made.
-- Assumes nothing.
use Rattle.set_tables.proofs.Entering.{RowTo}
use Rattle.set_tables.proofs.tables.row.Given as goal

abbrev pub invariant-loop-x : goal.invariant-loop-x
invariant-loop-x l = RowTo l.from l.at l.first l.x l.halves l.initial.cells l.cells
