-- `set_tables::tables::pair_up` meets its contract. The loop's invariant: the rows below z are made.
-- Assumes nothing.
use Rattle.set_tables.proofs.Entering.{RowsTo}
use Rattle.set_tables.proofs.tables.pair_up.Given as goal

abbrev pub invariant-loop-z : goal.invariant-loop-z
invariant-loop-z l = RowsTo l.halves l.cells l.z
