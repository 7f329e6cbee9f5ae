-- `plain::fill` meets its contract. The loop's invariant: the rows below i are filled.
-- Assumes nothing.
use Rattle.plain.specs.RowCells.{Filled}
use Rattle.plain.proofs.fill.Given as goal

abbrev pub invariant-loop-i : goal.invariant-loop-i
invariant-loop-i l = Filled l.k l.i l.prev l.x l.prev_mask l.mask l.initial.cells l.cells
