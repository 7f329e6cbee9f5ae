-- `plain::first_row` meets its contract. The loop's invariant: the rows passed are ruled out.
-- Assumes nothing.
use Rattle.plain.specs.RowCells.{first_fits, NonePass}
use Rattle.plain.proofs.first_row.Given as goal

abbrev pub invariant-loop-i : goal.invariant-loop-i
invariant-loop-i l = NonePass (first_fits l.bytes l.cells) l.from l.i
