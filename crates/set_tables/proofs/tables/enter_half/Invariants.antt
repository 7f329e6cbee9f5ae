-- `set_tables::tables::enter_half` meets its contract. The loop's invariant: the values below x are passed.
-- Assumes nothing.
use Rattle.set_tables.proofs.Entering.{HalfTo}
use Rattle.set_tables.proofs.tables.enter_half.Given as goal

abbrev pub invariant-loop-x : goal.invariant-loop-x
invariant-loop-x l = HalfTo l.at l.value l.care l.flag l.x l.initial.cells l.cells
