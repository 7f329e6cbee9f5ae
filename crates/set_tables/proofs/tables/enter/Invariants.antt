-- `set_tables::tables::enter` meets its contract. The loop's invariant: the groups of four bits below g are passed.
-- Assumes nothing.
use Rattle.set_tables.proofs.Entering.{EnteredTo}
use Rattle.set_tables.proofs.tables.enter.Given as goal

abbrev pub invariant-loop-g : goal.invariant-loop-g
invariant-loop-g l = EnteredTo l.value l.care l.flag l.g l.initial.cells l.cells
