-- `hash_tables::settle` meets its contract. The loop's invariant: the rows below `high` have the moves up to d + 57.
-- Assumes nothing.
use Rattle.hash_tables.proofs.HashRows.{Rows}
use Rattle.hash_tables.proofs.settle.Given as goal

abbrev pub invariant-loop-high : goal.invariant-loop-high
invariant-loop-high l = Rows l.d l.initial.cells l.cells l.high l.unset
