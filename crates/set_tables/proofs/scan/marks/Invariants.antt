-- `set_tables::scan::marks` meets its contract. The loop's invariant: the places from e on have their bits.
-- Assumes nothing.
use Rattle.set_tables.proofs.Scanning.{MarkedFrom}
use Rattle.set_tables.proofs.scan.marks.Given as goal

abbrev pub invariant-loop-e : goal.invariant-loop-e
invariant-loop-e l = MarkedFrom l.found l.e l.m
