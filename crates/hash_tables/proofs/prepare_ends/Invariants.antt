-- `hash_tables::prepare_ends` meets its contract. The loop's invariant: the cells of k − 1 bits are made.
-- Assumes nothing.
use Rattle.matcher.specs.Asked.{lent}
use Rattle.hash_tables.proofs.HashTables.{Ends}
use Rattle.hash_tables.proofs.prepare_ends.Given as goal

abbrev pub invariant-loop-k : goal.invariant-loop-k
invariant-loop-k l = Ends (lent l.pattern) l.initial.cells l.cells l.size l.k
