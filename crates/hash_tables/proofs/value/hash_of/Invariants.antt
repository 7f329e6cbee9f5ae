-- `hash_tables::value::hash_of` meets its contract. The loop's invariant: no move below d meets the condition.
-- Assumes nothing.
use Rattle.matcher.specs.Asked.{lent}
use Rattle.hash_tables.proofs.HashValues.{NoneBelow}
use Rattle.hash_tables.proofs.value.hash_of.Given as goal

abbrev pub invariant-loop-d : goal.invariant-loop-d
invariant-loop-d l = NoneBelow (lent l.pattern) l.value l.d
