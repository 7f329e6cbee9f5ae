-- `hash_tables::value::hash_by_first_bits` meets its contract. The loop's invariant: no move at which k bits or more are asked
-- meets the condition.
-- Assumes nothing.
use Prim.Native.Nat.{◌-◌}
use Rattle.matcher.specs.Asked.{lent}
use Rattle.hash_tables.proofs.HashValues.{NoneBelow}
use Rattle.hash_tables.proofs.value.hash_by_first_bits.Given as goal

abbrev pub invariant-loop-k : goal.invariant-loop-k
invariant-loop-k l = NoneBelow (lent l.pattern) l.value (l.pattern.m - (l.k - 1))
