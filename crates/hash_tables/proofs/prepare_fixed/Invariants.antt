-- `hash_tables::prepare_fixed` meets its contract. The loop's invariant: the moves above d are entered.
-- Assumes nothing.
use Prim.Native.Nat.{◌+◌, ◌≤◌}
use Rattle.hash_tables.specs.HashMoves.{Entered}
use Rattle.matcher.specs.Asked.{lent}
use Rattle.hash_tables.proofs.prepare_fixed.Given as goal

abbrev pub invariant-loop-d : goal.invariant-loop-d
invariant-loop-d l = (l.d + 8 ≤ l.pattern.m) × Entered (lent l.pattern) l.initial.cells l.cells l.d

abbrev pub decreases-loop-d : goal.decreases-loop-d
decreases-loop-d l = l.d
