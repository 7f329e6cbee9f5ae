-- `matcher::wild::pair_up` meets its contract. The loop's invariant: the words of the values passed are made.
-- Assumes nothing.
use Prim.Native.Nat.{◌+◌, ◌*◌, ◌^◌}
use Rattle.matcher.specs.Lined.{Only}
use Rattle.matcher.proofs.LinedCells.{PairsTo}
use Rattle.matcher.proofs.wild.pair_up.Given as goal

abbrev pub invariant-loop-x : goal.invariant-loop-x
invariant-loop-x l = Only l.to (l.to + 2 ^ l.k * 2 ^ l.k) l.initial.cells l.cells × PairsTo l.k l.from l.to l.initial.cells l.cells l.x
