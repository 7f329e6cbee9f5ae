-- `tail::compare_down` meets its contract. The loop's invariant: the lengths that fit are still left, and r is the longest one left.
-- Assumes nothing.
use Rattle.tail.specs.Lengths.{Top, Differs}
use Rattle.tail.proofs.TailLengths.{Going}
use Rattle.tail.proofs.compare_down.Given as goal

abbrev pub invariant-loop-j : goal.invariant-loop-j
invariant-loop-j l = Top l.left l.r × Differs l.ones l.care l.x l.r l.j × Going l.ones l.care l.x l.d l.left

abbrev pub decreases-loop-j : goal.decreases-loop-j
decreases-loop-j l = l.r
