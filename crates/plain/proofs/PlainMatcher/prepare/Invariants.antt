-- The plain method's `prepare` meets its contract. The loop's invariant: the cells before 16 k are made.
-- Assumes nothing.
use Rattle.matcher.specs.Asked.{lent}
use Rattle.plain.proofs.RowsMade.{Made}
use Rattle.plain.proofs.PlainMatcher.prepare.Given as goal

abbrev pub invariant-loop-k : goal.invariant-loop-k
invariant-loop-k l = Made (lent l.pattern) l.k l.prev l.prev_mask l.initial.cells l.cells
