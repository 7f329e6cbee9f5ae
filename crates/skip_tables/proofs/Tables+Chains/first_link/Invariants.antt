-- `skip_tables::Tables::first_link` meets its contract. The loop's invariant: the walk along the chain has not left out an index below the
-- bound.
-- Assumes nothing.
use Rattle.matcher.specs.Tables.{chained, in_chain}
use Rattle.matcher.specs.Asked.{lent}
use Rattle.skip_tables.proofs.SkipChain.{Headed}
use Rattle.skip_tables.proofs.Tables+Chains.first_link.Given as goal

abbrev pub invariant-loop-j : goal.invariant-loop-j
invariant-loop-j l = Headed (in_chain (lent l.self.pattern.now) l.v) (chained l.self.pattern.now.m) l.k l.j

abbrev pub decreases-loop-j : goal.decreases-loop-j
decreases-loop-j l = l.j
