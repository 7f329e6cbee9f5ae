-- `skip_tables::prepare_chains` meets its contract. The loop's invariant: the indices of the loads before this one are entered.
-- Assumes nothing.
use Rattle.std.proofs.Common.{◌*◌, min}
use Rattle.matcher.specs.Asked.{lent}
use Rattle.skip_tables.specs.SkipChains.{Filled}
use Rattle.skip_tables.proofs.prepare_chains.Given as goal

abbrev pub invariant-loop-load : goal.invariant-loop-load
invariant-loop-load l = Filled (lent l.pattern) l.initial.cells (min (56 * l.load) l.count) l.cells
