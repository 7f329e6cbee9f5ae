-- `skip_tables::indices` meets its contract: the byte of the mark 1, as a bit number.
-- Assumes nothing.
use native.Mathlib.Omega.{arith}
use Rattle.skip_tables.proofs.SkipChain.{chained_is}
use Rattle.skip_tables.proofs.indices.Goals as goal

pub returns : goal.returns
returns c = omega (arith, chained_is c.args.m)
