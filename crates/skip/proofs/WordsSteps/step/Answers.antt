-- The step by words meets its contract: the flags of the byte's indices are swept.
-- Assumes nothing.
use Rattle.std.proofs.Common.{arith}
use Rattle.skip_tables.proofs.SkipChain.{chained_fits}
use Rattle.skip.proofs.SkipPlaces.{chained_near}
use Rattle.skip.proofs.SkipSizes.{long_enough}
use Rattle.skip.proofs.WordsSteps.step.Goals as goal

pub first_block-requires : goal.first_block-requires
first_block-requires c =
    let m = c.args.by.now.search.now.query.pattern.m in
    let long = long_enough _ _ _ c.args.by.now.search.now.ready in
    (omega (arith, c.indices.ensures, chained_fits m long), omega (arith, c.indices.ensures, chained_near m long))

pub sweep-requires : goal.sweep-requires
sweep-requires c = record { m_bound = c.requires; flagging = rw c.indices.ensures at c.first_block.ensures }
