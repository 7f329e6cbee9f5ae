use Rattle.std.proofs.Common.{rules}
use Rattle.hits.proofs.Running.{after_read}
use Rattle.hits.proofs.read_front.Goals as goal

pub loop-at-preserved : goal.loop-at-preserved
loop-at-preserved g c = (search rules, after_read _ _ _ _ _ _ _ _ c.loop-at.invariant.0 c.in_ok-n.ensures.bound.0 c.loop-at.invariant.1 c.in_ok-n.ensures.bytes.0)
