-- The tail method's `step` meets its contract: one step is asked for, and the mark is a place.
-- Assumes nothing.
use mathlib.Core.Path.{refl}
use Rattle.tail.proofs.TailMatcher.step.Goals as goal

pub returns : goal.returns
returns c = c.scan.ensures.one_step refl c.requires
