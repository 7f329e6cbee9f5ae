-- `tail::first_difference` meets its contract.
-- Assumes nothing.
use native.Mathlib.Omega.{arith}
use Rattle.tail.proofs.TailLengths.{differs_is}
use Rattle.tail.proofs.first_difference.Goals as goal

pub returns : goal.returns
returns c = let a = c.args in differs_is a.ones a.care a.x a.r (omega arith) c.requires
