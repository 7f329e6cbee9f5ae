-- `tail::four` meets its contract.
-- Assumes nothing.
use native.Mathlib.Omega.{arith}
use Rattle.tail.proofs.TailLengths.{first_four}
use Rattle.tail.proofs.four.Goals as goal

pub returns : goal.returns
returns c = let a = c.args in first_four a.care a.later _ (omega arith) (omega arith) c.min.ensures
