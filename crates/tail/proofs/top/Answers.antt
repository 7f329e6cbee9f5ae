-- `tail::top` meets its contract: the highest bit of d or 1.
-- Assumes nothing.
use native.Mathlib.Omega.{arith}
use Rattle.tail.proofs.TailLengths.{few_leading, top_is}
use Rattle.tail.proofs.top.Goals as goal

pub overflow_sub-result : goal.overflow_sub-result
overflow_sub-result c = let h = few_leading c.args.d (omega arith) in omega arith

pub returns : goal.returns
returns c = top_is c.args.d (omega arith)
