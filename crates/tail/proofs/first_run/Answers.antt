-- `tail::first_run` meets its contract: the first bits are those before the first that differs or is wild.
-- Assumes nothing.
use native.Mathlib.Omega.{arith}
use Rattle.tail.proofs.TailLengths.{first_run_is}
use Rattle.tail.proofs.first_run.Goals as goal

pub returns : goal.returns
returns c = let a = c.args in first_run_is a.word a.flip a.care _ (omega arith) (omega arith) (omega arith) (omega (arith, c.min.ensures)) (omega (arith, c.min.ensures))
