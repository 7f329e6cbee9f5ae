-- `Masks::lengths_left` meets its contract: a length that fits is left by each of the eight bits and by the first run.
-- Assumes nothing.
use native.Mathlib.Omega.{arith}
use Rattle.tail.proofs.TailMasks.{end_some, keeps_left}
use Rattle.tail.proofs.Masks.lengths_left.Goals as goal

pub overflow_sub-result : goal.overflow_sub-result
overflow_sub-result c = let a = c.args in omega (arith, end_some a.x a.self.now.flip)

pub returns : goal.returns
returns c =
    let a = c.args in
    rw (c.left.ensures, c.left-2.ensures) (keeps_left a.self.now c.requires.0 c.requires.1 a.x)
