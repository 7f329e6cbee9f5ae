-- `plain::ones` meets its contract.
-- Assumes nothing.
use Prim.Native.Nat.{◌*◌}
use native.Mathlib.Omega.{arith}
use Rattle.bits.proofs.Weight.{ones_shl}
use Rattle.plain.proofs.Shifts.{ones_all}
use Rattle.plain.proofs.ones.Goals as goal

pub returns-then-k-m : goal.returns-then-k-m
returns-then-k-m c = let a = c.args in ones_all (64 * a.k) a.m (omega arith)

pub returns : goal.returns
returns c = let a = c.args in ones_shl (64 * a.k) a.m (omega arith) (omega arith)
