-- `matcher::compare::front` meets its contract: ones for the first bits.
-- Assumes nothing.
use mathlib.Core.Path.{◌≡◌}
use Prim.Native.Nat.{◌+◌, ◌-◌, min}
use native.Mathlib.Omega.{arith}
use Rattle.bits.proofs.Weight.{ones_shl}
use Rattle.matcher.proofs.compare.front.Goals as goal

pub returns-then-m-lt57 : goal.returns-then-m-lt57
returns-then-m-lt57 c j l =
    let m = c.args.m in
    let all : min m 57 ≡ m = omega arith in
    let here : 0 + j ≡ j = omega arith in
    let there : 0 + 64 - m ≡ 64 - m = omega arith in
    rw all (rw (here, there) at (ones_shl 0 m (omega arith) (omega arith) j l))

pub returns-else-m-lt57 : goal.returns-else-m-lt57
returns-else-m-lt57 c j l =
    let all : min c.args.m 57 ≡ 57 = omega arith in
    let here : 0 + j ≡ j = omega arith in
    rw all (rw here at (ones_shl 0 57 (omega arith) (omega arith) j l))
