-- `set::check::long_flag` meets its contract.
-- Assumes nothing.
use borrow.Author.Tests.{lt-ltb, le-ltb}
use mathlib.Core.Path.{◌≡◌, ◌∙◌}
use Prim.Native.Nat.{◌*◌, ◌%◌, ◌^◌}
use native.Mathlib.Omega.{arith}
use lib.Pow.{shl_exact}
use Rattle.set.proofs.check.long_flag.Goals as goal

pub returns-then-m-gt32 : goal.returns-then-m-gt32
returns-then-m-gt32 c =
    let a = c.args in
    let one : (1 * 2 ^ a.i) % 2 ^ 64 ≡ 2 ^ a.i = shl_exact {a = 1} 1 a.i 64 (omega arith) (omega arith) ∙ omega arith in
    rw (lt-ltb 32 a.m c.if-m-gt32.true) one

pub returns-else-m-gt32 : goal.returns-else-m-gt32
returns-else-m-gt32 c = rw (le-ltb 32 c.args.m c.if-m-gt32.false)
