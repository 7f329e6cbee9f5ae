-- `marking::report::put` meets its contract.
-- Assumes nothing.
use Prim.Native.Nat.{suc, ◌+◌}
use mathlib.Core.Path.{◌≡◌}
use native.Mathlib.Omega.{arith}
use native.Mathlib.Numerals.{add-one}
use lib.ListN.{length-set}
use Rattle.marking.proofs.report.put.Goals as goal

pub bounds-target-at-2 : goal.bounds-target-at-2
bounds-target-at-2 c = simp length-set (omega arith)

pub bounds-target-at-3 : goal.bounds-target-at-3
bounds-target-at-3 c = simp length-set (omega arith)

pub returns : goal.returns
returns c =
    let at = c.args.at in
    let two : at + 2 ≡ suc (suc at) = omega arith in
    rw (add-one at, two)
