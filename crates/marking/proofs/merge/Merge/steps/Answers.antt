use Prim.Native.Nat.{◌+◌, ◌-◌}
use native.Mathlib.Omega.{arith}
use mir.Val.{bool_byte}
use lib.Dec.{ltb}
use lib.ListN.{length, get_or}
use Rattle.marking.proofs.Merging.{step_stays, step_counted, goes}
use Rattle.marking.proofs.merge.Merge.steps.Goals as goal

pub loop-step-preserved : goal.loop-step-preserved
loop-step-preserved c =
    let self = c.args.self.now in
    let key = self.key.list.now in
    let sheet = self.sheet.list.now in
    let l = c.loop-step in
    let g = goes l.step self.count l.x (length key) l.y (length sheet) c.loop-step-test.true in
    let p = get_or key l.x 0 in
    let q = get_or sheet l.y 0 in
    let stays = step_stays p q in
    let x = l.x + 1 - bool_byte (ltb q p) in
    let y = l.y + 1 - bool_byte (ltb p q) in
    let counted = step_counted key sheet l.x l.y g.in_key g.in_sheet self.key.rises self.sheet.rises x y (omega arith) (omega arith) in
    (omega arith, omega arith, omega arith, omega arith, omega arith, omega arith, omega arith, omega arith)
