use native.Mathlib.Omega.{arith}
use Rattle.wide.proofs.WideBytes.{entered_none, entered_more}
use Rattle.wide.proofs.enter.Goals as goal

pub loop-r-init : goal.loop-r-init
loop-r-init c = entered_none c.args.cells.now _ _ _ _ _

pub loop-r-preserved : goal.loop-r-preserved
loop-r-preserved c =
    let a = c.args in
    let l = c.loop-r in
    entered_more a.cells.now l.cells a.q l.r a.flags.zero a.flags.one a.new.zero a.new.one l.invariant (omega arith)
