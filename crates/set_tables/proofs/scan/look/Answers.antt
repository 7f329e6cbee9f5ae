use native.Mathlib.Omega.{arith}
use Rattle.set_tables.proofs.Scanning.{looked_more}
use Rattle.set_tables.proofs.scan.look.Goals as goal

pub loop-i-preserved : goal.loop-i-preserved
loop-i-preserved c =
    let a = c.args in
    let l = c.loop-i in
    looked_more a.tables.now a.word a.found.now l.i l.found _ l.any _ (omega arith) l.invariant c.four-any.ensures
