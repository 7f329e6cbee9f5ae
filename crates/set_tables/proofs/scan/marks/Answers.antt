use lib.ListN.{get_or}
use Prim.Native.Nat.{◌-◌}
use Rattle.set_tables.proofs.Scanning.{some_flag, marked_more}
use Rattle.set_tables.proofs.scan.marks.Goals as goal

pub loop-e-preserved : goal.loop-e-preserved
loop-e-preserved c =
    let l = c.loop-e in
    let bit = some_flag (get_or c.args.found.now (l.e - 1) 0) in
    rw c.from.ensures (marked_more c.args.found.now l.e l.m _ c.loop-e-test.true bit.0 bit.1 l.invariant)
