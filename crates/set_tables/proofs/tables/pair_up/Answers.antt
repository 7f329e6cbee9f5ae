use native.Mathlib.Omega.{arith}
use Rattle.set_tables.proofs.Entering.{rows_more, rows_all}
use Rattle.set_tables.proofs.tables.pair_up.Goals as goal

pub loop-z-preserved : goal.loop-z-preserved
loop-z-preserved c =
    let l = c.loop-z in
    rows_more c.args.halves.now l.cells _ l.z l.invariant c.row.ensures

pub returns : goal.returns
returns c =
    let l = c.loop-z in
    (rows_all c.args.halves.now l.cells l.z (omega arith) l.invariant, l.auto.cells)
