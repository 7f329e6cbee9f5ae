use mathlib.Core.Path.{sym, ◌∙◌}
use native.Mathlib.Omega.{arith}
use Rattle.set_tables.proofs.Entering.{half_keep, half_set}
use Rattle.set_tables.proofs.tables.enter_half.Goals as goal
use Rattle.set_tables.proofs.tables.enter_half.Goals.{then-same_where, else-same_where}

pub loop-x-preserved : goal.loop-x-preserved
loop-x-preserved c =
    let a = c.args in
    let l = c.loop-x in
    elim c.if-same_where.branch [
      | then-same_where w ↦ rw w.cells-is (half_set a.at a.value a.care a.flag a.cells.now l.x l.cells l.invariant (omega arith) (omega arith) (sym c.same_where.ensures ∙ w.if-same_where.true))
      | else-same_where w ↦ rw w.cells-is (half_keep a.at a.value a.care a.flag a.cells.now l.x l.cells l.invariant (sym c.same_where.ensures ∙ w.if-same_where.false))
    ]
