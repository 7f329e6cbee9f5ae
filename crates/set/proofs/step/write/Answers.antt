use mathlib.Core.Path.{refl}
use native.Mathlib.Omega.{arith}
use Rattle.set_rules.specs.Hits.{cells_of}
use Rattle.set.proofs.Standing.{pair_more}
use Rattle.set.proofs.step.write.Goals as goal

pub loop-j-init : goal.loop-j-init
unfolding cells_of
loop-j-init c = refl

pub loop-j-preserved : goal.loop-j-preserved
loop-j-preserved c =
    let a = c.args in
    let l = c.loop-j in
    pair_more a.list.now a.p.0 a.numbers.now l.list l.j (omega arith) l.invariant
