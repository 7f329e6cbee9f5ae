use native.Mathlib.Omega.{arith}
use Rattle.set.proofs.Listing.{measured_none, measured_more, measured_all}
use Rattle.set.proofs.check.sure.Goals as goal

pub loop-i-init : goal.loop-i-init
loop-i-init c = measured_none c.args.counts.now

pub long_flag-long-requires : goal.long_flag-long-requires
long_flag-long-requires c = omega arith

pub loop-i-preserved : goal.loop-i-preserved
loop-i-preserved c =
    let a = c.args in
    let l = c.loop-i in
    rw (c.max-longest.ensures, c.long_flag-long.ensures)
    (measured_more a.counts.now l.longest l.long l.i l.invariant (omega arith))

pub overflow_cast-result : goal.overflow_cast-result
overflow_cast-result c = omega (arith, c.saturating_sub.ensures)

pub returns : goal.returns
returns c =
    let a = c.args in
    let l = c.loop-i in
    rw c.saturating_sub.ensures (measured_all a.counts.now a.n l.longest l.long l.i l.invariant (omega arith))
