use mathlib.Core.Path.{sym, ap, ◌∙◌}
use native.Mathlib.Omega.{arith}
use Rattle.positions.specs.Rising.{rising}
use Rattle.marking.specs.Sitting.{all_rise}
use Rattle.marking.proofs.Counting.{sum_here, rise_here, sheets_end}
use Rattle.marking.proofs.judge.all_rise.Goals as goal

pub split_at-requires : goal.split_at-requires
split_at-requires c = omega (arith, sum_here c.args.counts.now c.loop-count.count-index c.loop-count-test.true)

pub returns-then-not-rises : goal.returns-then-not-rises
returns-then-not-rises c =
    let l = c.loop-count in
    let here = rise_here c.args.counts.now l.count-index c.loop-count-test.true l.rest.now in
    let falls = ap rising (sym c.split_at.ensures.front) ∙ sym c.rises.ensures ∙ c.if-not-rises.true in
    sym (rw falls at here) ∙ l.invariant.0

pub loop-count-preserved : goal.loop-count-preserved
loop-count-preserved c =
    let counts = c.args.counts.now in
    let l = c.loop-count in
    let inside = c.loop-count-test.true in
    let here = rise_here counts l.count-index inside l.rest.now in
    let rises = ap rising (sym c.split_at.ensures.front) ∙ sym c.rises.ensures ∙ c.if-not-rises.false in
    (rw c.split_at.ensures.back (sym (rw rises at here) ∙ l.invariant.0), omega (arith, sum_here counts l.count-index inside, c.split_at.ensures.back_len))

pub returns : goal.returns
unfolding all_rise
returns c =
    let l = c.loop-count in
    sym (ap all_rise (sheets_end c.args.counts.now l.count-index c.loop-count-test.false l.rest.now)) ∙ l.invariant.0
