use Prim.Native.Nat.{◌+◌, ◌-◌}
use mathlib.Core.Path.{sym, ◌∙◌}
use native.Mathlib.Omega.{arith}
use lib.ListN.{get_or, drop}
use borrow.Author.Tests.{ne_eqb}
use Rattle.marking.specs.Sitting.{sum}
use Rattle.marking.proofs.Counting.{sum_here, sum_end, same_test}
use Rattle.marking.proofs.judge.add_up.Goals as goal

pub returns-then-left-count : goal.returns-then-left-count
returns-then-left-count c =
    let counts = c.args.counts.now in
    let l = c.loop-count in
    sym (ne_eqb (sum (drop l.count-index counts)) l.left (λ e. omega (arith, sum_here counts l.count-index c.loop-count-test.true))) ∙ l.invariant

pub loop-count-preserved : goal.loop-count-preserved
loop-count-preserved c =
    let counts = c.args.counts.now in
    let l = c.loop-count in
    let here = sum_here counts l.count-index c.loop-count-test.true in
    let left = l.left - get_or counts l.count-index 0 in
    same_test (sum (drop (l.count-index + 1) counts)) left (sum (drop l.count-index counts)) l.left (λ e. omega arith) (λ e. omega arith) ∙ l.invariant

pub returns : goal.returns
returns c =
    let counts = c.args.counts.now in
    let l = c.loop-count in
    let none = sum_end counts l.count-index c.loop-count-test.false in
    same_test l.left 0 (sum (drop l.count-index counts)) l.left (λ e. omega arith) (λ e. omega arith) ∙ l.invariant
