use native.Mathlib.Omega.{arith}
use Rattle.tail.proofs.TailLengths.{going_first, going_less, less, settled}
use Rattle.tail.proofs.compare_down.Goals as goal

pub top-r-requires : goal.top-r-requires
top-r-requires c = tt

pub first_difference-j-requires : goal.first_difference-j-requires
first_difference-j-requires c = c.top-r.ensures.few

pub loop-j-init : goal.loop-j-init
loop-j-init c = let a = c.args in (c.top-r.ensures, c.first_difference-j.ensures, going_first a.ones a.care a.x a.d)

pub overflow_sub-left : goal.overflow_sub-left
overflow_sub-left c = omega (arith, c.loop-j.invariant.0.few)

pub overflow_cast-left : goal.overflow_cast-left
overflow_cast-left c = omega arith

pub overflow_shr-left : goal.overflow_shr-left
overflow_shr-left c = omega arith

pub top-r-requires-in-loop-j : goal.top-r-requires-in-loop-j
top-r-requires-in-loop-j c = tt

pub first_difference-j-requires-in-loop-j : goal.first_difference-j-requires-in-loop-j
first_difference-j-requires-in-loop-j c = c.top-r-in-loop-j.ensures.few

pub loop-j-smaller : goal.loop-j-smaller
loop-j-smaller c =
    let l = c.loop-j in
    let a = c.args in
    less a.ones a.care a.x a.d l.left l.r l.j l.invariant.0 l.invariant.1 l.invariant.2 _ (omega arith) c.top-r-in-loop-j.ensures

pub loop-j-preserved : goal.loop-j-preserved
loop-j-preserved c =
    let l = c.loop-j in
    let a = c.args in
    (c.top-r-in-loop-j.ensures, c.first_difference-j-in-loop-j.ensures, going_less a.ones a.care a.x a.d l.left l.r l.j l.invariant.0 l.invariant.1 l.invariant.2 (omega arith))

pub returns : goal.returns
returns c =
    let l = c.loop-j in
    let a = c.args in
    settled a.ones a.care a.x a.d l.left l.r l.j l.invariant.0 l.invariant.1 l.invariant.2 c.loop-j-test.false
