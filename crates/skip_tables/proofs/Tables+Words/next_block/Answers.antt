use Rattle.std.proofs.Common.{◌+◌, ◌*◌, ◌≤◌, refl, arith}
use Rattle.matcher.specs.Asked.{lent}
use Rattle.skip_tables.proofs.SkipWords.{flagging_more, flagging_end}
use Rattle.skip_tables.proofs.Tables+Words.next_block.Goals as goal
use Rattle.skip_tables.proofs.Tables+Words.next_block.Goals.{In-loop-number}

-- the next block lies inside the pattern
module _ (c : In-loop-number) where
  inside : 57 * (c.loop-number.number + 1) + 8 ≤ c.args.self.now.pattern.now.m
  inside = omega (arith, c.loop-number-test.true)

pub loop-number-init : goal.loop-number-init
loop-number-init c = (omega arith, omega arith, λ k u. rw c.if-block-ne0.false at u)

pub overflow_mul-number : goal.overflow_mul-number
overflow_mul-number c = omega (arith, c.loop-number.invariant.0)

pub overflow_add-number : goal.overflow_add-number
overflow_add-number c = omega (arith, c.loop-number.invariant.0)

pub returns-then-left-ne0 : goal.returns-then-left-ne0
returns-then-left-ne0 c =
    let a = c.args in
    let l = c.loop-number in
    let fits = inside (goal.at.returns-then-left-ne0 c).In-loop-number in (
      omega (arith, l.invariant.1),
      λ e. absurd (omega (arith, l.invariant.1)),
      c.if-left-ne0.true,
      λ k u. flagging_more (lent a.self.now.pattern.now) a.v k l.number 0 (l.invariant.2 k u) refl _ fits c.flags-left.ensures,
    )

pub loop-number-preserved : goal.loop-number-preserved
loop-number-preserved c =
    let a = c.args in
    let l = c.loop-number in
    let fits = inside (goal.at.loop-number-preserved c).In-loop-number in (
      fits,
      omega (arith, l.invariant.1),
      λ k u. rw c.if-left-ne0.false at (flagging_more (lent a.self.now.pattern.now) a.v k l.number 0 (l.invariant.2 k u) refl _ fits c.flags-left.ensures),
    )

pub returns : goal.returns
returns c =
    let a = c.args in
    let l = c.loop-number in
    λ k u few. flagging_end (lent a.self.now.pattern.now) a.v k l.number 0 (l.invariant.2 k u) refl (omega (arith, c.loop-number-test.false)) few
