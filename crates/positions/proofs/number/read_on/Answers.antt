use Prim.Native.Nat.{ℕ, ◌+◌, ◌-◌, ◌*◌, ◌^◌, ◌≤◌, ◌<◌}
use mathlib.Core.Path.{◌≡◌, sym, ap, ◌∙◌}
use native.Mathlib.Omega.{arith}
use Rattle.positions.specs.Decode.{read_groups, last_group}
use Rattle.positions.proofs.ReadGroups.{last_zero, last_ok, last_large, fewest_last, groups_end, groups_last, groups_more, weight_next, weight_le, group_lt}
use Rattle.positions.proofs.number.read_on.Goals as goal
use Rattle.positions.proofs.number.read_on.Goals.{Else-b-lt128, Then-b-lt128}

pub returns-in_default : goal.returns-in_default
returns-in_default c =
    let l = c.loop in
    sym (groups_end (4 - l.counter) l.weight l.value _ (omega arith) c.in_default.ensures.cases) ∙ l.invariant.0

-- the last group is read
last-read : (c : Then-b-lt128) →
    let l = c.loop in
    let b = c.in-Some.field-0-0.now in
    last_group l.weight b (l.value + b * l.weight) c.in-Some.after.now ≡ read_groups 4 128 c.args.low c.args.file.now
last-read c =
    let l = c.loop in
    let left = 4 - l.counter in
    sym (ap (read_groups left l.weight l.value) c.in-Some.ensures.cases.0 ∙ groups_last left l.weight l.value _ _ (omega arith) c.if-b-lt128.true)
    ∙ l.invariant.0

pub returns-then-b-eq0 : goal.returns-then-b-eq0
returns-then-b-eq0 c =
    let l = c.loop in
    sym (last_zero l.weight _ _ _ l.invariant.1 c.if-b-eq0.true) ∙ last-read (goal.at.returns-then-b-eq0 c).Then-b-lt128

pub overflow_mul-whole : goal.overflow_mul-whole
overflow_mul-whole c =
    let l = c.loop in
    omega (arith, group_lt l.value l.weight _ l.invariant.2 c.if-b-lt128.true, weight_le l.weight (4 - l.counter) (omega arith) l.invariant.3)

pub overflow_add-whole : goal.overflow_add-whole
overflow_add-whole c =
    let l = c.loop in
    omega (arith, group_lt l.value l.weight _ l.invariant.2 c.if-b-lt128.true, weight_le l.weight (4 - l.counter) (omega arith) l.invariant.3)

pub returns-then-whole-gt-LARGEST : goal.returns-then-whole-gt-LARGEST
returns-then-whole-gt-LARGEST c =
    let l = c.loop in
    sym (last_large l.weight _ _ _ (fewest_last l.weight _ c.if-b-eq0.false) c.if-whole-gt-LARGEST.true) ∙ last-read (goal.at.returns-then-whole-gt-LARGEST c).Then-b-lt128

pub returns-then-b-lt128 : goal.returns-then-b-lt128
returns-then-b-lt128 c =
    let l = c.loop in
    sym (last_ok l.weight _ _ _ (fewest_last l.weight _ c.if-b-eq0.false) c.if-whole-gt-LARGEST.false) ∙ last-read (goal.at.returns-then-b-lt128 c).Then-b-lt128

-- another group follows: what it adds to the groups below it and the next weight are in range
more_lt : (c : Else-b-lt128) →
    let l = c.loop in
    let b = c.in-Some.field-0-0.now in
    (l.value + (b - 128) * l.weight < l.weight * 128) × (l.weight * 128 ≤ 2 ^ 35)
more_lt c =
    let l = c.loop in (
      group_lt l.value l.weight _ l.invariant.2 (omega arith),
      weight_le l.weight (4 - l.counter) (omega arith) l.invariant.3,
    )

pub overflow_mul-value : goal.overflow_mul-value
overflow_mul-value c = omega (arith, more_lt c)

pub overflow_add-value : goal.overflow_add-value
overflow_add-value c = omega (arith, more_lt c)

pub overflow_mul-weight : goal.overflow_mul-weight
overflow_mul-weight c = omega (arith, more_lt c)

pub loop-preserved : goal.loop-preserved
loop-preserved c =
    let l = c.loop in
    let left = 4 - l.counter in
    let next : 4 - (l.counter + 1) ≡ left - 1 = omega arith in (
      rw next (sym (ap (read_groups left l.weight l.value) c.in-Some.ensures.cases.0 ∙ groups_more left l.weight l.value _ _ (omega arith) c.if-b-lt128.false) ∙ l.invariant.0),
      omega arith,
      (more_lt c).0,
      rw next (weight_next l.weight left (omega arith) l.invariant.3),
    )

pub returns : goal.returns
unfolding read_groups
returns c =
    let l = c.loop in
    let none : 4 - l.counter ≡ 0 = omega arith in
    sym (ap (λ (k : ℕ). read_groups k l.weight l.value l.rest.now) none) ∙ l.invariant.0
