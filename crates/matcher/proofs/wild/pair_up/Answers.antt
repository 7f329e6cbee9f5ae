use mathlib.Core.Path.{◌≡◌, ◌∙◌}
use Prim.Native.Nat.{◌+◌, ◌-◌, ◌*◌, ◌/◌, ◌^◌, ◌<◌}
use native.Mathlib.Omega.{arith}
use lib.Bits.{bit_and}
use lib.Pow.{pow-add}
use Rattle.matcher.proofs.LinedCells.{last_lt, first_lt, pairs_more, only_none, only_set}
use Rattle.matcher.proofs.wild.pair_up.Goals as goal
use Rattle.matcher.proofs.wild.pair_up.Goals.{In-loop-x}

-- the halves of x number words of k bits
last_small : (c : In-loop-x) → bit_and c.loop-x.x (c.args.size - 1) < c.args.size
last_small c =
    let a = c.args in
    last_lt a.k a.from a.to a.size c.loop-x.x a.cells.now c.loop-x.cells c.requires.1 c.loop-x-test.true

first_small : (c : In-loop-x) → c.loop-x.x / 2 ^ c.args.k < c.args.size
first_small c =
    let a = c.args in
    first_lt a.k a.from a.to a.size c.loop-x.x a.cells.now c.loop-x.cells c.requires.1 c.loop-x-test.true

pub loop-x-init : goal.loop-x-init
loop-x-init c = (only_none, λ w d words y l. absurd (omega arith))

pub overflow_sub-cells : goal.overflow_sub-cells
overflow_sub-cells c = omega (arith, last_small c)

pub overflow_add-cells : goal.overflow_add-cells
overflow_add-cells c = omega (arith, last_small c)

pub offset_bounds-cells-from : goal.offset_bounds-cells-from
offset_bounds-cells-from c = omega (arith, last_small c)

pub bounds-cells-from : goal.bounds-cells-from
bounds-cells-from c = omega (arith, last_small (goal.at.bounds-cells-from c).In-loop-x, c.loop-x.invariant.0.size)

pub overflow_add-cells-in-loop-x : goal.overflow_add-cells-in-loop-x
overflow_add-cells-in-loop-x c = omega (arith, first_small (goal.at.overflow_add-cells-in-loop-x c).In-loop-x)

pub offset_bounds-cells-from-in-loop-x : goal.offset_bounds-cells-from-in-loop-x
offset_bounds-cells-from-in-loop-x c = omega (arith, first_small (goal.at.offset_bounds-cells-from-in-loop-x c).In-loop-x)

pub bounds-cells-from-in-loop-x : goal.bounds-cells-from-in-loop-x
bounds-cells-from-in-loop-x c = omega (arith, first_small (goal.at.bounds-cells-from-in-loop-x c).In-loop-x, c.loop-x.invariant.0.size)

pub bounds-cells-to : goal.bounds-cells-to
bounds-cells-to c = omega (arith, c.loop-x.invariant.0.size)

pub loop-x-preserved : goal.loop-x-preserved
loop-x-preserved c =
    let a = c.args in
    let l = c.loop-x in
    let all : 2 ^ a.k * 2 ^ a.k ≡ a.size * a.size = rw c.requires.1 in (
      only_set (a.to + l.x) _ l.invariant.0 (omega arith) (omega arith),
      pairs_more a.k a.from a.to a.size l.x a.cells.now l.cells c.requires.1 c.loop-x-test.true l.invariant.1 c.requires.2 l.invariant.0
          (omega (arith, l.invariant.0.size)),
    )

pub shape_of-cells : goal.shape_of-cells
shape_of-cells c = c.loop-x.invariant.0.size

pub returns : goal.returns
returns c =
    let a = c.args in
    let l = c.loop-x in
    let all : 2 ^ (a.k + a.k) ≡ a.size * a.size = pow-add 2 a.k a.k ∙ rw c.requires.1 in
    record { words = λ w d words x h. l.invariant.1 w d words x (omega arith); only = l.invariant.0 }
