use mathlib.Core.Path.{◌≡◌, ap}
use Prim.Native.Nat.{ℕ, ◌-◌, ◌/◌, ◌^◌, ◌≤◌, ◌<◌}
use native.Mathlib.Omega.{arith}
use lib.ListN.{length, set, length-set}
use lib.Pow.{shr_le}
use Rattle.bits.proofs.Run.{bits_lt}
use Rattle.hash_tables.specs.HashMoves.{Entered}
use Rattle.matcher.specs.Asked.{lent}
use Rattle.hash_tables.proofs.HashValues.{long_enough}
use Rattle.hash_tables.proofs.HashTables.{ends_none, ends_small, ends_more, ends_made}
use Rattle.hash_tables.proofs.prepare_ends.Goals as goal
use Rattle.hash_tables.proofs.prepare_ends.Goals.{After-double-2, At-loop-k}

-- room for the table and for a copy
room : (c : At-loop-k) → (c.loop-k.size ≤ 128) × (256 ≤ length c.loop-k.cells)
room c =
    let a = c.args in
    let size : length (set a.cells.now 0 a.pattern.now.m) ≡ length a.cells.now = length-set a.cells.now 0 a.pattern.now.m in (
      ends_small (lent a.pattern.now) c.requires.all_fixed (long_enough _ c.requires.good_pattern) _ (omega arith) c.loop-k.cells c.loop-k.size c.loop-k.k c.loop-k.invariant,
      omega (arith, c.loop-k.invariant.same_size),
    )

-- the value that is written to
value_lt : (c : At-loop-k)
    → c.byte_at-first.result / 2 ^ (8 - c.loop-k.k) < 256
value_lt c =
    let b = c.byte_at-first in
    let k = c.loop-k.k in
    let byte : b.result < 256 = rw b.ensures (bits_lt c.args.pattern.now.bytes.now 0 8) in
    omega (arith, shr_le b.result (8 - k))

-- what the last copy leaves
made : (c : After-double-2)
    → let a = c.args in
    Entered (lent a.pattern.now) a.cells.now c.double-2.new.cells (a.pattern.now.m - 8)
made c =
    let a = c.args in
    let l = c.loop-k in
    rw c.double-2.ensures
    (ends_made (lent a.pattern.now) c.requires.all_fixed (long_enough _ c.requires.good_pattern) a.cells.now c.requires.in_bounds l.cells l.size l.k l.invariant
    (omega (arith, l.invariant.high)))

pub loop-k-init : goal.loop-k-init
loop-k-init c =
    let a = c.args in
    ends_none (lent a.pattern.now) a.cells.now c.requires.in_bounds

pub double-requires : goal.double-requires
double-requires c = room (goal.at.double-requires c).At-loop-k

pub overflow_sub-cells : goal.overflow_sub-cells
overflow_sub-cells c = omega (arith, long_enough _ c.requires.good_pattern)

pub overflow_shr-cells : goal.overflow_shr-cells
overflow_shr-cells c = omega (arith, c.loop-k.invariant.low)

pub overflow_cast-cells-in-loop-k-3 : goal.overflow_cast-cells-in-loop-k-3
overflow_cast-cells-in-loop-k-3 c = omega (arith, value_lt (goal.at.overflow_cast-cells-in-loop-k-3 c).At-loop-k)

pub offset_bounds-cells-first : goal.offset_bounds-cells-first
offset_bounds-cells-first c = omega (arith, value_lt (goal.at.offset_bounds-cells-first c).At-loop-k)

pub bounds-cells-first : goal.bounds-cells-first
bounds-cells-first c = omega (arith, value_lt (goal.at.bounds-cells-first c).At-loop-k, (room (goal.at.bounds-cells-first c).At-loop-k).1, c.double.auto.cells)

pub overflow_mul-size : goal.overflow_mul-size
overflow_mul-size c = omega (arith, (room (goal.at.overflow_mul-size c).At-loop-k).0)

pub loop-k-preserved : goal.loop-k-preserved
loop-k-preserved c =
    let a = c.args in
    let l = c.loop-k in
    let b = c.byte_at-first in
    let size : length (set a.cells.now 0 a.pattern.now.m) ≡ length a.cells.now = length-set a.cells.now 0 a.pattern.now.m in
    rw c.double.ensures
    (ends_more (lent a.pattern.now) c.requires.all_fixed (long_enough _ c.requires.good_pattern) _ (omega arith) l.cells l.size l.k l.invariant _
    (ap (λ (x : ℕ). x / 2 ^ (8 - l.k)) b.ensures) (omega arith))

pub double-requires-2 : goal.double-requires-2
double-requires-2 c = room (goal.at.double-requires-2 c).At-loop-k

pub shape_of-cells : goal.shape_of-cells
shape_of-cells c = (made (goal.at.shape_of-cells c).After-double-2).size

pub returns : goal.returns
returns c = made (goal.at.returns c).After-double-2
