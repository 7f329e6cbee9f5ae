use mathlib.Core.Path.{◌≡◌}
use Prim.Native.Nat.{◌-◌, ◌≤◌}
use native.Mathlib.Omega.{arith}
use lib.ListN.{length}
use Rattle.hash_tables.specs.HashMoves.{Entered}
use Rattle.matcher.specs.Asked.{lent}
use Rattle.hash_tables.proofs.HashValues.{long_enough}
use Rattle.hash_tables.proofs.HashTables.{entered_here, entered_then}
use Rattle.hash_tables.proofs.prepare_fixed.Goals as goal
use Rattle.hash_tables.proofs.prepare_fixed.Goals.{After-enter-2, At-loop-d}

-- room for the table at each turn
room : (c : At-loop-d) → 256 ≤ length c.loop-d.cells
room c =
    omega (arith, c.loop-d.invariant.1.size, c.prepare_ends.ensures.size, c.requires.in_bounds)

-- what the last call leaves
all : (c : After-enter-2)
    → let a = c.args in
    Entered (lent a.pattern.now) a.cells.now c.enter-2.new.cells 0
all c =
    let l = c.loop-d in
    let none : l.d - l.d ≡ 0 = omega arith in
    rw none at
    (entered_then c.prepare_ends.ensures (entered_then l.invariant.1 c.enter-2.ensures))

pub loop-d-init : goal.loop-d-init
loop-d-init c =
    (omega (arith, long_enough _ c.requires.good_pattern), entered_here c.prepare_ends.ensures)

pub enter-requires : goal.enter-requires
enter-requires c =
    let l = c.loop-d in
    record {
      d_bound = (l.invariant.0, omega arith, omega arith, room (goal.at.enter-requires c).At-loop-d);
      all_fixed = c.requires.all_fixed;
      entered = entered_here l.invariant.1;
    }

pub loop-d-preserved : goal.loop-d-preserved
loop-d-preserved c =
    let l = c.loop-d in
    (omega (arith, l.invariant.0), entered_then l.invariant.1 c.enter.ensures)

pub enter-requires-2 : goal.enter-requires-2
enter-requires-2 c =
    let l = c.loop-d in
    record {
      d_bound = (l.invariant.0, omega arith, omega arith, room (goal.at.enter-requires-2 c).At-loop-d);
      all_fixed = c.requires.all_fixed;
      entered = entered_here l.invariant.1;
    }

pub shape_of-cells : goal.shape_of-cells
shape_of-cells c = (all (goal.at.shape_of-cells c).After-enter-2).size

pub returns : goal.returns
returns c = all (goal.at.returns c).After-enter-2
