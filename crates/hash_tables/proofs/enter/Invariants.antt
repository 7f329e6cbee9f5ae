-- `hash_tables::enter` meets its contract. The loop's invariant: r moves are entered, and the load is shifted by r bits.
-- Assumes nothing.
use mathlib.Core.Path.{◌≡◌}
use Prim.Native.Nat.{◌-◌}
use Rattle.hash_tables.specs.HashMoves.{Entered}
use Rattle.matcher.specs.Asked.{lent}
use Rattle.matcher.proofs.Shifted.{shifted}
use Rattle.hash_tables.proofs.enter.Given as goal

abbrev pub invariant-loop-r : goal.invariant-loop-r
invariant-loop-r l =
    record {
      shift : l.x ≡ shifted l.pattern.bytes.now (l.pattern.m - 8 - l.d) l.r;
      entered : Entered (lent l.pattern) l.initial.cells l.cells (l.d - l.r);
    }
