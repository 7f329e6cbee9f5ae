-- `hash_tables::settle_row` meets its contract. The loop's invariant: the cells of the groups before g have the moves up to d + 57.
-- Assumes nothing.
use Prim.Native.Nat.{◌+◌, ◌*◌, ◌≤◌}
use Rattle.rules.specs.Pattern.{Pattern}
use Rattle.matcher.specs.Lined.{Words, Only}
use Rattle.hash_tables.specs.HashWords.{Row, Part}
use Rattle.hash_tables.proofs.settle_row.Given as goal

abbrev pub invariant-loop-g : goal.invariant-loop-g
invariant-loop-g l =
    record {
      only : Only (16 * l.high) (16 * l.high + 16) l.initial.cells l.cells;
      part : (w : Pattern) → 1 ≤ w.count → Words w (l.d + 1) 4 262 l.initial.cells → Row w l.d l.high l.unset l.initial.cells → Part w l.d l.high (4 * l.g) l.kept l.cells;
    }
