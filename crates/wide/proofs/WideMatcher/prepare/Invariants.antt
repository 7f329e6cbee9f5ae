-- `wide::prepare` meets its contract. The loop's invariant: the cells of the window bits passed are made, and the two numbers
-- have the flags of the last of them.
-- Assumes nothing.
use Prim.Native.Nat.{◌*◌}
use Rattle.matcher.specs.Asked.{lent}
use Rattle.wide.proofs.WideTables.{Before, Filled}
use Rattle.wide.proofs.WideMatcher.prepare.Given as goal

abbrev pub invariant-loop-byte : goal.invariant-loop-byte
invariant-loop-byte l =
    let w = lent l.pattern in
    record {
      made : Filled w l.initial.cells l.cells (8 * l.byte);
      zero : Before w 0 (8 * l.byte) l.flags.zero;
      one : Before w 1 (8 * l.byte) l.flags.one;
    }
