-- `wide::scan` meets its contract: all flags of the last step; one pass, and another where it leaves several; or, for a
-- longer pattern, two bytes at a time. The loop's invariant: the window bits from 56 on are applied, in whole rounds.
-- Assumes nothing.
use Prim.Native.Nat.{◌+◌, ◌*◌}
use Rattle.wide.specs.Flags.{within, Applies}
use Rattle.wide.proofs.WideScan.{all_flags}
use Rattle.wide.proofs.scan.Given as goal

abbrev pub invariant-loop-round : goal.invariant-loop-round
invariant-loop-round l = Applies l.search.query.text.now l.search.cells.now l.s.0 (within 56 (56 + 16 * l.round)) all_flags l.f
