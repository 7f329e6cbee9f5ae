-- `wide::pass` meets its contract. The loop's invariant: the bytes passed are applied.
-- Assumes nothing.
use Prim.Native.Nat.{◌+◌, ◌*◌}
use Rattle.wide.specs.Flags.{Applies}
use Rattle.wide.proofs.WideScan.{passed}
use Rattle.wide.proofs.pass.Given as goal

abbrev pub invariant-loop-round : goal.invariant-loop-round
invariant-loop-round l = Applies l.search.query.text.now l.search.cells.now l.s.0 (passed l.search.query.pattern.m l.from (l.from + 16 * l.round)) l.flags l.f
