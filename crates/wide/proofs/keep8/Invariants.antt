-- `wide::keep8` meets its contract. The loop's invariant: the bits passed are applied.
-- Assumes nothing.
use Prim.Native.Nat.{◌+◌}
use Rattle.wide.specs.Flags.{within, Applies}
use Rattle.wide.proofs.keep8.Given as goal

abbrev pub invariant-loop-j : goal.invariant-loop-j
invariant-loop-j l = Applies l.search.query.text.now l.search.cells.now l.fn.s.0 (within l.q (l.q + l.j)) l.flags l.f
