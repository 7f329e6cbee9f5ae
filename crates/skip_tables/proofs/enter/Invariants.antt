-- `skip_tables::enter` meets its contract. The loop's invariant: r indices are entered, and the load is shifted by r bits.
-- Assumes nothing.
use Prim.Native.Nat.{◌+◌}
use mathlib.Core.Path.{◌≡◌}
use Rattle.matcher.specs.Asked.{lent}
use Rattle.skip_tables.specs.SkipChains.{Filled}
use Rattle.matcher.proofs.Shifted.{shifted}
use Rattle.skip_tables.proofs.enter.Given as goal

abbrev pub invariant-loop-r : goal.invariant-loop-r
invariant-loop-r l = (l.x ≡ shifted l.pattern.bytes.now l.j l.r) × Filled (lent l.pattern) l.initial.cells (l.j + l.r) l.cells
