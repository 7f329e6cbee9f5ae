-- `wide::move_of` meets its contract. The loop's invariant: the pattern has no bit c from index k on, and where a flag was
-- found it has one before k.
-- Assumes nothing.
use mathlib.Core.Path.{◌≡◌}
use Prim.Native.Nat.{◌+◌, ◌/◌, ◌≤◌}
use Rattle.rules.specs.Pattern.{Pattern}
use Rattle.matcher.specs.Tables.{WideTables}
use Rattle.wide.proofs.WideMoves.{Down}
use Rattle.wide.proofs.move_of.Given as goal

abbrev pub invariant-loop-k : goal.invariant-loop-k
invariant-loop-k l = (l.k ≤ l.search.query.pattern.m) × (l.i ≤ 64) × ((w : Pattern) → w.count ≡ l.search.query.pattern.m → WideTables w l.search.cells.now → Down w l.c l.k l.i)

abbrev pub decreases-loop-k : goal.decreases-loop-k
decreases-loop-k l = l.k + l.i / 64
