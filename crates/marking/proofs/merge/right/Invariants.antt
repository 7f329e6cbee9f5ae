-- `marking::merge::right` meets its contract: what is counted is in the ghost fields of the merge, which keeps its lists. The measure is what
-- is left of both lists.
-- Assumes nothing.
use Prim.Native.Nat.{◌+◌, ◌-◌}
use mathlib.Core.Path.{◌≡◌}
use lib.ListN.{length}
use Rattle.marking.proofs.merge.right.Given as goal

abbrev pub invariant-loop-merge : goal.invariant-loop-merge
invariant-loop-merge l = (l.merge.key ≡ l.key) × (l.merge.sheet ≡ l.sheet)

abbrev pub decreases-loop-merge : goal.decreases-loop-merge
decreases-loop-merge l = length l.key.list.now - l.merge.i + (length l.sheet.list.now - l.merge.j)
