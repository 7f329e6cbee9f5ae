-- `marking::merge::Merge::steps` meets its contract. The loop's invariant: both indices have passed at most a position a step, together at
-- least one, and what they have passed beyond that, with what the lists share from the indices on, is what they share from the first
-- indices on. The measure is what is left of the steps.
-- Assumes nothing.
use Prim.Native.Nat.{◌+◌, ◌-◌, ◌≤◌}
use mathlib.Core.Path.{◌≡◌}
use lib.ListN.{length, drop}
use Rattle.marking.specs.Marks.{both}
use Rattle.marking.proofs.merge.Merge.steps.Given as goal

abbrev pub invariant-loop-step : goal.invariant-loop-step
invariant-loop-step l = (l.self.i ≤ l.x)
    × (l.x ≤ l.self.i + l.step)
    × (l.x ≤ length l.key)
    × (l.self.j ≤ l.y)
    × (l.y ≤ l.self.j + l.step)
    × (l.y ≤ length l.sheet)
    × (l.self.i + l.self.j + l.step ≤ l.x + l.y)
    × (l.x + l.y + length (both (drop l.x l.key) (drop l.y l.sheet)) ≡ l.self.i + l.self.j + l.step + length (both (drop l.self.i l.key) (drop l.self.j l.sheet)))

abbrev pub decreases-loop-step : goal.decreases-loop-step
decreases-loop-step l = l.self.count - l.step
