-- `set::finder::Finder::run` meets its contract. The loop's invariant: the hits of the places passed stand in the list.
-- Assumes nothing.
use Prim.Native.Nat.{◌-◌, ◌≤◌}
use Rattle.set.specs.Parts.{text_in, set_in}
use Rattle.set.specs.Parts.{Listing}
use Rattle.set.proofs.finder.Finder.run.Given as goal

abbrev pub invariant-loop-at : goal.invariant-loop-at
invariant-loop-at l = Listing (text_in l.self) (set_in l.self) l.s.0 l.initial.list 0 l.list l.at l.hits × (l.at ≤ l.limit)

abbrev pub decreases-loop-at : goal.decreases-loop-at
decreases-loop-at l = l.limit - l.at
