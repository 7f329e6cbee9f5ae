-- `hash::advance` meets its contract. The loop's invariant: the steps made wrote what they found, and they reach the
-- place, or the end of the places where it lies past that.
-- Assumes nothing.
use mathlib.Core.Bool.{false}
use Prim.Native.Nat.{◌-◌, ◌≤◌, min}
use Rattle.rules.specs.declared.Method.TheVariants.{Hash}
use Rattle.rules.specs.Occurrence.{places}
use Rattle.matcher.specs.Asked.{text_in, pattern_in}
use Rattle.matcher.specs.Progress.{Advanced}
use Rattle.hash.proofs.HashMatcher.advance.Given as goal

abbrev pub invariant-loop-at : goal.invariant-loop-at
invariant-loop-at l = let E = places (text_in l.query) (pattern_in l.query) in
    Advanced Hash (text_in l.query) (pattern_in l.query) l.initial.at l.budget l.initial.list 0 (min l.at E) l.steps l.hits false l.list × (l.at ≤ l.query.n)

abbrev pub decreases-loop-at : goal.decreases-loop-at
decreases-loop-at l = l.budget - l.steps
