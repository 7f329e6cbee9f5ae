-- `wide::advance` meets its contract. The loop's invariant: the steps made, with their list.
-- Assumes nothing.
use mathlib.Core.Bool.{false}
use Prim.Native.Nat.{◌-◌}
use Rattle.rules.specs.declared.Method.TheVariants.{Wide}
use Rattle.matcher.specs.Asked.{text_in, pattern_in}
use Rattle.matcher.specs.Progress.{Advanced}
use Rattle.wide.proofs.WideMatcher.advance.Given as goal

abbrev pub invariant-loop-at : goal.invariant-loop-at
invariant-loop-at l = Advanced Wide (text_in l.search.query) (pattern_in l.search.query) l.initial.at l.budget l.initial.list 0 l.at l.steps l.hits false l.list

abbrev pub decreases-loop-at : goal.decreases-loop-at
decreases-loop-at l = l.budget - l.steps
