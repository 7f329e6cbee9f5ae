-- `set::check::places` meets its contract. The loop's invariant: the largest number of places of the patterns passed.
-- Assumes nothing.
use mathlib.Core.Path.{◌≡◌}
use Prim.Native.Nat.{◌+◌, ◌-◌}
use lib.ListN.{get_or}
use Rattle.set_rules.specs.PatternSet.{largest}
use Rattle.set.proofs.check.places.Given as goal

abbrev pub invariant-loop-m : goal.invariant-loop-m
invariant-loop-m l = l.most ≡ largest (λ j. (1 + l.n) - get_or l.counts j 0) l.m-index
