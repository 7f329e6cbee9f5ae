-- `wide::settle` meets its contract. The loop's invariant: the places passed are settled, and the flags are those of the
-- places from here on.
-- Assumes nothing.
use Prim.Native.Nat.{◌-◌}
use Rattle.matcher.specs.Asked.{text_in, pattern_in}
use Rattle.wide.specs.Flags.{stop}
use Rattle.wide.proofs.WideFlags.{Settling}
use Rattle.wide.proofs.settle.Given as goal

abbrev pub invariant-loop-f : goal.invariant-loop-f
invariant-loop-f l = Settling (text_in l.search.query) (pattern_in l.search.query) l.initial.at l.initial.list 0 l.list l.at l.f l.hits

abbrev pub decreases-loop-f : goal.decreases-loop-f
decreases-loop-f l = stop (text_in l.search.query) (pattern_in l.search.query) l.initial.at - l.at
