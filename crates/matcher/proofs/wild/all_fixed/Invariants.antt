-- `matcher::wild::all_fixed` meets its contract. The loop's invariant: the bits passed are fixed.
-- Assumes nothing.
use Prim.Native.Nat.{◌*◌}
use Rattle.matcher.specs.Asked.{lent}
use Rattle.matcher.proofs.AllFixed.{FixedTo}
use Rattle.matcher.proofs.wild.all_fixed.Given as goal

abbrev pub invariant-loop-load : goal.invariant-loop-load
invariant-loop-load l = FixedTo (lent l.pattern) (64 * l.load)
