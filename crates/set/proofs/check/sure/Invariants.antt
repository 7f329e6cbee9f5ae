-- `set::check::sure` meets its contract. The loop's invariant: what the lengths of the patterns passed tell.
-- Assumes nothing.
use Rattle.set.proofs.Listing.{Measured}
use Rattle.set.proofs.check.sure.Given as goal

abbrev pub invariant-loop-i : goal.invariant-loop-i
invariant-loop-i l = Measured l.counts l.longest l.long l.i
