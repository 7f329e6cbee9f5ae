-- `matcher::query::Query::stands_near_end` meets its contract, by the same laws as `stands_inside`.
-- Assumes nothing.
use Prim.Native.Nat.{◌*◌}
use Rattle.matcher.proofs.Chunks.{Passed}
use Rattle.matcher.proofs.query.Query.stands_near_end.Given as goal

abbrev pub invariant-loop-load : goal.invariant-loop-load
invariant-loop-load l = Passed l.text l.bytes l.fixed l.m l.at (64 * l.load)
