-- `matcher::query::Query::stands_inside` meets its contract. The loop's invariant: the bits of the loads before agree (`Passed`), and the last
-- load is not passed.
-- Assumes nothing.
use Prim.Native.Nat.{◌+◌, ◌*◌, ◌≤◌}
use Rattle.matcher.proofs.Chunks.{Passed}
use Rattle.matcher.proofs.query.Query.stands_inside.Given as goal

abbrev pub invariant-loop-load : goal.invariant-loop-load
invariant-loop-load l = Passed l.text l.bytes l.fixed l.m l.at (8 * l.load * 8) × (8 * l.load ≤ l.last + 7)
