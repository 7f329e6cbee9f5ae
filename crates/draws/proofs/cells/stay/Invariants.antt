use Rattle.std.proofs.Common.{ℕ, ◌<◌, ◌≤◌, IsTrue, slice_index_or}
use Rattle.draws.specs.Content.{content}
use Rattle.draws.proofs.cells.stay.Given as goal

abbrev pub invariant-loop-i : goal.invariant-loop-i
invariant-loop-i g l = (k : ℕ) → l.from ≤ k → k < l.i → IsTrue (g.T.PartialEq.eq (slice_index_or l.s k (g.T.Low.low (content l.x k))) (g.T.Low.low (content l.x k)))
