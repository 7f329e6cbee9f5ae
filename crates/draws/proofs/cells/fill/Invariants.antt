use Rattle.std.proofs.Common.{◌≡◌, ℕ, ◌<◌, ◌≤◌, take, slice_index_or}
use Rattle.draws.specs.Content.{content}
use Rattle.draws.proofs.cells.fill.Given as goal

abbrev pub invariant-loop-i : goal.invariant-loop-i
invariant-loop-i g l = record {
  before : take l.from l.s ≡ take l.from l.fn.s;
  filled : (k : ℕ) → l.from ≤ k → k < l.i → slice_index_or l.s k (g.T.Low.low (content l.x k)) ≡ g.T.Low.low (content l.x k);
}
