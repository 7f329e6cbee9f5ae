-- `skip_tables::Tables::next_block` meets its contract. The loop's invariant: the blocks up to this one have no flag.
-- Assumes nothing.
use Rattle.std.proofs.Common.{ℕ, ◌+◌, ◌-◌, ◌*◌, ◌≤◌}
use Rattle.matcher.specs.Asked.{lent}
use Rattle.skip_tables.specs.SkipChains.{Flagging}
use Rattle.skip_tables.proofs.Tables+Words.next_block.Given as goal

abbrev pub invariant-loop-number : goal.invariant-loop-number
invariant-loop-number l = (57 * l.number + 8 ≤ l.self.pattern.now.m) × (l.initial.number ≤ l.number)
    × ((k : ℕ) → Flagging (lent l.self.pattern.now) l.v k l.fn.block.number l.fn.block.left → Flagging (lent l.self.pattern.now) l.v k l.number 0)

abbrev pub decreases-loop-number : goal.decreases-loop-number
decreases-loop-number l = l.self.pattern.now.m - l.number
