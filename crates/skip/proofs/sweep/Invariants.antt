-- `skip::sweep` meets its contract. The invariant of both loops: the flags left are those of the indices below a bound, and the
-- occurrences at the places of the others are written.
-- Assumes nothing.
use Rattle.std.proofs.Common.{◌+◌, ◌-◌, ◌*◌, ◌^◌, ◌<◌}
use Rattle.matcher.specs.Tables.{chained}
use Rattle.matcher.specs.Asked.{text_in, pattern_in}
use Rattle.skip.proofs.SkipPlaces.{Sweeping}
use Rattle.skip.proofs.sweep.Given as goal

abbrev pub invariant-loop-next : goal.invariant-loop-next
invariant-loop-next l = (l.block.left < 2 ^ 64)
    × Sweeping (text_in l.query) (pattern_in l.query) l.byte l.v (8 * l.byte + 1 - chained l.query.pattern.m) l.initial.list 0 l.list l.block.number l.block.left l.hits

abbrev pub decreases-loop-next : goal.decreases-loop-next
decreases-loop-next l = (l.query.pattern.m - l.block.number) * 2 ^ 64 + l.block.left

abbrev pub invariant-loop-left : goal.invariant-loop-left
invariant-loop-left l = (l.left < 2 ^ 64)
    × Sweeping (text_in l.query) (pattern_in l.query) l.byte l.v (8 * l.byte + 1 - chained l.query.pattern.m) l.fn.list 0 l.list l.next.number l.left l.hits

abbrev pub decreases-loop-left : goal.decreases-loop-left
decreases-loop-left l = l.left
