-- `skip::first_step` meets its contract. The loop's invariant: the occurrences before the link's place are written.
-- Assumes nothing.
use Rattle.std.proofs.Common.{◌+◌, ◌-◌, ◌*◌, ◌/◌, ◌≤◌}
use Rattle.rules.specs.Occurrence.{occurrences}
use Rattle.matcher.specs.Asked.{text_in, pattern_in}
use Rattle.matcher.specs.Progress.{Writing}
use Rattle.skip.proofs.first_step.Given as goal

abbrev pub invariant-loop-links : goal.invariant-loop-links
invariant-loop-links g l = let b = (l.at + l.query.pattern.m) / 8 - 1 in
    (l.links.first + l.at ≤ 8 * b + 1)
    × g.K.Walk.walking (pattern_in l.query) l.v l.links
    × Writing l.initial.list 0 (occurrences (text_in l.query) (pattern_in l.query) l.at (8 * b + 1 - l.links.first)) l.list l.hits

abbrev pub decreases-loop-links : goal.decreases-loop-links
decreases-loop-links g l = l.links.first
