-- `skip::busy` meets its contract. The loop's invariant: the steps made are written, the mark is the first place that contains b,
-- and all places of the next step lie below the number of places.
-- Assumes nothing.
use Rattle.std.proofs.Common.{false, ◌+◌, ◌-◌, ◌*◌, ◌≤◌, ◌<◌}
use Rattle.rules.specs.declared.Method.TheVariants.{Skip}
use Rattle.rules.specs.Occurrence.{places}
use Rattle.matcher.specs.Tables.{chained}
use Rattle.matcher.specs.Asked.{text_in, pattern_in}
use Rattle.matcher.specs.Progress.{Advanced}
use Rattle.skip.proofs.busy.Given as goal

abbrev pub invariant-loop-one : goal.invariant-loop-one
invariant-loop-one g l = (chained l.by.search.now.query.pattern.m ≤ 8 * l.b.0) × (8 * l.b.0 < places (text_in l.by.search.now.query) (pattern_in l.by.search.now.query))
    × (l.steps < l.budget)
    × Advanced Skip (text_in l.by.search.now.query) (pattern_in l.by.search.now.query) l.fn.s.0 l.budget l.initial.list 0 (8 * l.b.0 + 1 - chained l.by.search.now.query.pattern.m) l.steps l.hits false l.list

abbrev pub decreases-loop-one : goal.decreases-loop-one
decreases-loop-one g l = l.budget - l.steps
