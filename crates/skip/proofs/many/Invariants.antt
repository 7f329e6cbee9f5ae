-- `skip::many` meets its contract. The loop's invariant: the steps made are written, the mark is 1 more than a multiple of 8, and
-- b is its last byte.
-- Assumes nothing.
use Rattle.std.proofs.Common.{◌≡◌, false, ◌+◌, ◌-◌, ◌/◌, ◌%◌}
use Rattle.rules.specs.declared.Method.TheVariants.{Skip}
use Rattle.matcher.specs.Asked.{text_in, pattern_in}
use Rattle.matcher.specs.Progress.{Advanced}
use Rattle.skip.proofs.many.Given as goal

abbrev pub invariant-loop-b : goal.invariant-loop-b
invariant-loop-b g l = (l.at % 8 ≡ 1) × (l.b.0 ≡ (l.at + l.by.search.now.query.pattern.m) / 8 - 1)
    × Advanced Skip (text_in l.by.search.now.query) (pattern_in l.by.search.now.query) l.initial.at l.budget l.initial.list 0 l.at l.steps l.hits false l.list

abbrev pub decreases-loop-b : goal.decreases-loop-b
decreases-loop-b g l = l.budget - l.steps
