-- The plain method's `advance` meets its contract. The loop's invariant: one step for each place passed, and what they found is
-- written.
-- Assumes nothing.
use Rattle.std.proofs.Common.{false, ◌-◌, ◌≤◌}
use Rattle.rules.specs.declared.Method.TheVariants.{Plain}
use Rattle.matcher.specs.Asked.{text_in, pattern_in}
use Rattle.matcher.specs.Progress.{Advanced}
use Rattle.plain.proofs.PlainMatcher.advance.Given as goal

abbrev pub invariant-loop-p : goal.invariant-loop-p
invariant-loop-p l =
    Advanced Plain (text_in l.search.query) (pattern_in l.search.query) l.fn.s.0 l.budget l.initial.list 0 l.at.0 (l.at.0 - l.fn.s.0) l.hits false l.list
    × (l.fn.s.0 ≤ l.at.0) × (l.at.0 ≤ l.limit.0)

abbrev pub decreases-loop-p : goal.decreases-loop-p
decreases-loop-p l = l.limit.0 - l.at.0
