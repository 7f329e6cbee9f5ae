-- `set::check::check` meets its contract: its tests are the rows of the table, in their order. The loop's invariant: no row of a
-- pattern passed refuses, and the next one begins after it.
-- Assumes nothing.
use mathlib.Core.Path.{◌≡◌}
use Rattle.search.specs.Verdict.{AllFail}
use Rattle.set_rules.specs.PatternSet.{start_of}
use Rattle.set_rules.specs.Verdict.{rows_from}
use Rattle.set_tables.specs.Parts.{lent}
use Rattle.set.proofs.check.check.Given as goal

abbrev pub invariant-loop-m : goal.invariant-loop-m
invariant-loop-m l = (l.start ≡ start_of l.counts l.m-index) × AllFail (rows_from (lent l.patterns) 0 l.m-index)
