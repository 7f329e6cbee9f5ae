-- `search::call::run` meets its contract: each turn is one step and many after it, by the laws of steps made one after the other.
-- Assumes nothing.
use Rattle.std.proofs.Common.{◌-◌}
use Rattle.matcher.specs.Asked.{text_in, pattern_in}
use Rattle.search.proofs.Ending.{Turn}
use Rattle.search.proofs.call.run.Given as goal

abbrev pub invariant-loop-at : goal.invariant-loop-at
invariant-loop-at g l = Turn g.M.Rule.method (text_in l.search.query) (pattern_in l.search.query) l.fn.mark.at.0 l.budget l.initial.list l.at l.steps l.hits l.list

abbrev pub decreases-loop-at : goal.decreases-loop-at
decreases-loop-at g l = l.budget - l.steps
