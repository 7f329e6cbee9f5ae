-- The tail method's `advance` meets its contract: no step is made where none is left.
-- Assumes nothing.
use native.Mathlib.Omega.{arith}
use Rattle.rules.specs.declared.Method.TheVariants.{Tail}
use Rattle.matcher.specs.Asked.{text_in, pattern_in}
use Rattle.matcher.proofs.Advancing.{advanced_none}
use Rattle.tail.proofs.TailMatcher.advance.Goals as goal

pub returns-then-budget-eq0 : goal.returns-then-budget-eq0
returns-then-budget-eq0 c =
    let a = c.args in
    advanced_none Tail (text_in a.search.now.query) (pattern_in a.search.now.query) a.s.0 a.budget a.list.now 0 (omega arith) c.requires
