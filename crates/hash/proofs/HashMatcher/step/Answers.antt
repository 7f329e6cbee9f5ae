-- The hash method's `step` meets its contract: the place is found just where the pattern stands.
-- Assumes nothing.
use Rattle.std.proofs.Common.{◌≡◌, refl, length, ◌≤◌, ◌<◌, Bool, arith}
use Rattle.rules.specs.Occurrence.{matches}
use Rattle.matcher.specs.Asked.{text_in, pattern_in}
use Rattle.matcher.proofs.Compared.{compared}
use Rattle.hash.proofs.HashSteps.{stepped_hit, stepped_miss, stepped_cut}
use Rattle.hash.proofs.HashMatcher.step.Goals as goal

pub returns-then-not-stands : goal.returns-then-not-stands
returns-then-not-stands c =
    let a = c.args in (
      stepped_miss (text_in a.search.now.query) (pattern_in a.search.now.query) a.search.now.cells.now a.search.now.ready a.s.0 c.requires a.list.now 0
          _ c.next_mark-at.ensures (compared _ _ _ _ _ _ c.stands.ensures c.if-not-stands.true) (omega arith),
      refl,
    )

pub returns-then-is_empty : goal.returns-then-is_empty
returns-then-is_empty c =
    let a = c.args in (
      stepped_cut (text_in a.search.now.query) (pattern_in a.search.now.query) a.search.now.cells.now a.search.now.ready a.s.0 c.requires a.list.now 0
          (compared _ _ _ _ _ _ c.stands.ensures c.if-not-stands.false) (grind (arith, c.is_empty.ensures)),
      refl,
    )

pub returns : goal.returns
returns c =
    let a = c.args in (
      stepped_hit (text_in a.search.now.query) (pattern_in a.search.now.query) a.search.now.cells.now a.search.now.ready a.s.0 c.requires a.list.now 0
          _ c.next_mark-at.ensures (compared _ _ _ _ _ _ c.stands.ensures c.if-not-stands.false) (grind (arith, c.is_empty.ensures)),
      refl,
    )
