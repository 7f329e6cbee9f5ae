-- The tail method's `prepare` meets its contract.
-- Assumes nothing.
use Rattle.matcher.specs.Asked.{lent}
use Rattle.tail.proofs.TailSteps.{short_enough, prepared}
use Rattle.tail.proofs.TailMatcher.prepare.Goals as goal

pub returns : goal.returns
returns c =
    let a = c.args in
    let w = lent a.pattern.now in
    prepared w c.requires.good_pattern.some_bits (short_enough w c.requires.good_pattern) a.cells.now _ _ c.requires.m_in_bounds c.word_near_end-2.ensures c.word_near_end.ensures
