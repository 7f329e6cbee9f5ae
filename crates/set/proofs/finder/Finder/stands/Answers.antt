-- `set::finder::Finder::stands` meets its contract: the pattern fits or not, and what follows its first 32 bits is compared.
-- Assumes nothing.
use lib.ListN.{get_or}
use Rattle.set_rules.specs.PatternSet.{pattern_at}
use Rattle.set.specs.Parts.{text_in, set_in}
use Rattle.set.proofs.Standing.{stands_out, stands_short, stands_from}
use Rattle.set.proofs.finder.Finder.stands.Goals as goal

pub returns-then-self-at : goal.returns-then-self-at
returns-then-self-at c =
    let a = c.args in
    stands_out (text_in a.self.now) (pattern_at (set_in a.self.now) a.i) a.p.0 c.if-self-at.true

pub returns-then-m-le32 : goal.returns-then-m-le32
returns-then-m-le32 c =
    let a = c.args in
    stands_short (text_in a.self.now) (pattern_at (set_in a.self.now) a.i) a.p.0 c.if-self-at.false c.if-m-le32.true c.requires.begins_there.1

pub returns : goal.returns
returns c =
    let a = c.args in
    let self = a.self.now in
    stands_from (set_in self) a.i (get_or self.rows.now a.i 0) (self.kept.starts_are a.i c.requires.known) (text_in self) a.p.0
    c.same.result c.if-self-at.false c.same.ensures
