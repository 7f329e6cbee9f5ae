-- The words' `next` meets its contract: the lowest flag is the last index that shows the byte.
-- Assumes nothing.
use Rattle.std.proofs.Common.{◌-◌, arith}
use Rattle.matcher.specs.Tables.{shows_byte}
use Rattle.matcher.specs.Asked.{lent}
use Rattle.skip_tables.proofs.SkipBelow.{below_is}
use Rattle.skip_tables.proofs.WordsWalk.next.Goals as goal

pub returns : goal.returns
returns c =
    let a = c.args in
    let e = c.lowest.ensures in
    (omega (arith, e.0, (below_is (shows_byte (lent a.tables.now.pattern.now) a.v) (a.links.first - 1)).within), omega (arith, e.0), e.1)
