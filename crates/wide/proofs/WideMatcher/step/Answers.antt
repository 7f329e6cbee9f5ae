-- `wide::step` meets its contract: the flags of its places, settled.
-- Assumes nothing.
use Rattle.matcher.specs.Asked.{text_in, pattern_in}
use Rattle.wide.proofs.WideFlags.{flagged_of}
use Rattle.wide.proofs.WideMatcher.step.Goals as goal

pub settle-requires : goal.settle-requires
settle-requires c =
    let a = c.args in
    record {
      inside = c.requires;
      flagged = flagged_of (text_in a.search.now.query) (pattern_in a.search.now.query) a.search.now.cells.now a.s.0 c.scan-flags.result c.scan-flags.type_inv a.search.now.ready.tables c.scan-flags.ensures;
      to_value = c.next_mark-to.ensures;
    }
