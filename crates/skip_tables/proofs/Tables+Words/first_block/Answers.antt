-- `skip_tables::Tables::first_block` meets its contract: of the first block the flags from the mark's place on.
-- Assumes nothing.
use Rattle.std.proofs.Common.{◌*◌, refl, arith}
use Rattle.matcher.specs.Asked.{lent}
use Rattle.skip_tables.proofs.SkipWords.{flags_cut}
use Rattle.skip_tables.proofs.Tables+Words.first_block.Goals as goal

pub returns : goal.returns
returns c =
    let a = c.args in
    let long = a.self.now.long in
    record {
      inside = omega arith;
      near = omega arith;
      none = λ d l. absurd (omega arith);
      flags = flags_cut (lent a.self.now.pattern.now) a.v a.k (57 * 0) _ refl c.flags.ensures c.requires.0 c.requires.1;
    }
