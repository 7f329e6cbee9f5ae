-- `skip_tables::clear` meets its contract: the library's `fill` writes 0 to each of the first 256 cells.
-- Assumes nothing.
use Rattle.std.proofs.Common.{List, ℕ, ◌++◌, drop, ap}
use lib.Seq.{length-take-le}
use Rattle.skip_tables.proofs.clear.Goals as goal

pub returns : goal.returns
returns c =
    let filled = rw (length-take-le 256 c.args.cells.now c.requires) at (c.fill.ensures.after (λ y e. e)) in
    ap (λ (x : List ℕ). x ++ drop 256 c.args.cells.now) filled
