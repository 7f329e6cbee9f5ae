-- `bits::load::head_inside` meets its contract: the law of the first 57 bits of a shifted load.
-- Assumes nothing.
use Rattle.bits.proofs.Loads.{head_at}
use Rattle.bits.proofs.load.head_inside.Goals as goal

pub returns : goal.returns
returns c =
    let a = c.args in
    rw (c.eight_bytes.ensures, c.byte.ensures, c.offset.ensures) (head_at a.bytes.now a.p.0)
