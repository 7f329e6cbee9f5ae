-- `bits::load::byte_inside` meets its contract: the law of eight bits from two bytes.
-- Assumes nothing.
use Rattle.bits.proofs.Loads.{two_bytes_at}
use Rattle.bits.proofs.load.byte_inside.Goals as goal

pub returns : goal.returns
returns c =
    let a = c.args in
    rw
    (c.from.ensures, c.from-2.ensures, c.byte-b.ensures, c.byte-e.ensures, c.offset.ensures)
    (two_bytes_at a.bytes.now a.p.0 (λ i. (c.type_inv.bytes i).fits))
