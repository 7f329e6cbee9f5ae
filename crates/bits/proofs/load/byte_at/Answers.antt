-- `bits::load::byte_at` meets its contract: the law of an unaligned load, at one byte.
-- Assumes nothing.
use Rattle.bits.proofs.Loads.{byte_load_at}
use Rattle.bits.proofs.load.byte_at.Goals as goal

pub returns : goal.returns
returns c =
    let a = c.args in
    rw
    (c.byte_or_zero.ensures, c.byte_or_zero-2.ensures, c.byte-b.ensures, c.offset-r.ensures)
    (byte_load_at a.bytes.now a.p.0 (λ i. (c.type_inv.bytes i).fits))
