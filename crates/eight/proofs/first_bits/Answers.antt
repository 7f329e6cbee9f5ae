-- `eight::first_bits` meets its contract: the law of up to eight bits from two bytes.
-- Assumes nothing.
use Rattle.eight.proofs.Loads.{moved_first}
use Rattle.eight.proofs.first_bits.Goals as goal

pub returns : goal.returns
returns c =
    let a = c.args in
    rw
    (c.from-left.ensures, c.from-right.ensures, c.byte-b.ensures, c.byte-e.ensures, c.offset.ensures)
    (moved_first a.bytes.now a.p.0 a.count c.requires.0 c.requires.1 (λ i. (c.type_inv.bytes i).fits))
