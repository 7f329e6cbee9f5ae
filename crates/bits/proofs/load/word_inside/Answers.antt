-- `bits::load::word_inside` meets its contract: the law of an unaligned load, at eight bytes with a byte after them.
-- Assumes nothing.
use Prim.Native.Nat.{◌+◌, ◌/◌}
use lib.Dec.{lit<}
use Rattle.bits.proofs.Loads.{load_at}
use Rattle.bits.proofs.load.word_inside.Goals as goal

pub returns : goal.returns
returns c =
    let a = c.args in
    rw
    (c.eight_bytes.ensures, c.from.ensures, c.byte-b.ensures, c.offset-r.ensures)
    (load_at a.bytes.now a.p.0 8 (lit< tt) (c.type_inv.bytes (a.p.0 / 8 + 8)).fits)
