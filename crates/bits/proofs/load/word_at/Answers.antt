-- `bits::load::word_at` meets its contract: nine bytes are there, or the law of an unaligned load with nothing after it.
-- Assumes nothing.
use native.Mathlib.Omega.{arith}
use lib.Dec.{lit<}
use Rattle.bits.proofs.Loads.{load_at_end}
use Rattle.bits.proofs.load.word_at.Goals as goal

pub returns-else-b-bytes : goal.returns-else-b-bytes
returns-else-b-bytes c =
    let a = c.args in
    rw (c.last_bytes.ensures, c.byte-b.ensures, c.offset.ensures)
    (load_at_end a.bytes.now a.p.0 8 (lit< tt) (omega (arith, c.byte-b.ensures)))
