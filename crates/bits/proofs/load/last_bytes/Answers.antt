-- `bits::load::last_bytes` meets its contract: the bytes that are there are joined, and moved to the front.
-- Assumes nothing.
use Rattle.std.proofs.Common.{sym, arith, rules}
use Rattle.bits.specs.Packed.{bits_at}
use Rattle.bits.proofs.Loads.{bits_end, last_joined}
use Rattle.bits.proofs.load.last_bytes.Goals as goal

pub returns-then-bytes-b : goal.returns-then-bytes-b
unfolding bits_at
returns-then-bytes-b c =
    let a = c.args in
    sym (bits_end a.bytes.now a.b.0 0 (omega arith) (omega arith))

pub returns : goal.returns
returns c =
    let a = c.args in
    last_joined a.bytes.now a.b.0 c.requires (λ i. (c.type_inv.bytes i).fits) (search rules) c.place.ensures
