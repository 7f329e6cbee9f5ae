-- `bits::bit::bit` meets its contract: it is the definition, with the byte's number and the bit's offset as the conversions give
-- them.
-- Assumes nothing.
use Rattle.std.proofs.Common.{◌≡◌, ◌/◌, ◌%◌, ◌-◌, ◌^◌, get_or, rules}
use Rattle.bits.specs.Packed.{bit_at}
use Rattle.bits.proofs.bit.bit.Goals as goal

pub returns : goal.returns
unfolding bit_at
returns c =
    let a = c.args in
    let e : c.map_or.result ≡ get_or a.bytes.now c.byte.result.0 0 / 2 ^ (7 - c.offset.result) % 2 = search rules in
    rw (e, c.byte.ensures, c.offset.ensures)
