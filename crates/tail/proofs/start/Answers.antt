-- `tail::start` meets its contract.
-- Assumes nothing.
use native.Mathlib.Omega.{arith}
use lib.Bits.{bit_and, bit_xor, and_le_r}
use Rattle.tail.proofs.TailLengths.{few_leading}
use Rattle.tail.proofs.start.Goals as goal

pub every_bit-flip-requires : goal.every_bit-flip-requires
every_bit-flip-requires c = few_leading c.args.care (omega arith)

pub returns : goal.returns
returns c =
    let a = c.args in
    let other = bit_and (bit_xor a.ones c.every_bit-flip.result) a.care in
    omega (arith, c.saturating_sub.ensures, few_leading other (omega (arith, and_le_r (bit_xor a.ones c.every_bit-flip.result) a.care)))
