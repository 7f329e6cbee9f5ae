-- `plain::shifted` meets its contract.
-- Assumes nothing.
use Rattle.plain.proofs.Shifts.{shifted_bit_lem}
use Rattle.plain.proofs.shifted.Goals as goal

pub returns : goal.returns
returns c = let a = c.args in shifted_bit_lem a.prev a.x a.i c.ranges.x.fits c.requires
