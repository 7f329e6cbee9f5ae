-- `lines::lent::pack` meets its contract. The loop's invariant: the bytes passed are packed, and the others stay.
-- Assumes nothing.
use Rattle.lines.proofs.Bits.{Filled}
use Rattle.lines.proofs.lent.pack.Given as goal

abbrev pub invariant-loop-b : goal.invariant-loop-b
invariant-loop-b l = Filled l.chars l.initial.out l.b l.out
