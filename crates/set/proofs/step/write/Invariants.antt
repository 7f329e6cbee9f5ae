-- `set::step::write` meets its contract. The loop's invariant: the first j pairs are written.
-- Assumes nothing.
use lib.ListN.{take}
use Rattle.set.specs.Parts.{PairsWritten}
use Rattle.set.proofs.step.write.Given as goal

abbrev pub invariant-loop-j : goal.invariant-loop-j
invariant-loop-j l = PairsWritten l.initial.list 0 l.s (take l.j l.numbers) l.list
