-- `wide::enter` meets its contract. The loop's invariant: the cells of the bits passed are made.
-- Assumes nothing.
use Rattle.wide.specs.Flags.{Entered}
use Rattle.wide.proofs.enter.Given as goal

abbrev pub invariant-loop-r : goal.invariant-loop-r
invariant-loop-r l = Entered l.initial.cells l.cells l.q l.r l.flags.zero l.flags.one l.new.zero l.new.one
