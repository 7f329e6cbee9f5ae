-- `set_tables::scan::look` meets its contract. The loop's invariant: the places at the offsets below i have their flags.
-- Assumes nothing.
use Rattle.set_tables.proofs.Scanning.{LookedTo}
use Rattle.set_tables.proofs.scan.look.Given as goal

abbrev pub invariant-loop-i : goal.invariant-loop-i
invariant-loop-i l = LookedTo l.tables l.word l.initial.found l.found l.any l.i
