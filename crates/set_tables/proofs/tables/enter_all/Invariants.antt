-- `set_tables::tables::enter_all` meets its contract. The loop's invariant: the first i patterns are entered, and the next
-- begins at `start`.
-- Assumes nothing.
use Rattle.set_tables.specs.Parts.{lent}
use Rattle.set_tables.proofs.Entering.{EnteringAll}
use Rattle.set_tables.proofs.tables.enter_all.Given as goal

abbrev pub invariant-loop-i : goal.invariant-loop-i
invariant-loop-i l = EnteringAll (lent l.patterns) l.i l.start l.initial.rows l.rows l.initial.halves l.halves
