-- `marking::report::write` meets its contract. The loop's invariant: the report of the sheets that are left, stored from the index
-- reached on, gives the whole report, and the totals so far with theirs are the whole totals; the sheets that are left lie in the cells
-- that are left, and rise.
-- Assumes nothing.
use Prim.Native.Nat.{◌+◌, ◌*◌, ◌≤◌}
use mathlib.Core.Path.{◌≡◌}
use mathlib.Core.Bool.{true}
use lib.ListN.{length, drop}
use lib.Seq.{sets}
use Rattle.positions.specs.Basics.{limit}
use Rattle.marking.specs.Sitting.{sum, sheets_of, all_rise, all_marks, report_of, totals_of}
use Rattle.marking.proofs.report.write.Given as goal

abbrev pub invariant-loop-i : goal.invariant-loop-i
invariant-loop-i l = (sum (drop l.i l.counts) ≤ length l.rest)
    × (all_rise (sheets_of l.rest (drop l.i l.counts)) ≡ true)
    × (sets l.target (3 * l.i) (report_of (all_marks l.key.list.now l.rest (drop l.i l.counts))) ≡ sets l.initial.target 0 (report_of (all_marks l.key.list.now l.sheets l.counts)))
    × (l.totals.right + (totals_of (all_marks l.key.list.now l.rest (drop l.i l.counts))).right ≡ (totals_of (all_marks l.key.list.now l.sheets l.counts)).right)
    × (l.totals.missed + (totals_of (all_marks l.key.list.now l.rest (drop l.i l.counts))).missed ≡ (totals_of (all_marks l.key.list.now l.sheets l.counts)).missed)
    × (l.totals.false_positives + (totals_of (all_marks l.key.list.now l.rest (drop l.i l.counts))).false_positives ≡ (totals_of (all_marks l.key.list.now l.sheets l.counts)).false_positives)
    × (l.totals.right ≤ l.i * limit)
    × (l.totals.missed ≤ l.i * limit)
    × (l.totals.false_positives ≤ l.i * limit)
