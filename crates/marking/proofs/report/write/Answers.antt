use Prim.Native.Nat.{ℕ, ◌+◌, ◌*◌}
use mathlib.Core.Path.{◌≡◌, sym, ap, ◌∙◌}
use mathlib.Core.Bool.{true}
use mathlib.Core.List.{List, ◌∷◌}
use native.Mathlib.Omega.{arith}
use lib.ListN.{drop}
use lib.Seq.{sets}
use Rattle.positions.specs.Rising.{rising}
use Rattle.marking.specs.Marks.{Marks, marks}
use Rattle.marking.specs.Sitting.{sheets_of, all_rise, all_marks, report_of, totals_of}
use Rattle.marking.proofs.Counting.{sum_here, rise_taken}
use Rattle.marking.proofs.Reporting.{small, marks_here, marks_end, report_step, total_right, total_missed, total_false, no_totals, same_marks}
use Rattle.marking.proofs.report.write.Goals as goal

pub split_at-requires : goal.split_at-requires
split_at-requires c = omega (arith, sum_here c.args.counts.now c.loop-i.i c.loop-i-test.true)

pub invariant_of-sheet_marks : goal.invariant_of-sheet_marks
invariant_of-sheet_marks c =
    let l = c.loop-i in
    record { rises = rw c.split_at.ensures.front (rise_taken c.args.counts.now l.i c.loop-i-test.true l.rest.now l.invariant.1).0 }

pub loop-i-preserved : goal.loop-i-preserved
loop-i-preserved c =
    let key = c.args.key.list.now in
    let counts = c.args.counts.now in
    let l = c.loop-i in
    let inside = c.loop-i-test.true in
    let split = c.split_at.ensures in
    let sheet = c.split_at.result.0.now in
    let rest = all_marks key c.split_at.result.1.now (drop (l.i + 1) counts) in
    let taken = rise_taken counts l.i inside l.rest.now l.invariant.1 in
    let sheet_rises : rising sheet ≡ true = rw split.front taken.0 in
    let few = small key sheet c.args.key.rises sheet_rises in
    let m = c.sheet_marks-m in
    let mark = marks key sheet in
    let here : all_marks key l.rest.now (drop l.i counts) ≡ mark ∷ rest = rw (split.front, split.back) (marks_here counts l.i inside key l.rest.now) in (
      omega (arith, sum_here counts l.i inside, split.back_len),
      ap (λ (cells : List ℕ). all_rise (sheets_of cells (drop (l.i + 1) counts))) split.back ∙ taken.1,
      (λ z. sets (c.put.ensures z) (3 * (l.i + 1)) (report_of rest))
          ∙ report_step l.target l.i mark rest m.result.right m.result.missed m.result.false_positives m.ensures.right_is m.ensures.missed_is m.ensures.false_is
          ∙ sym (ap (λ (ms : List Marks). sets l.target (3 * l.i) (report_of ms)) here)
          ∙ l.invariant.2,
      omega (arith, l.invariant.3, ap (λ (ms : List Marks). (totals_of ms).right) here, total_right mark rest, m.ensures.right_is),
      omega (arith, l.invariant.4, ap (λ (ms : List Marks). (totals_of ms).missed) here, total_missed mark rest, m.ensures.missed_is),
      omega (arith, l.invariant.5, ap (λ (ms : List Marks). (totals_of ms).false_positives) here, total_false mark rest, m.ensures.false_is),
      omega (arith, m.ensures.right_is),
      omega (arith, m.ensures.missed_is),
      omega (arith, m.ensures.false_is),
    )

pub returns : goal.returns
unfolding report_of
returns c =
    let l = c.loop-i in
    let none = marks_end c.args.counts.now l.i (omega arith) c.args.key.list.now l.rest.now in
    let total = no_totals in
    let right = ap (λ (ms : List Marks). (totals_of ms).right) none in
    let missed = ap (λ (ms : List Marks). (totals_of ms).missed) none in
    let false_positives = ap (λ (ms : List Marks). (totals_of ms).false_positives) none in
    record {
      totals = same_marks _ _ (omega (arith, l.invariant.3)) (omega (arith, l.invariant.4)) (omega (arith, l.invariant.5));
      stored = sym (ap (λ (ms : List Marks). sets l.target (3 * l.i) (report_of ms)) none) ∙ l.invariant.2;
    }
