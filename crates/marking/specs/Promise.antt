-- What the call promises: the number of each refusal, the answer, and the report at exit.
use Rattle.std.specs.Prelude.{ℕ, ◌≡◌, Result, Ok, Err, List, ◌++◌, length, drop}
use Rattle.marking.specs.declared.MarkRefusal.{MarkRefusal}
use Rattle.marking.specs.declared.MarkRefusal.TheVariants.{TooManySheets, CountsDiffer, ListNotRising, TargetTooShort}
use Rattle.marking.specs.declared.Totals.{Totals}
use Rattle.marking.specs.Marks.{Marks}
use Rattle.marking.specs.Sitting.{Verdict, refused, marked, verdict, report_of, totals_of}

-- an answer as document 02 has it: three totals, or a refusal by its number
pub data Answer : Type 0 where
  totals : Marks → Answer
  number : ℕ → Answer

-- ---- the number of each refusal, and the answers of the code

abbrev pub mark_refusal : MarkRefusal → ℕ
mark_refusal TooManySheets = 15
mark_refusal CountsDiffer = 16
mark_refusal ListNotRising = 8
mark_refusal TargetTooShort = 9

abbrev pub totalled : Totals → Marks
totalled t = record { right = t.right; missed = t.missed; false_positives = t.false_positives }

abbrev pub mark_gives : Result Totals MarkRefusal → Answer
mark_gives (Ok t) = totals (totalled t)
mark_gives (Err r) = number (mark_refusal r)

-- ---- the answer and the report, by the verdict

abbrev pub answer_of : Verdict → Answer
answer_of (refused k) = number k
answer_of (marked ms) = totals (totals_of ms)

-- the report at exit: what the sheets come to and then the cells as they were ("later cells stay"), or after a refusal all as it was
abbrev pub report_after : Verdict → List ℕ → List ℕ
report_after (refused k) before = before
report_after (marked ms) before = report_of ms ++ drop (length (report_of ms)) before

-- the promise of `mark_sitting`, for a report that is `before` at entry and `after` at exit
pub record MarksSitting (key sheets counts before : List ℕ) (r : Result Totals MarkRefusal) (after : List ℕ) : Type 0 where
  pub answer : mark_gives r ≡ answer_of (verdict key sheets counts (length before))
  pub report : after ≡ report_after (verdict key sheets counts (length before)) before
