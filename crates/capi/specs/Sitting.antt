-- Marking a sitting: sheets against a key.
use Rattle.std.specs.Prelude.{ℕ, ◌≡◌, List, [], ◌∷◌, length, get_or}
use Rattle.marking.specs.Marks.{Marks}
use Rattle.marking.specs.Sitting.{Verdict, refused, verdict}
use Rattle.marking.specs.Promise.{Answer, totals, number, answer_of, report_after}
use Rattle.capi.specs.Told.{answer_cells_missing, Told, gives, refuses, unless_cells, Tells}

-- three answer cells, the totals: right, missed, false
abbrev pub totals_tell : Answer → Told
totals_tell (number k) = refuses k
totals_tell (totals t) = gives (t.right ∷ t.missed ∷ t.false_positives ∷ [])

abbrev pub sitting_tells : Verdict → Told
sitting_tells v = totals_tell (answer_of v)

-- 101 first, then refusals 15, 16, 8, 9, or what the sheets come to
unfoldable pub sitting_verdict : List ℕ → List ℕ → List ℕ → List ℕ → List ℕ → Verdict
sitting_verdict key sheets counts report answer =
    unless_cells 3 answer (refused answer_cells_missing) (verdict key sheets counts (length report))

-- The promise of `mitongory_mark_sitting`, for a report and answer cells that are `report'` and `answer'` at exit.
pub record SittingMarked (key sheets counts report answer : List ℕ) (result : ℕ) (report' answer' : List ℕ) : Type 0 where
  pub tells : Tells (sitting_tells (sitting_verdict key sheets counts report answer)) answer result answer'
  pub report_is : report' ≡ report_after (sitting_verdict key sheets counts report answer) report

-- The totals that an accepted call told. What holds of every accepted call of the library (`Holds` of the crate marking) holds here with
-- these totals: `marked_holds` of proofs/SittingCalls.antt.
abbrev pub told_totals : List ℕ → Marks
told_totals answer = record { right = get_or answer 0 0; missed = get_or answer 1 0; false_positives = get_or answer 2 0 }
