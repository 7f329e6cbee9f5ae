-- An accepted call of the marking from C is a call of the library's that was accepted, so what holds of that holds here.
-- Assumes nothing.
use Prim.Native.Nat.{ℕ, ◌<◌}
use mathlib.Core.Path.{◌≡◌, refl}
use mathlib.Core.Bool.{Bool, true, false}
use mathlib.Core.List.{List}
use native.Mathlib.Omega.{arith}
use lib.Dec.{ltb}
use lib.ListN.{length}
use Rattle.positions.specs.Rising.{rising}
use Rattle.marking.specs.Marks.{Marks}
use Rattle.marking.specs.Sitting.{Verdict, refused, marked, verdict, totals_of}
use Rattle.marking.specs.Promise.{report_after}
use Rattle.marking.specs.Holds.{sheet_at, Holds}
use Rattle.marking.proofs.Reporting.{same_marks}
use Rattle.marking.proofs.Holds.{judged, holds_of, refused_least, sheet_rises}
use Rattle.capi.specs.Told.{Tells}
use Rattle.capi.specs.Sitting.{sitting_tells, sitting_verdict, SittingMarked, told_totals}

record Accepted (key sheets counts report report' answer' : List ℕ) : Type 0 where
  ms : List Marks
  is : verdict key sheets counts (length report) ≡ marked ms
  report_is : report' ≡ report_after (marked ms) report
  totals_are : told_totals answer' ≡ totals_of ms

accepted : {key sheets counts report answer report' answer' : List ℕ} → SittingMarked key sheets counts report answer 0 report' answer'
    → Accepted key sheets counts report report' answer'
unfolding sitting_verdict
accepted {key} {sheets} {counts} {report} {answer} {report'} {answer'} s = go (ltb (length answer) 3) refl
  where
    own : (v : Verdict) → verdict key sheets counts (length report) ≡ v → Tells (sitting_tells v) answer 0 answer'
        → report' ≡ report_after v report → Accepted key sheets counts report report' answer'
    own (refused k) e t b = absurd (omega (arith, t.result_is, refused_least key sheets counts (length report) k e))
    own (marked ms) e t b = record { ms = ms; is = e; report_is = b; totals_are = rw t.answer_is (same_marks _ _ refl refl refl) }

    go : (few : Bool) → ltb (length answer) 3 ≡ few → Accepted key sheets counts report report' answer'
    go true h = absurd (omega (arith, rw h at s.tells.result_is))
    go false h = own (verdict key sheets counts (length report)) refl (rw h at s.tells) (rw h at s.report_is)

pub marked_holds : {key sheets counts report answer report' answer' : List ℕ} → SittingMarked key sheets counts report answer 0 report' answer'
    → Holds key sheets counts report report' (told_totals answer')
marked_holds {key} {sheets} {counts} {report} {answer} {report'} {answer'} s =
    let a = accepted s in
    holds_of key sheets counts report report' a.ms (judged key sheets counts (length report) a.ms a.is) a.report_is (told_totals answer') a.totals_are

-- and each sheet of it rises
pub marked_rises : {key sheets counts report answer report' answer' : List ℕ} → SittingMarked key sheets counts report answer 0 report' answer'
    → (i : ℕ) → i < length counts → rising (sheet_at sheets counts i) ≡ true
marked_rises {key} {sheets} {counts} {report} s i h =
    let a = accepted s in
    sheet_rises counts sheets i h (judged key sheets counts (length report) a.ms a.is).sheets_rise
