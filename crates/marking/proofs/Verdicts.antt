-- Laws of the verdict and of what the call promises by it.
use Prim.Native.Nat.{ℕ, ◌*◌, ◌≤◌, ◌<◌}
use mathlib.Core.Path.{◌≡◌, refl, sym, ap, ◌∙◌}
use mathlib.Core.Bool.{true, false, ◌&&◌}
use mathlib.Core.List.{List, [], ◌∷◌}
use native.Mathlib.Omega.{arith}
use borrow.Author.Tests.{lt-ltb, le-ltb}
use lib.Dec.{eqb}
use lib.ListN.{length, drop, length-map}
use lib.Seq.{sets}
use Rattle.positions.specs.Rising.{rising}
use Rattle.positions.proofs.Stores.{sets_front}
use Rattle.marking.specs.Marks.{Marks, marks}
use Rattle.marking.specs.Sitting.{sum, sheets_of, all_rise, all_marks, report_of, totals_of, Verdict, refused, marked, verdict}
use Rattle.marking.specs.Promise.{totals, mark_refusal, totalled, answer_of, report_after, MarksSitting}
use Rattle.marking.specs.declared.MarkRefusal.{MarkRefusal}
use Rattle.marking.specs.declared.Totals.{Totals}
use Rattle.std.specs.Prelude.{Ok, Err}

-- ---- the first condition that holds

module _ (key cells counts : List ℕ) (room : ℕ) where
  pub many_sheets : 256 < length counts → verdict key cells counts room ≡ refused 15
  unfolding verdict
  many_sheets h = rw (lt-ltb 256 (length counts) h)

  module _ (few : length counts ≤ 256) where
    pub counts_differ : eqb (sum counts) (length cells) ≡ false → verdict key cells counts room ≡ refused 16
    unfolding verdict
    counts_differ h = rw (le-ltb 256 (length counts) few, h)

    module _ (same : eqb (sum counts) (length cells) ≡ true) where
      pub not_rising : (rising key && all_rise (sheets_of cells counts)) ≡ false → verdict key cells counts room ≡ refused 8
      unfolding verdict
      not_rising h = rw (le-ltb 256 (length counts) few, same, h)

      module _ (rise : (rising key && all_rise (sheets_of cells counts)) ≡ true) where
        pub report_short : room < 3 * length counts → verdict key cells counts room ≡ refused 9
        unfolding verdict
        report_short h = rw (le-ltb 256 (length counts) few, same, rise, lt-ltb room (3 * length counts) h)

        pub all_marked : 3 * length counts ≤ room → verdict key cells counts room ≡ marked (all_marks key cells counts)
        unfolding verdict
        all_marked h = rw (le-ltb 256 (length counts) few, same, rise, le-ltb room (3 * length counts) h)

-- "No sheets at all is accepted", whatever the report, "and the key is still judged"
pub no_sheets : (key : List ℕ) (room : ℕ) → rising key ≡ true → verdict key [] [] room ≡ marked []
unfolding verdict sum sheets_of all_rise all_marks
no_sheets key room e = rw (e, le-ltb room 0 (omega arith))

pub no_sheets_falling : (key : List ℕ) (room : ℕ) → rising key ≡ false → verdict key [] [] room ≡ refused 8
unfolding verdict sum
no_sheets_falling key room e = rw e

-- ---- the report has three cells for each sheet

length_sheets : (counts cells : List ℕ) → length (sheets_of cells counts) ≡ length counts
unfolding sheets_of
length_sheets [] cells = refl
length_sheets (c ∷ cs) cells = omega (arith, length_sheets cs (drop c cells))

pub length_marks : (key counts cells : List ℕ) → length (all_marks key cells counts) ≡ length counts
unfolding all_marks
length_marks key counts cells = length-map (sheets_of cells counts) (marks key) ∙ length_sheets counts cells

pub length_report : (ms : List Marks) → length (report_of ms) ≡ 3 * length ms
unfolding report_of
length_report [] = refl
length_report (m ∷ ms) = omega (arith, length_report ms)

-- ---- what the call promises

module _ (key cells counts before : List ℕ) where
  pub marks_refused : (why : MarkRefusal) → verdict key cells counts (length before) ≡ refused (mark_refusal why)
      → MarksSitting key cells counts before (Err why) before
  marks_refused why e = record { answer = sym (ap answer_of e); report = sym (ap (λ (v : Verdict). report_after v before) e) }

  pub marks_all : (t : Totals) → verdict key cells counts (length before) ≡ marked (all_marks key cells counts)
      → totalled t ≡ totals_of (all_marks key cells counts)
      → 3 * length counts ≤ length before
      → MarksSitting key cells counts before (Ok t) (sets before 0 (report_of (all_marks key cells counts)))
  marks_all t e s h =
      let ms = all_marks key cells counts in
      let long : length (report_of ms) ≤ length before = omega (arith, length_report ms, length_marks key counts cells) in
      record {
        answer = ap totals s ∙ sym (ap answer_of e);
        report = sets_front (report_of ms) before long ∙ sym (ap (λ (v : Verdict). report_after v before) e);
      }
