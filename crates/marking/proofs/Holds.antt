-- What holds of every accepted call.
use Prim.Native.Nat.{ℕ, zero, suc, ◌+◌, ◌*◌, ◌-◌, ◌≤◌, ◌<◌}
use mathlib.Core.Path.{◌≡◌, refl, sym, ap, ◌∙◌}
use mathlib.Core.Bool.{Bool, true, false, ◌&&◌}
use mathlib.Core.Logic.{◌⊎◌, inl, inr}
use mathlib.Core.List.{List, [], ◌∷◌, ◌++◌, map}
use native.Mathlib.Omega.{arith}
use native.Mathlib.Decide.{dec_le}
use borrow.Author.Tests.{eqb-true}
use lib.Dec.{eqb}
use lib.ListN.{length, get_or, take, drop, length-drop, take-append-drop, get_or-append, get_or-map}
use lib.Seq.{get_or-append-add, get_or-drop, length-take-le}
use Rattle.positions.specs.Rising.{rising}
use Rattle.positions.proofs.Rising.{and_both}
use Rattle.marking.specs.declared.Totals.{Totals}
use Rattle.std.specs.Prelude.{Ok}
use Rattle.marking.specs.Marks.{Marks, marks}
use Rattle.marking.specs.Sitting.{sum, sheets_of, all_rise, all_marks, report_of, totals_of, Verdict, refused, marked, verdict}
use Rattle.marking.specs.Promise.{totalled, answer_of, report_after, MarksSitting}
use Rattle.marking.specs.Holds.{sheet_at, together, cell, column, Holds}
use Rattle.marking.proofs.Members.{only_itself}
use Rattle.marking.proofs.Reporting.{right_missed, right_false}
use Rattle.marking.proofs.Verdicts.{many_sheets, counts_differ, not_rising, report_short, all_marked, length_marks, length_report}

-- ---- an accepted call's input

pub record Judged (key cells counts : List ℕ) (room : ℕ) (ms : List Marks) : Type 0 where
  pub few : length counts ≤ 256
  pub same : sum counts ≡ length cells
  pub key_rises : rising key ≡ true
  pub sheets_rise : all_rise (sheets_of cells counts) ≡ true
  pub fits : 3 * length counts ≤ room
  pub are : ms ≡ all_marks key cells counts

-- the verdict is one of the four refusals, or that of a good input
decided : (key cells counts : List ℕ) (room : ℕ)
    → ((k : ℕ) × (8 ≤ k) × (verdict key cells counts room ≡ refused k))
    ⊎ (Judged key cells counts room (all_marks key cells counts) × (verdict key cells counts room ≡ marked (all_marks key cells counts)))
decided key cells counts room =
    elim (dec_le (length counts) 256) [
      | yes few ↦ counted few (eqb (sum counts) (length cells)) refl
      | no h ↦ inl (15, omega arith, many_sheets key cells counts room (omega arith))
    ]
  where
    Decided : Type 0
    Decided =
        ((k : ℕ) × (8 ≤ k) × (verdict key cells counts room ≡ refused k))
        ⊎ (Judged key cells counts room (all_marks key cells counts) × (verdict key cells counts room ≡ marked (all_marks key cells counts)))

    risen : (few : length counts ≤ 256) (same : eqb (sum counts) (length cells) ≡ true) (b : Bool) → (rising key && all_rise (sheets_of cells counts)) ≡ b → Decided
    risen few same false h = inl (8, omega arith, not_rising key cells counts room few same h)
    risen few same true h =
        let r = and_both (rising key) (all_rise (sheets_of cells counts)) h in
        elim (dec_le (3 * length counts) room) [
          | yes fits ↦
              inr (
                record { few = few; same = eqb-true (sum counts) (length cells) same; key_rises = r.0; sheets_rise = r.1; fits = fits; are = refl },
                all_marked key cells counts room few same h fits,
              )
          | no f ↦ inl (9, omega arith, report_short key cells counts room few same h (omega arith))
        ]

    counted : length counts ≤ 256 → (b : Bool) → eqb (sum counts) (length cells) ≡ b → Decided
    counted few false h = inl (16, omega arith, counts_differ key cells counts room few h)
    counted few true h = risen few h (rising key && all_rise (sheets_of cells counts)) refl

pub judged : (key cells counts : List ℕ) (room : ℕ) (ms : List Marks) → verdict key cells counts room ≡ marked ms → Judged key cells counts room ms
judged key cells counts room ms e =
    elim (decided key cells counts room) [
      | inl r ↦ let f = r.2 in absurd (let z : ◌≡◌ {A = ℕ} 0 1 = cc in omega arith)
      | inr d ↦
          let f = d.1 in
          let same : all_marks key cells counts ≡ ms = cc in
          rw (← same) d.0
    ]

-- every refusal is one of 8, 9, 15, 16
pub refused_least : (key cells counts : List ℕ) (room k : ℕ) → verdict key cells counts room ≡ refused k → 8 ≤ k
refused_least key cells counts room k e =
    elim (decided key cells counts room) [
      | inl r ↦ let f = r.2 in let s : r.0 ≡ k = cc in omega (arith, r.1)
      | inr d ↦ let f = d.1 in absurd (let z : ◌≡◌ {A = ℕ} 0 1 = cc in omega arith)
    ]

-- ---- a sheet by its number

sheet_length : (counts cells : List ℕ) (i : ℕ) → i < length counts → sum counts ≤ length cells → length (sheet_at cells counts i) ≡ get_or counts i 0
unfolding sheets_of sum
sheet_length [] cells i h k = absurd (omega arith)
sheet_length (c ∷ cs) cells zero h k = length-take-le c cells (omega arith)
sheet_length (c ∷ cs) cells (suc i) h k = sheet_length cs (drop c cells) i (omega arith) (simp length-drop (omega arith))

pub sheet_rises : (counts cells : List ℕ) (i : ℕ) → i < length counts → all_rise (sheets_of cells counts) ≡ true → rising (sheet_at cells counts i) ≡ true
unfolding sheets_of all_rise
sheet_rises [] cells i h e = absurd (omega arith)
sheet_rises (c ∷ cs) cells zero h e = (and_both (rising (take c cells)) (all_rise (sheets_of (drop c cells) cs)) e).0
sheet_rises (c ∷ cs) cells (suc i) h e = sheet_rises cs (drop c cells) i (omega arith) (and_both (rising (take c cells)) (all_rise (sheets_of (drop c cells) cs)) e).1

sheets_together : (counts cells : List ℕ) → sum counts ≡ length cells → together (sheets_of cells counts) ≡ cells
unfolding sheets_of sum together
sheets_together [] [] k = refl
sheets_together [] (p ∷ ps) k = absurd (omega arith)
sheets_together (c ∷ cs) cells k =
    ap (λ (l : List ℕ). take c cells ++ l) (sheets_together cs (drop c cells) (simp length-drop (omega arith))) ∙ take-append-drop c cells

-- ---- a cell of the report, and a column

cells_of : Marks → List ℕ
cells_of m = m.right ∷ m.missed ∷ m.false_positives ∷ []

module _ (k : ℕ) (small : k < 3) where
  cell_at : (ms : List Marks) (rest : List ℕ) (i : ℕ) (d : Marks) → i < length ms
      → cell k (report_of ms ++ rest) i ≡ get_or (cells_of (get_or ms i d)) k 0
  unfolding report_of cells_of
  cell_at [] rest i d h = absurd (omega arith)
  cell_at (m ∷ ms) rest zero d h =
      let first : 3 * 0 + k ≡ k = omega arith in
      rw first (get_or-append (m.right ∷ m.missed ∷ m.false_positives ∷ []) (report_of ms ++ rest) 0 k small)
  cell_at (m ∷ ms) rest (suc i) d h =
      let next : 3 * suc i + k ≡ suc (suc (suc (3 * i + k))) = omega arith in
      rw next (cell_at ms rest i d (omega arith))

  column_on : (a b c : ℕ) (r : List ℕ) (i n : ℕ) → column k (a ∷ b ∷ c ∷ r) (suc i) n ≡ column k r i n
  unfolding column
  column_on a b c r i zero = refl
  column_on a b c r i (suc n) =
      let next : 3 * suc i + k ≡ suc (suc (suc (3 * i + k))) = omega arith in
      rw (next, column_on a b c r (suc i) n)

  column_sum : (ms : List Marks) (rest : List ℕ) → column k (report_of ms ++ rest) 0 (length ms) ≡ sum (map (λ (m : Marks). get_or (cells_of m) k 0) ms)
  unfolding column sum report_of
  column_sum [] rest = refl
  column_sum (m ∷ ms) rest =
      rw (cell_at (m ∷ ms) rest 0 m (omega arith), column_on m.right m.missed m.false_positives (report_of ms ++ rest) 0 (length ms), column_sum ms rest)

-- ---- the theorem

module _ (key cells counts before after : List ℕ) (ms : List Marks) (j : Judged key cells counts (length before) ms) (e : after ≡ report_of ms ++ drop (length (report_of ms)) before) where
  n_marks : length ms ≡ length counts
  n_marks = ap length j.are ∙ length_marks key counts cells

  at : (k i : ℕ) → k < 3 → i < length counts → cell k after i ≡ get_or (cells_of (marks key (sheet_at cells counts i))) k 0
  unfolding all_marks
  at k i small h =
      ap (λ (l : List ℕ). cell k l i) e
      ∙ cell_at k small ms (drop (length (report_of ms)) before) i (marks key []) (omega (arith, n_marks))
      ∙ ap (λ (l : List Marks). get_or (cells_of (get_or l i (marks key []))) k 0) j.are
      ∙ ap (λ (m : Marks). get_or (cells_of m) k 0) (get_or-map (marks key) (sheets_of cells counts) i [])

  total : (k : ℕ) → k < 3 → sum (map (λ (m : Marks). get_or (cells_of m) k 0) ms) ≡ column k after 0 (length counts)
  total k small =
      sym (column_sum k small ms (drop (length (report_of ms)) before))
      ∙ (λ z. column k (sym e z) 0 (n_marks z))

  later : (i : ℕ) → 3 * length counts ≤ i → get_or after i 0 ≡ get_or before i 0
  later i h =
      let long : length (report_of ms) ≡ 3 * length counts = omega (arith, length_report ms, n_marks) in
      let split : i ≡ length (report_of ms) + (i - length (report_of ms)) = omega arith in
      rw (e, split) (get_or-append-add (report_of ms) (drop (length (report_of ms)) before) (i - length (report_of ms)) 0 ∙ get_or-drop (length (report_of ms)) before (i - length (report_of ms)) 0)

  pub holds_of : (t : Marks) → t ≡ totals_of ms → Holds key cells counts before after t
  unfolding marks totals_of cells_of
  holds_of t s =
      record {
        sheet_length = λ i h. sheet_length counts cells i h (omega (arith, j.same));
        sheets_are = sheets_together counts cells j.same;
        right_are = λ i h. at 0 i (omega arith) h;
        missed_are = λ i h. at 1 i (omega arith) h;
        false_are = λ i h. at 2 i (omega arith) h;
        later_stay = later;
        total_right = ap (λ (m : Marks). m.right) s ∙ total 0 (omega arith);
        total_missed = ap (λ (m : Marks). m.missed) s ∙ total 1 (omega arith);
        total_false = ap (λ (m : Marks). m.false_positives) s ∙ total 2 (omega arith);
        right_missed = λ i h. omega (arith, at 0 i (omega arith) h, at 1 i (omega arith) h, right_missed key (sheet_at cells counts i));
        right_false =
            λ i h.
            omega (
              arith,
              at 0 i (omega arith) h,
              at 2 i (omega arith) h,
              right_false key (sheet_at cells counts i) j.key_rises (sheet_rises counts cells i h j.sheets_rise),
            );
        perfect =
            λ i h same.
            let none = only_itself key in
            (at 1 i (omega arith) h ∙ rw (same, none), at 2 i (omega arith) h ∙ rw (same, none));
      }

-- an accepted call's sheets rise, as does its key
pub record Accepts (key cells counts before after : List ℕ) (t : Totals) : Type 0 where
  pub holds : Holds key cells counts before after (totalled t)
  pub sheets_rise : (i : ℕ) → i < length counts → rising (sheet_at cells counts i) ≡ true

pub accepted_holds : (key cells counts before after : List ℕ) (t : Totals) → MarksSitting key cells counts before (Ok t) after
    → Accepts key cells counts before after t
accepted_holds key cells counts before after t m = go (verdict key cells counts (length before)) refl
  where
    go : (v : Verdict) → verdict key cells counts (length before) ≡ v → Accepts key cells counts before after t
    go (refused k) e = absurd (let q = m.answer ∙ ap answer_of e in let z : ◌≡◌ {A = ℕ} 0 1 = cc in omega arith)
    go (marked ms) e =
        let q = m.answer ∙ ap answer_of e in
        let j = judged key cells counts (length before) ms e in
        record {
          holds = holds_of key cells counts before after ms j (m.report ∙ ap (λ (v : Verdict). report_after v before) e) (totalled t) cc;
          sheets_rise = λ i h. sheet_rises counts cells i h j.sheets_rise;
        }

pub holds : (key cells counts before after : List ℕ) (t : Totals) → MarksSitting key cells counts before (Ok t) after
    → Holds key cells counts before after (totalled t)
holds key cells counts before after t m = (accepted_holds key cells counts before after t m).holds
