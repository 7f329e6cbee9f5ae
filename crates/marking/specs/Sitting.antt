-- A sitting: the sheets, their report and its totals, and when it is refused, in document 02's order.
use Rattle.std.specs.Prelude.{ℕ, ◌+◌, ◌*◌, Bool, true, ◌&&◌, not, cond, List, [], ◌∷◌, map, ltb, eqb, length, take, drop}
use Rattle.positions.specs.Rising.{rising}
use Rattle.marking.specs.Marks.{Marks, marks}

unfoldable pub sum : List ℕ → ℕ
sum [] = 0
sum (n ∷ ns) = n + sum ns

-- "all sheets lie in one run of cells with a count for each": the sheets, one by one
unfoldable pub sheets_of : List ℕ → List ℕ → List (List ℕ)
sheets_of sheets [] = []
sheets_of sheets (count ∷ counts) = take count sheets ∷ sheets_of (drop count sheets) counts

-- whether each sheet rises by itself ("A sheet is a rising list of positions")
unfoldable pub all_rise : List (List ℕ) → Bool
all_rise [] = true
all_rise (sheet ∷ others) = rising sheet && all_rise others

-- what each sheet comes to, in turn
unfoldable pub all_marks : List ℕ → List ℕ → List ℕ → List Marks
all_marks key sheets counts = map (marks key) (sheets_of sheets counts)

-- "For each sheet, in turn, the report gives three 32-bit cells: right .., missed .. and false"
unfoldable pub report_of : List Marks → List ℕ
report_of [] = []
report_of (m ∷ ms) = m.right ∷ m.missed ∷ m.false_positives ∷ report_of ms

-- "three 64-bit totals over the sitting, equal to the sums"
unfoldable pub totals_of : List Marks → Marks
totals_of ms =
    record {
      right = sum (map (λ (m : Marks). m.right) ms);
      missed = sum (map (λ (m : Marks). m.missed) ms);
      false_positives = sum (map (λ (m : Marks). m.false_positives) ms);
    }

-- a refusal with its number, or what the sheets come to
pub data Verdict : Type 0 where
  refused : ℕ → Verdict
  marked : List Marks → Verdict

-- "A key or sheet that doesn't rise strictly, or holds 2^30 or more, gets 8, and a report of fewer than three cells a sheet gets 9.
-- Refused: 15 above 256 sheets, then 16 when the counts don't add up to the cells, both before 8, and 9 last." The last argument is
-- how many cells the report has.
unfoldable pub verdict : List ℕ → List ℕ → List ℕ → ℕ → Verdict
verdict key sheets counts room =
    cond (ltb 256 (length counts)) (refused 15)
    (cond (not (eqb (sum counts) (length sheets))) (refused 16)
    (cond (not (rising key && all_rise (sheets_of sheets counts))) (refused 8)
    (cond (ltb room (3 * length counts)) (refused 9)
    (marked (all_marks key sheets counts)))))
