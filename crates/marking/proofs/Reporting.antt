-- Laws of what a sheet comes to, and of the report and its totals at an index.
use Prim.Native.Nat.{ℕ, ◌+◌, ◌*◌, ◌≤◌, ◌<◌}
use mathlib.Core.Path.{◌≡◌, refl, sym, ap}
use mathlib.Core.Bool.{true}
use mathlib.Core.List.{List, [], ◌∷◌}
use native.Mathlib.Omega.{arith}
use lib.ListN.{length, get_or, take, drop}
use lib.Seq.{sets}
use Rattle.positions.specs.Basics.{limit}
use Rattle.positions.specs.Rising.{rising}
use Rattle.positions.proofs.Rising.{rises_length}
use Rattle.positions.proofs.Stores.{sets_append}
use Rattle.marking.specs.Marks.{Marks, marks}
use Rattle.marking.specs.Sitting.{sum, all_marks, report_of, totals_of}
use Rattle.marking.proofs.Members.{both_only, both_swap}
use Rattle.marking.proofs.Counting.{sheets_here, sheets_end}

-- ---- one sheet

pub rising_length : (l : List ℕ) → rising l ≡ true → length l ≤ limit
unfolding rising
rising_length l e = omega (arith, rises_length 0 l (omega arith) e)

-- document 02: "right + missed equals the key's length, and right + false the sheet's"
pub right_missed : (key sheet : List ℕ) → (marks key sheet).right + (marks key sheet).missed ≡ length key
unfolding marks
right_missed key sheet = both_only key sheet

pub right_false : (key sheet : List ℕ) → rising key ≡ true → rising sheet ≡ true
    → (marks key sheet).right + (marks key sheet).false_positives ≡ length sheet
unfolding marks
right_false key sheet e f = omega (arith, ap length (both_swap key sheet e f), both_only sheet key)

-- so, for what was counted as right
pub record Parts (key sheet : List ℕ) (right : ℕ) : Type 0 where
  pub key_short : length key ≤ limit
  pub sheet_short : length sheet ≤ limit
  pub in_key : right + (marks key sheet).missed ≡ length key
  pub on_sheet : right + (marks key sheet).false_positives ≡ length sheet

pub parts : (key sheet : List ℕ) (right : ℕ) → rising key ≡ true → rising sheet ≡ true → right ≡ (marks key sheet).right → Parts key sheet right
parts key sheet right e f r =
    record {
      key_short = rising_length key e;
      sheet_short = rising_length sheet f;
      in_key = omega (arith, right_missed key sheet);
      on_sheet = omega (arith, right_false key sheet e f);
    }

-- and no number of a sheet is above 2^30
pub record Small (m : Marks) : Type 0 where
  pub right_most : m.right ≤ limit
  pub missed_most : m.missed ≤ limit
  pub false_most : m.false_positives ≤ limit

pub small : (key sheet : List ℕ) → rising key ≡ true → rising sheet ≡ true → Small (marks key sheet)
small key sheet e f =
    let p = parts key sheet (marks key sheet).right e f refl in
    record { right_most = omega arith; missed_most = omega arith; false_most = omega arith }

-- ---- the sheets that are left

module _ (counts : List ℕ) (i : ℕ) (h : i < length counts) where
  pub marks_here : (key cells : List ℕ)
      → all_marks key cells (drop i counts)
      ≡ marks key (take (get_or counts i 0) cells) ∷ all_marks key (drop (get_or counts i 0) cells) (drop (i + 1) counts)
  unfolding all_marks
  marks_here key cells = rw (sheets_here counts i h cells)

pub marks_end : (counts : List ℕ) (i : ℕ) → length counts ≤ i → (key cells : List ℕ) → all_marks key cells (drop i counts) ≡ []
unfolding all_marks
marks_end counts i h key cells = rw (sheets_end counts i h cells)

-- ---- the report and the totals

pub report_step : (target : List ℕ) (i : ℕ) (m : Marks) (ms : List Marks) (r n f : ℕ) → r ≡ m.right → n ≡ m.missed → f ≡ m.false_positives
    → sets (sets target (3 * i) (r ∷ n ∷ f ∷ [])) (3 * (i + 1)) (report_of ms) ≡ sets target (3 * i) (report_of (m ∷ ms))
unfolding report_of
report_step target i m ms r n f a b c =
    let next : 3 * (i + 1) ≡ 3 * i + 3 = omega arith in
    rw (next, a, b, c) (sym (sets_append (m.right ∷ m.missed ∷ m.false_positives ∷ []) (report_of ms) target (3 * i)))

pub total_right : (m : Marks) (ms : List Marks) → (totals_of (m ∷ ms)).right ≡ m.right + (totals_of ms).right
unfolding totals_of sum
total_right m ms = refl

pub total_missed : (m : Marks) (ms : List Marks) → (totals_of (m ∷ ms)).missed ≡ m.missed + (totals_of ms).missed
unfolding totals_of sum
total_missed m ms = refl

pub total_false : (m : Marks) (ms : List Marks) → (totals_of (m ∷ ms)).false_positives ≡ m.false_positives + (totals_of ms).false_positives
unfolding totals_of sum
total_false m ms = refl

pub no_totals : ((totals_of []).right ≡ 0) × ((totals_of []).missed ≡ 0) × ((totals_of []).false_positives ≡ 0)
unfolding totals_of sum
no_totals = (refl, refl, refl)

-- three numbers that are equal
pub same_marks : (m n : Marks) → m.right ≡ n.right → m.missed ≡ n.missed → m.false_positives ≡ n.false_positives → m ≡ n
same_marks m n a b c z = record { right = a z; missed = b z; false_positives = c z }
