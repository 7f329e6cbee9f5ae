-- What the private functions promise each other: no public promise rests on it.
use Rattle.std.specs.Prelude.{ℕ, ◌+◌, ◌≤◌, ◌≡◌, List, length, take, drop}
use Rattle.marking.specs.Marks.{marks}
use Rattle.marking.specs.declared.report.SheetMarks.{SheetMarks}

-- the next eight positions, from an index of each list on, are there and are the same
pub record EightSame (key sheet : List ℕ) (i j : ℕ) : Type 0 where
  pub in_key : i + 8 ≤ length key
  pub in_sheet : j + 8 ≤ length sheet
  pub same : take 8 (drop i key) ≡ take 8 (drop j sheet)

-- what a sheet comes to, as numbers of 32 bits
pub record Sheet (key sheet : List ℕ) (m : SheetMarks) : Type 0 where
  pub right_is : m.right ≡ (marks key sheet).right
  pub missed_is : m.missed ≡ (marks key sheet).missed
  pub false_is : m.false_positives ≡ (marks key sheet).false_positives
