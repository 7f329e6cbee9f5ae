-- The key that a finished search gives, and what a sitting comes to against it. The theorems are in proofs/AnswerKey.antt.
use Rattle.std.specs.Prelude.{ℕ, ◌<◌, ◌≡◌, true, ◌↔◌, length}
use mathlib.Core.List.{List, Memᴰ}
use Rattle.bits.specs.Packed.{Packed}
use Rattle.rules.specs.Pattern.{Pattern}
use Rattle.rules.specs.Occurrence.{Occurs, occurs}
use Rattle.positions.specs.Rising.{rising}
use Rattle.marking.specs.Marks.{filter, marks}
use Rattle.marking.specs.Holds.{sheet_at, cell}

-- the occurrences on a sheet: those of its positions at which the pattern occurs
unfoldable pub occurring : Packed → Pattern → List ℕ → List ℕ
occurring t w sheet = filter (occurs t w) sheet

-- A list is the key of a text and a pattern: it holds just the occurrences, it is never refused as a key, and against it right
-- counts just the occurrences on the sheet, each once.
pub record IsKey (t : Packed) (w : Pattern) (key : List ℕ) : Type 0 where
  pub exactly : (p : ℕ) → Memᴰ p key ↔ Occurs t w p
  pub rises : rising key ≡ true
  pub right_is : (sheet : List ℕ) → rising sheet ≡ true → (marks key sheet).right ≡ length (occurring t w sheet)
  pub occurring_are : (sheet : List ℕ) (p : ℕ) → Memᴰ p (occurring t w sheet) ↔ (Memᴰ p sheet × Occurs t w p)
  pub occurring_rise : (sheet : List ℕ) → rising sheet ≡ true → rising (occurring t w sheet) ≡ true

-- The same in a report: the first cell of every sheet.
abbrev pub RightOccur : Packed → Pattern → List ℕ → List ℕ → List ℕ → Type 0
RightOccur t w sheets counts report =
    (i : ℕ) → i < length counts → cell 0 report i ≡ length (occurring t w (sheet_at sheets counts i))
