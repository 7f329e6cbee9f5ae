-- Demand 2 from one call to the next: what a call of `read` gives on the bytes that a call of `write` wrote, and what a call of
-- `write` gives on the list that a call of `read` accepted. The theorems are in proofs/CallToCall.antt.
use Rattle.std.specs.Prelude.{ℕ, ◌≡◌, true, List, ◌++◌, length, drop, Result, Ok}
use Rattle.positions.specs.Rising.{rising}
use Rattle.positions.specs.declared.WriteRefusal.{WriteRefusal}
use Rattle.positions.specs.declared.ReadRefusal.{ReadRefusal}

-- "those bytes give the list back": the answer is the list's count, the first cells are that very list, and the cells after
-- them stay
pub record GivesBack (list before : List ℕ) (r : Result ℕ ReadRefusal) (after : List ℕ) : Type 0 where
  pub answer : r ≡ Ok (length list)
  pub cells : after ≡ list ++ drop (length list) before

-- "the reader accepts only what the writer makes": the list rises, the answer is the file's byte count, the front of the
-- target is those very bytes, and the bytes after them stay
pub record MakesAgain (file list before : List ℕ) (w : Result ℕ WriteRefusal) (after : List ℕ) : Type 0 where
  pub rises : rising list ≡ true
  pub answer : w ≡ Ok (length file)
  pub target : after ≡ file ++ drop (length file) before
