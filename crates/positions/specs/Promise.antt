-- What each call promises: document 01's number of each refusal, the answers, and what stands in the buffers at exit.
use Rattle.std.specs.Prelude.{ℕ, ◌≡◌, List, ◌++◌, length, drop, leb, Ok, Err}
use Rattle.std.specs.Prelude as std
use Rattle.positions.specs.Basics.{pick, Result, ok, fault}
use Rattle.positions.specs.Rising.{rising}
use Rattle.positions.specs.Encode.{encode}
use Rattle.positions.specs.Decode.{decode}
use Rattle.positions.specs.declared.WriteRefusal.{WriteRefusal}
use Rattle.positions.specs.declared.WriteRefusal.TheVariants.{ListNotRising, TargetTooShort}
use Rattle.positions.specs.declared.ReadRefusal.{ReadRefusal}
use Rattle.positions.specs.declared.ReadRefusal.TheVariants.{FileEndsEarly, NumberNotShortest, NumberTooLarge, BytesLeftOver, CellsMissing}

-- an answer as document 01 has it: a count, or a refusal by its number
pub data Answer : Type 0 where
  count : ℕ → Answer
  refused : ℕ → Answer

-- ---- the number of each refusal, from document 01's table, and the answers of the code

abbrev pub write_refusal : WriteRefusal → ℕ
write_refusal ListNotRising = 8
write_refusal TargetTooShort = 9

abbrev pub read_refusal : ReadRefusal → ℕ
read_refusal FileEndsEarly = 10
read_refusal NumberNotShortest = 11
read_refusal NumberTooLarge = 12
read_refusal BytesLeftOver = 13
read_refusal CellsMissing = 14

abbrev pub size_gives : std.Result ℕ WriteRefusal → Answer
size_gives (Ok n) = count n
size_gives (Err r) = refused (write_refusal r)

abbrev pub write_gives : std.Result ℕ WriteRefusal → Answer
write_gives (Ok n) = count n
write_gives (Err r) = refused (write_refusal r)

abbrev pub read_gives : std.Result ℕ ReadRefusal → Answer
read_gives (Ok n) = count n
read_gives (Err r) = refused (read_refusal r)

-- ---- the writer: document 01: "Writer: 8 before 9. The writer returns its byte count, .. target bytes .. past that stay"

-- the byte count that a list needs, by itself, so that a caller can lend the right target
unfoldable pub size_answer : List ℕ → Answer
size_answer l = pick (rising l) (count (length (encode l))) (refused 8)

-- the writer's answer, for a target of so many bytes
unfoldable pub write_answer : List ℕ → ℕ → Answer
write_answer l room =
    pick (rising l) (pick (leb (length (encode l)) room) (count (length (encode l))) (refused 9)) (refused 8)

-- a buffer at exit: what is new and then what stays, or after a refusal all as it was
unfoldable pub leaves : Answer → List ℕ → List ℕ → List ℕ
leaves (count n) new old = new ++ drop n old
leaves (refused r) new old = old

-- the promise of `write`, for a target that is `before` at entry and `after` at exit
pub record Writes (list before : List ℕ) (w : std.Result ℕ WriteRefusal) (after : List ℕ) : Type 0 where
  pub answer : write_gives w ≡ write_answer list (length before)
  pub target : after ≡ leaves (write_answer list (length before)) (encode list) before

-- ---- the reader: document 01: "the reader [returns] the list's count; .. cells past that stay"

unfoldable pub read_answer : Result (List ℕ) → Answer
read_answer (ok l) = count (length l)
read_answer (fault n) = refused n

-- the cells at exit
unfoldable pub read_cells : Result (List ℕ) → List ℕ → List ℕ
read_cells (ok l) cells = l ++ drop (length l) cells
read_cells (fault n) cells = cells

-- the promise of `read`, for cells that are `before` at entry and `after` at exit
pub record Reads (file before : List ℕ) (r : std.Result ℕ ReadRefusal) (after : List ℕ) : Type 0 where
  pub answer : read_gives r ≡ read_answer (decode file (length before))
  pub cells : after ≡ read_cells (decode file (length before)) before
