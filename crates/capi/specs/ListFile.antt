-- The position list file: the byte count that a list needs, the writer and the reader.
use Rattle.std.specs.Prelude.{ℕ, ◌≤◌, ◌≡◌, List, [], ◌∷◌, ◌++◌, length, drop, get_or}
use Rattle.positions.specs.Basics.{Result, fault}
use Rattle.positions.specs.Encode.{encode}
use Rattle.positions.specs.Decode.{contents, decode}
use Rattle.positions.specs.BadFileFirst.{GoodWithFewCells}
use Rattle.positions.specs.Promise.{Answer, count, refused, size_answer, write_answer, leaves, read_answer, read_cells}
use Rattle.capi.specs.Told.{answer_cells_missing, Told, gives, refuses, unless_cells, Tells}

-- one answer cell: the count
abbrev pub count_tells : Answer → Told
count_tells (refused number) = refuses number
count_tells (count n) = gives (n ∷ [])

-- What `mitongory_list_size` tells: 101 first, then refusal 8, or the byte count.
unfoldable pub size_told : List ℕ → List ℕ → Told
size_told list answer = count_tells (unless_cells 1 answer (refused answer_cells_missing) (size_answer list))

-- the writer: 101 first, then refusal 8 or 9, or the byte count
unfoldable pub write_verdict : List ℕ → List ℕ → List ℕ → Answer
write_verdict list target answer =
    unless_cells 1 answer (refused answer_cells_missing) (write_answer list (length target))

-- The promise of `mitongory_list_write`, for a target and answer cells that are `target'` and `answer'` at exit.
pub record ListWritten (list target answer : List ℕ) (result : ℕ) (target' answer' : List ℕ) : Type 0 where
  pub tells : Tells (count_tells (write_verdict list target answer)) answer result answer'
  pub target_is : target' ≡ leaves (write_verdict list target answer) (encode list) target

-- the reader: 101 first, then refusals 10 to 14, or the list
unfoldable pub read_verdict : List ℕ → List ℕ → List ℕ → Result (List ℕ)
read_verdict file cells answer =
    unless_cells 1 answer (fault answer_cells_missing) (decode file (length cells))

-- The promise of `mitongory_list_read`, for cells and answer cells that are `cells'` and `answer'` at exit.
pub record ListRead (file cells answer : List ℕ) (result : ℕ) (cells' answer' : List ℕ) : Type 0 where
  pub tells : Tells (count_tells (read_answer (read_verdict file cells answer))) answer result answer'
  pub cells_is : cells' ≡ read_cells (read_verdict file cells answer) cells

-- What the result of a call of the reader that has an answer cell says of the file (document 02, A6): 10 to 13 are the fault of
-- the file, with no word of cells, and 14 is given exactly for a good file whose count is above the number of cells. The
-- theorem is `result_tells` in proofs/ListCalls.antt.
pub record ResultTells (file : List ℕ) (cells result : ℕ) : Type 0 where
  pub bad : (n : ℕ) → contents file ≡ fault n → result ≡ n
  pub fault_is : 10 ≤ result → result ≤ 13 → contents file ≡ fault result
  pub kept : GoodWithFewCells file cells → result ≡ 14
  pub only : result ≡ 14 → GoodWithFewCells file cells

-- ---- the writer and then the reader, or the reader and then the writer (demand 2), in what C sees

-- how many numbers an accepted call put into its buffer: the first answer cell
abbrev pub told : List ℕ → ℕ
told answer = get_or answer 0 0

-- A call that puts `new` into the front of a buffer: it returns 0, tells the length of `new`, and leaves the buffer's rest as
-- it was. The theorems are in proofs/ListCalls.antt: a call of the reader on the bytes that a call of the writer wrote
-- does that with the writer's list, and a call of the writer on the list that a call of the reader gave does it with the
-- reader's file.
pub record Puts (new before : List ℕ) (result : ℕ) (after answer : List ℕ) : Type 0 where
  pub result_is : result ≡ 0
  pub told_is : told answer ≡ length new
  pub buffer_is : after ≡ new ++ drop (length new) before
