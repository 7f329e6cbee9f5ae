-- The hash method's table for any pattern, made for many moves at once: a bit of a word stands for a move.
use Rattle.std.specs.Prelude.{ℕ, ◌+◌, ◌*◌, ◌≤◌, ◌<◌, ◌≡◌, false, List, get_or}
use Rattle.bits.specs.Packed.{weight}
use Rattle.rules.specs.Pattern.{Pattern}
use Rattle.rules.specs.Hash.{meets, hash_again}
use Rattle.matcher.specs.Lined.{Words, Only}

-- A bit of `set` stands for each of the four words from cell `from` on, and is 1 for those in the set: `word` has every bit that
-- one of these has.
abbrev pub HasAll : List ℕ → ℕ → ℕ → ℕ → Type 0
HasAll cells from set word = (j e : ℕ) → j < 4 → weight set j ≡ 1 → weight (get_or cells (from + j) 0) e ≤ weight word e

-- cell 278 + 16 g + s is such a word for the set s of the four from cell 262 + 4 g on
abbrev pub Union : ℕ → List ℕ → Type 0
Union g cells = (s : ℕ) → s < 16 → HasAll cells (262 + 4 * g) s (get_or cells (278 + 16 * g + s) 0)

-- the 16 unions of four words are made
pub record United (g : ℕ) (before cells : List ℕ) : Type 0 where
  pub union : Union g cells
  pub only : Only (278 + 16 * g) (278 + 16 * g + 16) before cells

-- those of all 16 words
abbrev pub Unions : List ℕ → Type 0
Unions cells = (g : ℕ) → g < 4 → Union g cells

-- the words for the moves after d, and their unions
pub record LinedUp (w : Pattern) (d : ℕ) (before cells : List ℕ) : Type 0 where
  pub words : Words w (d + 1) 4 262 cells
  pub unions : Unions cells
  pub only : Only 256 342 before cells

-- no move from 1 to d meets the condition for B
abbrev pub NoneTo : Pattern → ℕ → ℕ → Type 0
NoneTo w B d = (e : ℕ) → 1 ≤ e → e ≤ d → meets w B e ≡ false

-- The 16 cells of the values whose first four bits are `high`. A bit of `unset` stands for the last four: where it is 0 the
-- cell holds its move, where it is 1 no move up to d meets the condition.
pub record Row (w : Pattern) (d high unset : ℕ) (cells : List ℕ) : Type 0 where
  pub entered : (low : ℕ) → low < 16 → weight unset low ≡ 0 → get_or cells (16 * high + low) 0 ≡ hash_again w (16 * high + low)
  pub waits : (low : ℕ) → low < 16 → weight unset low ≡ 1 → NoneTo w (16 * high + low) d

-- The row while its moves are entered: the cells before the one of `next` have the 57 moves after d too.
pub record Part (w : Pattern) (d high next unset : ℕ) (cells : List ℕ) : Type 0 where
  pub row : Row w d high unset cells
  pub passed : (low : ℕ) → low < next → weight unset low ≡ 1 → NoneTo w (16 * high + low) (d + 57)

-- the moves up to d are entered in all 16 rows, whose cells without a move yet are told by those from 342 on
abbrev pub Settled : Pattern → ℕ → List ℕ → Type 0
Settled w d cells = (high : ℕ) → high < 16 → Row w d high (get_or cells (342 + high) 0) cells

-- each cell has its move
abbrev pub AllEntered : List ℕ → Type 0
AllEntered cells = (high : ℕ) → high < 16 → get_or cells (342 + high) 0 ≡ 0

-- the 57 moves after d are entered in four cells of a row, whatever the pattern that the words are of
pub record FourMade (d high g unset : ℕ) (before : List ℕ) (kept : ℕ) (cells : List ℕ) : Type 0 where
  pub part : (w : Pattern) → 1 ≤ w.count → Words w (d + 1) 4 262 before → Part w d high (4 * g) unset before → Part w d high (4 * g + 4) kept cells
  pub only : Only (16 * high) (16 * high + 16) before cells

-- in the whole row
pub record RowMade (d high unset : ℕ) (before : List ℕ) (kept : ℕ) (cells : List ℕ) : Type 0 where
  pub row : (w : Pattern) → 1 ≤ w.count → Words w (d + 1) 4 262 before → Row w d high unset before → Row w (d + 57) high kept cells
  pub only : Only (16 * high) (16 * high + 16) before cells

-- and in all rows; where `unset` is 0 each cell has its move
pub record RowsMade (d : ℕ) (before : List ℕ) (unset : ℕ) (cells : List ℕ) : Type 0 where
  pub settled : (w : Pattern) → 1 ≤ w.count → Words w (d + 1) 4 262 before → Settled w d before → Settled w (d + 57) cells
  pub all : unset ≡ 0 → AllEntered cells
  pub only : Only 0 358 before cells

-- no cell has its move yet
pub record AllUnset (before cells : List ℕ) : Type 0 where
  pub unset : (high : ℕ) → high < 16 → get_or cells (342 + high) 0 ≡ 65535
  pub only : Only 342 358 before cells
