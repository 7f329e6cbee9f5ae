-- What each method's tables hold. They lie in the first cells of the scratch, as many as `scratch_cells` has for the method.
use Rattle.std.specs.Prelude.{ℕ, zero, suc, ◌+◌, ◌-◌, ◌*◌, ◌/◌, ◌%◌, ◌≤◌, ◌<◌, ◌≡◌, Bool, ◌&&◌, cond, List, leb, ltb, eqb, length, get_or, drop}
use Rattle.bits.specs.Packed.{bits_at, bit_of, weight}
use Rattle.rules.specs.declared.Method.{Method}
use Rattle.rules.specs.declared.Method.TheVariants.{Plain, Hash, Skip, Wide, Tail}
use Rattle.rules.specs.Ranges.{implies, every}
use Rattle.rules.specs.Pattern.{Pattern, agrees}
use Rattle.rules.specs.Plain.{row_bit, mask_bit}
use Rattle.rules.specs.Hash.{hash_again}
use Rattle.rules.specs.Wild.{AllFixed}
use Rattle.rules.specs.Scratch.{scratch_cells}
use Rattle.matcher.specs.Lined.{Words}

-- plain: how many cells of eight row bytes the longest row takes
abbrev pub row_chunks : ℕ → ℕ
row_chunks m = (m + 70) / 64

-- plain: cell 16 k + i holds the bytes 8 k to 8 k + 7 of row i, and cell 16 k + 8 + i those of its mask, the first byte highest
pub record PlainTables (w : Pattern) (cells : List ℕ) : Type 0 where
  pub row_is : (i k j : ℕ) → i < 8 → k < row_chunks w.count → j < 64
      → bit_of 64 (get_or cells (16 * k + i) 0) j ≡ row_bit w i (8 * k + j / 8) (j % 8)
  pub mask_is : (i k j : ℕ) → i < 8 → k < row_chunks w.count → j < 64
      → bit_of 64 (get_or cells (16 * k + 8 + i) 0) j ≡ mask_bit w i (8 * k + j / 8) (j % 8)

-- hash: in cell B the least d in 1..m that meets the condition for B. Where H(B) is not 0 this is H(B), else the move after a comparison, G.
pub record HashTables (w : Pattern) (cells : List ℕ) : Type 0 where
  pub move_is : (B : ℕ) → B < 256 → get_or cells B 0 ≡ hash_again w B

-- one more than the greatest number below k at which f passes, or 0
unfoldable pub last_below : (ℕ → Bool) → ℕ → ℕ
last_below f zero = 0
last_below f (suc k) = cond (f k) (suc k) (last_below f k)

-- skip: the pattern from index k on shows the byte B
unfoldable pub shows_byte : Pattern → ℕ → ℕ → Bool
shows_byte w B k = every 8 (λ j. agrees w (k + j) (bit_of 8 B j))

-- its eight bits from index k on are the byte B: where they are fixed, it shows just that one
unfoldable pub in_chain : Pattern → ℕ → ℕ → Bool
in_chain w B k = eqb (bits_at w.bytes k 8) B

-- skip: a step from a mark 8 b + 1 has so many places, and the chains hold as many indices
unfoldable pub chained : ℕ → ℕ
chained m = (m + 1) / 8 * 8 - 8

-- skip, every bit being fixed: in cell B the head of the chain of B, highest index first, and in cell 256 + j the link after index j
pub record ChainTables (w : Pattern) (cells : List ℕ) : Type 0 where
  pub all_fixed : AllFixed w
  pub head_is : (B : ℕ) → B < 256 → get_or cells B 0 ≡ last_below (in_chain w B) (chained w.count)
  pub link_is : (j : ℕ) → j < chained w.count → get_or cells (256 + j) 0 ≡ last_below (in_chain w (bits_at w.bytes j 8)) j

-- skip, for any pattern: in the cells from 22 k + 6 on the words of four bits for the moves from 57 k on. Index m − 8 − d shows a
-- byte just if the byte meets hash's condition on the move d: after it the bits from that index on lie where the pattern's last
-- eight lay.
pub record WordTables (w : Pattern) (cells : List ℕ) : Type 0 where
  pub words_are : (k : ℕ) → 57 * k + 8 ≤ w.count → Words w (57 * k) 4 (22 * k + 6) cells

-- skip has one of the two, told by cell 255 + m, which neither uses
pub record SkipTables (w : Pattern) (cells : List ℕ) : Type 0 where
  pub chains : get_or cells (255 + w.count) 0 ≡ 0 → ChainTables w cells
  pub words : (get_or cells (255 + w.count) 0 ≡ 0 → ⊥) → WordTables w cells

-- the window bit q, being c, leaves flag i standing: q − i is no index of the pattern, or c agrees with its bit there
unfoldable pub passes : Pattern → ℕ → ℕ → ℕ → Bool
passes w c q i = implies (leb i q && ltb (q - i) w.count) (agrees w (q - i) c)

-- wide: in cell 2 q + c the flags that window bit q leaves standing if it is c
pub record WideTables (w : Pattern) (cells : List ℕ) : Type 0 where
  pub flags_are : (q c i : ℕ) → q < 63 + w.count → c < 2 → i < 64 → weight (get_or cells (2 * q + c) 0) i ≡ cond (passes w c q i) 1 0

-- tail: bit j from the left of cell c is 1 where j is an index of the pattern and a text bit c agrees with it there
pub record TailTables (w : Pattern) (cells : List ℕ) : Type 0 where
  pub mask_is : (c j : ℕ) → c < 2 → j < 64 → bit_of 64 (get_or cells c 0) j ≡ cond (ltb j w.count && agrees w j c) 1 0

abbrev pub Tables : Method → Pattern → List ℕ → Type 0
Tables Plain w cells = PlainTables w cells
Tables Hash w cells = HashTables w cells
Tables Skip w cells = SkipTables w cells
Tables Wide w cells = WideTables w cells
Tables Tail w cells = TailTables w cells

-- the tables are made, and the cells after them are as they were
pub record Prepared (x : Method) (w : Pattern) (before cells : List ℕ) : Type 0 where
  pub tables : Tables x w cells
  pub size : length cells ≡ length before
  pub rest : drop (scratch_cells x w.count) cells ≡ drop (scratch_cells x w.count) before
