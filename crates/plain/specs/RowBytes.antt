-- The row bytes as they lie in the scratch after the tables are made, and what is claimed of each of their bits ("No copy of the
-- word at the start", document 02). The proof is in proofs/RowBytes.antt.
use Rattle.std.specs.Prelude.{ℕ, ◌+◌, ◌-◌, ◌*◌, ◌/◌, ◌%◌, ◌^◌, ◌<◌, ◌≡◌, ◌↔◌, List, get_or}
use Rattle.bits.specs.Packed.{bytes_for, bit_of, bit_at}
use Rattle.rules.specs.declared.Method.TheVariants.{Plain}
use Rattle.rules.specs.Pattern.{Pattern}
use Rattle.rules.specs.Plain.{row_byte, row_mask}
use Rattle.matcher.specs.Tables.{Prepared}

-- ---- where a row byte lies: how row bytes are packed into cells is said by these three alone

-- byte b, counted from the left, of the eight in a cell
unfoldable pub byte_of : ℕ → ℕ → ℕ
byte_of cell b = cell / 2 ^ (8 * (7 - b)) % 256

-- byte h of row i, and byte h of its mask
unfoldable pub row_byte_in : List ℕ → ℕ → ℕ → ℕ
row_byte_in cells i h = byte_of (get_or cells (16 * (h / 8) + i) 0) (h % 8)

unfoldable pub mask_byte_in : List ℕ → ℕ → ℕ → ℕ
mask_byte_in cells i h = byte_of (get_or cells (16 * (h / 8) + 8 + i) 0) (h % 8)

-- ---- what is claimed

-- A fixed bit of the pattern stands at bit j of byte h of row i: q is its index there, "w[8h − i + j]", "that index is in 0..m−1",
-- and the second run has a 1 for it. The index is told by a sum, since 8h − i can be below 0.
pub record FixedBit (w : Pattern) (i h j : ℕ) : Type 0 where
  pub q : ℕ
  pub index : i + q ≡ 8 * h + j
  pub inside : q < w.count
  pub fixed : bit_at w.fixed q ≡ 1

-- Of the two bytes at h in row i and in its mask, at bit j:
pub record Shown (w : Pattern) (i h j row mask : ℕ) : Type 0 where
  -- "a mask bit is 1 exactly at a fixed bit of the word,
  pub mask_one : (bit_of 8 mask j ≡ 1) ↔ FixedBit w i h j
  -- and there the row shows that bit".
  pub row_shows : (b : FixedBit w i h j) → bit_of 8 row j ≡ bit_at w.bytes b.q
  -- Elsewhere both have a 0: "else 0" (document 01), and so at wild bits, which count as little as what is outside.
  pub else_zero : (FixedBit w i h j → ⊥) → (bit_of 8 mask j ≡ 0) × (bit_of 8 row j ≡ 0)

-- "for every word and any scratch content: in each of 01's row bytes". `Prepared` is what `prepare` promises of the cells before and
-- after; the row bytes are "in row i (0 to 7), byte h (0 to ceil((m+i)/8) − 1), bit j counted from the left".
abbrev pub RowsShowPattern : Type 0
RowsShowPattern = (w : Pattern) (before cells : List ℕ) → Prepared Plain w before cells
    → (i h j : ℕ) → i < 8 → h < bytes_for (w.count + i) → j < 8 → Shown w i h j (row_byte_in cells i h) (mask_byte_in cells i h)

-- And they are the bytes that the method's rule lays on the text (`row_fits` in rules/specs/Plain.antt).
abbrev pub RowsAreRules : Type 0
RowsAreRules = (w : Pattern) (before cells : List ℕ) → Prepared Plain w before cells
    → (i h : ℕ) → i < 8 → h < bytes_for (w.count + i) → (row_byte_in cells i h ≡ row_byte w i h) × (mask_byte_in cells i h ≡ row_mask w i h)
