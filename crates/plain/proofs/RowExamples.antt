-- Document 003's figure 1 by the definitions, a pattern with wild bits, and rows that go on in a second cell; and the tables of
-- wrong programs, of which the claim does not hold.
-- Assumes nothing.
use Prim.Native.Nat.{ℕ, zero, suc, ◌+◌, ◌-◌, ◌*◌, ◌/◌, ◌%◌, ◌^◌, ◌<◌}
use mathlib.Core.Path.{◌≡◌, refl, sym, ap, ◌∙◌}
use mathlib.Core.Bool.{Bool, true}
use mathlib.Core.List.{List, [], ◌∷◌, ◌++◌}
use native.Mathlib.Omega.{arith}
use lib.Dec.{eqb}
use lib.ListN.{replicate, drop, get_or}
use borrow.Author.Tests.{eqb-true}
use Rattle.bits.specs.Packed.{bit_of, bit_at}
use Rattle.rules.specs.declared.Method.TheVariants.{Plain}
use Rattle.rules.specs.Ranges.{every}
use Rattle.rules.specs.Pattern.{Pattern, is_fixed}
use Rattle.rules.specs.Papers.{fixed_pattern, V2, V1Wild, V1WildOnes}
use Rattle.rules.specs.Plain.{from_bits, in_row, fixed_in_row, row_bit, mask_bit, row_byte, row_mask}
use Rattle.rules.proofs.Ranges.{every_at}
use Rattle.matcher.specs.Tables.{Prepared}
use Rattle.plain.specs.RowBytes.{byte_of, row_byte_in, mask_byte_in, FixedBit, Shown}

-- the first bytes of a row
unfoldable pub bytes : (ℕ → ℕ) → ℕ → List ℕ
bytes byte zero = []
bytes byte (suc k) = bytes byte k ++ byte k ∷ []

-- The first cells of eight rows. x is that of row 7, and each row before it lies a bit further to the left.
unfoldable pub rows : ℕ → List ℕ
rows x = bytes (λ i. x * 2 ^ (7 - i)) 8

-- V2, and ones for its 21 bits
abbrev pub cells_v2 : List ℕ
cells_v2 = rows (0b110010110010110010110 * 2 ^ 36) ++ rows (0b111111111111111111111 * 2 ^ 36)

-- 0100????00, whose wild bits show as 0 in row and mask, whatever their values
abbrev pub cells_v1_wild : List ℕ
cells_v1_wild = rows (0b0100000000 * 2 ^ 47) ++ rows (0b1111000011 * 2 ^ 47)

-- 58 ones: row 7 has a ninth byte, with the last one alone, in its second cell
abbrev pub ones58 : Pattern
ones58 = fixed_pattern (replicate 8 255) 58

abbrev pub cells_ones58 : List ℕ
cells_ones58 = first ++ first ++ second ++ second
  where
    first : List ℕ
    first = bytes (λ i. (2 ^ 58 - 1) * 2 ^ 6 / 2 ^ i) 8

    second : List ℕ
    second = replicate 7 0 ++ 2 ^ 63 ∷ []

pub record Examples : Type 0 where
  -- figure 1 (A), Patt
  pub patt_0 : bytes (row_byte_in cells_v2 0) 3 ≡ 0b11001011 ∷ 0b00101100 ∷ 0b10110000 ∷ []
  pub patt_1 : bytes (row_byte_in cells_v2 1) 3 ≡ 0b01100101 ∷ 0b10010110 ∷ 0b01011000 ∷ []
  pub patt_2 : bytes (row_byte_in cells_v2 2) 3 ≡ 0b00110010 ∷ 0b11001011 ∷ 0b00101100 ∷ []
  pub patt_3 : bytes (row_byte_in cells_v2 3) 3 ≡ 0b00011001 ∷ 0b01100101 ∷ 0b10010110 ∷ []
  pub patt_4 : bytes (row_byte_in cells_v2 4) 4 ≡ 0b00001100 ∷ 0b10110010 ∷ 0b11001011 ∷ 0b00000000 ∷ []
  pub patt_5 : bytes (row_byte_in cells_v2 5) 4 ≡ 0b00000110 ∷ 0b01011001 ∷ 0b01100101 ∷ 0b10000000 ∷ []
  pub patt_6 : bytes (row_byte_in cells_v2 6) 4 ≡ 0b00000011 ∷ 0b00101100 ∷ 0b10110010 ∷ 0b11000000 ∷ []
  pub patt_7 : bytes (row_byte_in cells_v2 7) 4 ≡ 0b00000001 ∷ 0b10010110 ∷ 0b01011001 ∷ 0b01100000 ∷ []
  -- figure 1 (B), Mask
  pub mask_0 : bytes (mask_byte_in cells_v2 0) 3 ≡ 0b11111111 ∷ 0b11111111 ∷ 0b11111000 ∷ []
  pub mask_1 : bytes (mask_byte_in cells_v2 1) 3 ≡ 0b01111111 ∷ 0b11111111 ∷ 0b11111100 ∷ []
  pub mask_2 : bytes (mask_byte_in cells_v2 2) 3 ≡ 0b00111111 ∷ 0b11111111 ∷ 0b11111110 ∷ []
  pub mask_3 : bytes (mask_byte_in cells_v2 3) 3 ≡ 0b00011111 ∷ 0b11111111 ∷ 0b11111111 ∷ []
  pub mask_4 : bytes (mask_byte_in cells_v2 4) 4 ≡ 0b00001111 ∷ 0b11111111 ∷ 0b11111111 ∷ 0b10000000 ∷ []
  pub mask_5 : bytes (mask_byte_in cells_v2 5) 4 ≡ 0b00000111 ∷ 0b11111111 ∷ 0b11111111 ∷ 0b11000000 ∷ []
  pub mask_6 : bytes (mask_byte_in cells_v2 6) 4 ≡ 0b00000011 ∷ 0b11111111 ∷ 0b11111111 ∷ 0b11100000 ∷ []
  pub mask_7 : bytes (mask_byte_in cells_v2 7) 4 ≡ 0b00000001 ∷ 0b11111111 ∷ 0b11111111 ∷ 0b11110000 ∷ []
  -- the same by the rule
  pub rule_patt_7 : bytes (row_byte V2 7) 4 ≡ bytes (row_byte_in cells_v2 7) 4
  pub rule_mask_7 : bytes (row_mask V2 7) 4 ≡ bytes (mask_byte_in cells_v2 7) 4
  -- wild bits, and ones in their place and after the last bit
  pub wild_3 : bytes (row_byte_in cells_v1_wild 3) 2 ≡ 0b00001000 ∷ 0b00000000 ∷ []
  pub wild_mask_3 : bytes (mask_byte_in cells_v1_wild 3) 2 ≡ 0b00011110 ∷ 0b00011000 ∷ []
  pub rule_wild_3 : bytes (row_byte V1WildOnes 3) 2 ≡ bytes (row_byte_in cells_v1_wild 3) 2
  pub rule_wild_mask_3 : bytes (row_mask V1WildOnes 3) 2 ≡ bytes (mask_byte_in cells_v1_wild 3) 2
  -- a row in two cells
  pub ninth_byte : row_byte_in cells_ones58 7 8 ≡ 0b10000000
  pub rule_ninth_byte : row_mask ones58 7 8 ≡ mask_byte_in cells_ones58 7 8

pub examples : Examples
unfolding bytes rows byte_of row_byte_in mask_byte_in row_byte row_mask from_bits row_bit mask_bit fixed_in_row in_row is_fixed bit_at
examples =
    record {
      patt_0 = refl;
      patt_1 = refl;
      patt_2 = refl;
      patt_3 = refl;
      patt_4 = refl;
      patt_5 = refl;
      patt_6 = refl;
      patt_7 = refl;
      mask_0 = refl;
      mask_1 = refl;
      mask_2 = refl;
      mask_3 = refl;
      mask_4 = refl;
      mask_5 = refl;
      mask_6 = refl;
      mask_7 = refl;
      rule_patt_7 = refl;
      rule_mask_7 = refl;
      wild_3 = refl;
      wild_mask_3 = refl;
      rule_wild_3 = refl;
      rule_wild_mask_3 = refl;
      ninth_byte = refl;
      rule_ninth_byte = refl;
    }

-- ---- figure 1's cells are what `prepare` promises for V2, in a scratch that held ones

-- bit j of the cells of row i, and of its mask, beside the definition's
bits_v2 : ℕ → (ℕ → ℕ → ℕ → ℕ) → Bool
bits_v2 from bit = every 8 (λ i. every 64 (λ j. eqb (bit_of 64 (get_or cells_v2 (from + i) 0) j) (bit i (8 * 0 + j / 8) (j % 8))))

rows_v2 : bits_v2 0 (row_bit V2) ≡ true
unfolding bits_v2 every bytes rows row_bit fixed_in_row in_row is_fixed bit_at
rows_v2 = refl

masks_v2 : bits_v2 8 (mask_bit V2) ≡ true
unfolding bits_v2 every bytes rows mask_bit fixed_in_row in_row is_fixed bit_at
masks_v2 = refl

at_v2 : (from : ℕ) (bit : ℕ → ℕ → ℕ → ℕ) → bits_v2 from bit ≡ true → (i j : ℕ) → i < 8 → j < 64
    → bit_of 64 (get_or cells_v2 (from + i) 0) j ≡ bit i (8 * 0 + j / 8) (j % 8)
unfolding bits_v2
at_v2 from bit e i j l h = eqb-true _ _ (every_at 64 _ (every_at 8 _ e i l) j h)

pub prepared_v2 : Prepared Plain V2 (replicate 16 18446744073709551615) cells_v2
unfolding bytes rows
prepared_v2 =
    record {
      tables = record {
        row_is = λ i k j l h u. let first : k ≡ 0 = omega arith in rw first (at_v2 0 (row_bit V2) rows_v2 i j l u);
        mask_is = λ i k j l h u. let first : k ≡ 0 = omega arith in rw first (at_v2 8 (mask_bit V2) masks_v2 i j l u);
      };
      size = refl;
      rest = refl;
    }

-- ---- tables of wrong programs

-- V2 with row 0's second byte left as it was found, all ones
abbrev pub as_found : List ℕ
as_found = 0b110010111111111110110000 * 2 ^ 40 ∷ drop 1 cells_v2

-- V2 with each bit of the rows from the next index
abbrev pub next_index : List ℕ
next_index = rows (0b100101100101100101100 * 2 ^ 36) ++ drop 8 cells_v2

-- 0100????00 with a mask of ten ones, and V2 with one of 22
abbrev pub mask_at_wild : List ℕ
mask_at_wild = rows (0b0100000000 * 2 ^ 47) ++ rows (0b1111111111 * 2 ^ 47)

abbrev pub mask_past : List ℕ
mask_past = rows (0b110010110010110010110 * 2 ^ 36) ++ rows (0b1111111111111111111111 * 2 ^ 35)

-- bit 8 of V2 is 0, and bit 1 is 1
bit_8 : FixedBit V2 0 1 0
unfolding bit_at
bit_8 = record { q = 8; index = refl; inside = omega arith; fixed = refl }

bit_1 : FixedBit V2 0 0 1
unfolding bit_at
bit_1 = record { q = 1; index = refl; inside = omega arith; fixed = refl }

abbrev pub ShownIn : Pattern → List ℕ → ℕ → ℕ → ℕ → Type 0
ShownIn w cells i h j = Shown w i h j (row_byte_in cells i h) (mask_byte_in cells i h)

pub record NotShown : Type 0 where
  pub not_as_found : ShownIn V2 as_found 0 1 0 → ⊥
  pub not_next_index : ShownIn V2 next_index 0 0 1 → ⊥
  pub not_mask_at_wild : ShownIn V1Wild mask_at_wild 0 0 4 → ⊥
  pub not_mask_past : ShownIn V2 mask_past 0 2 5 → ⊥

pub not_shown : NotShown
unfolding bytes rows byte_of row_byte_in mask_byte_in bit_at bit_8 bit_1
not_shown =
    record {
      not_as_found = λ s. let e : ◌≡◌ {A = ℕ} 1 0 = s.row_shows bit_8 in omega arith;
      not_next_index = λ s. let e : ◌≡◌ {A = ℕ} 0 1 = s.row_shows bit_1 in omega arith;
      not_mask_at_wild = λ s.
          let b = s.mask_one.0 refl in
          let four : b.q ≡ 4 = omega (arith, b.index) in
          let e : ◌≡◌ {A = ℕ} 0 1 = sym (ap (bit_at V1Wild.fixed) four) ∙ b.fixed in
          omega arith;
      not_mask_past = λ s. let b = s.mask_one.0 refl in omega (arith, b.index, b.inside);
    }
