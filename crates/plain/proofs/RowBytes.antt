-- What the tables' promise, told by cells, says of document 01's row bytes, bit by bit.
-- Assumes nothing.
use Prim.Native.Nat.{ℕ, ◌+◌, ◌-◌, ◌*◌, ◌/◌, ◌%◌, ◌^◌, ◌<◌}
use mathlib.Core.Path.{◌≡◌, refl, sym, ap, ap₂, ◌∙◌}
use mathlib.Core.Bool.{Bool, true, false, true≢false}
use mathlib.Core.List.{List}
use native.Mathlib.Omega.{arith}
use Rattle.bits.specs.Packed.{bytes_for, bit_of, bit_at}
use Rattle.bits.proofs.Weight.{weight_shr, weight_mod, same_weights}
use Rattle.rules.specs.Pattern.{Pattern}
use Rattle.rules.specs.Plain.{from_bits, fixed_in_row, row_bit, mask_bit, row_byte, row_mask}
use Rattle.rules.specs.declared.Method.TheVariants.{Plain}
use Rattle.rules.proofs.Pattern.{fixed_iff}
use Rattle.rules.proofs.Plain.{in_row_lem, to_in_row, fixed_in_row_lem, to_fixed_in_row, mask_bit_is, row_bit_is, row_lt, mask_lt, number_lt, number_bit}
use Rattle.matcher.specs.Tables.{Prepared}
use Rattle.plain.specs.RowBytes.{byte_of, row_byte_in, mask_byte_in, FixedBit, Shown, RowsShowPattern, RowsAreRules}

-- the bits of a cell's bytes are the cell's
byte_bit : (x b j : ℕ) → b < 8 → j < 8 → bit_of 8 (byte_of x b) j ≡ bit_of 64 x (8 * b + j)
unfolding byte_of
byte_bit x b j l h =
    weight_mod _ {w = 8} {i = 7 - j} (omega arith)
    ∙ weight_shr x _ (7 - j)
    ∙ ap (λ (n : ℕ). x / 2 ^ n % 2) (omega arith)

-- the definition's test by the second run, and back
module _ (w : Pattern) (i h j : ℕ) where
  fixed_there : fixed_in_row w i h j ≡ true → FixedBit w i h j
  fixed_there e =
      let both = fixed_in_row_lem w i h j e in
      let place = in_row_lem w i h j both.0 in
      record {
        q = 8 * h + j - i;
        index = omega (arith, place.0);
        inside = place.1;
        fixed = (fixed_iff w (8 * h + j - i)).0 both.1;
      }

  to_fixed : FixedBit w i h j → fixed_in_row w i h j ≡ true
  to_fixed b =
      let there : 8 * h + j - i ≡ b.q = omega (arith, b.index) in
      to_fixed_in_row w i h j
      (to_in_row w i h j (omega (arith, b.index)) (omega (arith, b.index, b.inside)))
      ((fixed_iff w (8 * h + j - i)).1 (rw there b.fixed))

  not_fixed : fixed_in_row w i h j ≡ false → FixedBit w i h j → ⊥
  not_fixed e b = true≢false (sym (to_fixed b) ∙ e)

-- Bytes with the definition's bits show the pattern, wherever they lie.
module _ (w : Pattern) (i h j row mask : ℕ) (row_is : bit_of 8 row j ≡ row_bit w i h j) (mask_is : bit_of 8 mask j ≡ mask_bit w i h j) where
  shown : (b : Bool) → fixed_in_row w i h j ≡ b → Shown w i h j row mask
  shown true e =
      record {
        mask_one = (λ _. fixed_there w i h j e, λ _. mask_is ∙ mask_bit_is w i h j true e);
        row_shows = λ b. row_is ∙ row_bit_is w i h j true e ∙ ap (bit_at w.bytes) (omega (arith, b.index));
        else_zero = λ none. absurd (none (fixed_there w i h j e));
      }
  shown false e =
      let zero : bit_of 8 mask j ≡ 0 = mask_is ∙ mask_bit_is w i h j false e in
      record {
        mask_one = (λ one. absurd (omega (arith, one, zero)), λ b. absurd (not_fixed w i h j e b));
        row_shows = λ b. absurd (not_fixed w i h j e b);
        else_zero = λ none. (zero, row_is ∙ row_bit_is w i h j false e);
      }

-- a byte of a cell has the bits that the cell has there
cell_bit : (bit : ℕ → ℕ → ℕ) (h j x : ℕ) → ((y : ℕ) → y < 64 → bit_of 64 x y ≡ bit (8 * (h / 8) + y / 8) (y % 8)) → j < 8
    → bit_of 8 (byte_of x (h % 8)) j ≡ bit h j
cell_bit bit h j x each l =
    let byte_is : 8 * (h / 8) + (8 * (h % 8) + j) / 8 ≡ h = omega arith in
    let bit_is : (8 * (h % 8) + j) % 8 ≡ j = omega arith in
    byte_bit x (h % 8) j (omega arith) l ∙ each (8 * (h % 8) + j) (omega arith) ∙ ap₂ bit byte_is bit_is

-- each bit of a row byte, and of its mask's, is the one that the definition has
module _ (w : Pattern) (before cells : List ℕ) (p : Prepared Plain w before cells) (i h : ℕ) (row : i < 8) (byte : h < bytes_for (w.count + i)) where
  row_bit_in : (j : ℕ) → j < 8 → bit_of 8 (row_byte_in cells i h) j ≡ row_bit w i h j
  unfolding row_byte_in
  row_bit_in j bit = cell_bit (row_bit w i) h j _ (λ y u. p.tables.row_is i (h / 8) y row (omega arith) u) bit

  mask_bit_in : (j : ℕ) → j < 8 → bit_of 8 (mask_byte_in cells i h) j ≡ mask_bit w i h j
  unfolding mask_byte_in
  mask_bit_in j bit = cell_bit (mask_bit w i) h j _ (λ y u. p.tables.mask_is i (h / 8) y row (omega arith) u) bit

pub rows_show : RowsShowPattern
rows_show w before cells p i h j row byte bit =
    shown w i h j (row_byte_in cells i h) (mask_byte_in cells i h)
    (row_bit_in w before cells p i h row byte j bit) (mask_bit_in w before cells p i h row byte j bit) (fixed_in_row w i h j) refl

-- a byte of a cell is the number of its bits
byte_from : (x b : ℕ) (f : ℕ → ℕ) → ((j : ℕ) → f j < 2) → ((j : ℕ) → j < 8 → bit_of 8 (byte_of x b) j ≡ f j) → byte_of x b ≡ from_bits f 8
unfolding byte_of
byte_from x b f few each =
    same_weights 8 (byte_of x b) (from_bits f 8) (omega arith) (number_lt f few 8)
    (λ k l.
    let there : 7 - (7 - k) ≡ k = omega arith in
    rw there at (each (7 - k) (omega arith) ∙ sym (number_bit f few 8 (7 - k) (omega arith))))

pub rows_rule : RowsAreRules
unfolding row_byte_in mask_byte_in row_byte row_mask
rows_rule w before cells p i h row byte = (
  byte_from _ _ (row_bit w i h) (row_lt w i h) (row_bit_in w before cells p i h row byte),
  byte_from _ _ (mask_bit w i h) (mask_lt w i h) (mask_bit_in w before cells p i h row byte),
)
