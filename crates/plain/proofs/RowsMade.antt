-- The rows' cells are made from the pattern's own 64 bits at a time: what each part of making them leaves.
-- Assumes nothing.
use Prim.Native.Nat.{ℕ, ◌+◌, ◌-◌, ◌*◌, ◌/◌, ◌%◌, ◌≤◌, ◌<◌, min}
use mathlib.Core.Path.{◌≡◌, refl, sym, ap, ap₂, ◌∙◌}
use mathlib.Core.Logic.{◌⊎◌, inl, inr}
use mathlib.Core.Bool.{Bool, true, false, ◌&&◌, cond}
use mathlib.Core.List.{List}
use native.Mathlib.Omega.{arith}
use lib.Bits.{bit_and}
use lib.Dec.{leb, ltb}
use lib.ListN.{length, get_or, drop, length-drop}
use lib.Seq.{get_or-drop, ext_get_or}
use borrow.Author.Tests.{leb-true, le-leb, lt-leb, ltb-true, ltb-false}
use Rattle.bits.specs.Packed.{bit_of, bit_at, bits_at}
use Rattle.bits.proofs.Weight.{weight_zero, weight_and}
use Rattle.bits.proofs.Run.{bit_lt, bit_of_bits}
use Rattle.rules.specs.declared.Method.TheVariants.{Plain}
use Rattle.rules.specs.Pattern.{Pattern, is_fixed}
use Rattle.rules.specs.Plain.{in_row, fixed_in_row, row_bit, mask_bit}
use Rattle.rules.specs.Scratch.{scratch_cells}
use Rattle.matcher.specs.Tables.{row_chunks, Prepared}
use Rattle.plain.specs.RowCells.{shifted_bit, Filled}
use Rattle.rules.proofs.Ranges.{same_test, eq_or_below}
use Rattle.rules.proofs.Pattern.{fixed_bit}
use Rattle.rules.proofs.Plain.{mask_bit_is, row_bit_is}

-- rows of any shift: bits at the same index of the pattern are the same
module _ (w : Pattern) (i h j i' h' j' : ℕ) (same : 8 * h + j + i' ≡ 8 * h' + j' + i) where
  index : 8 * h + j - i ≡ 8 * h' + j' - i'
  index = omega arith

  in_row_moves : in_row w i h j ≡ in_row w i' h' j'
  unfolding in_row
  in_row_moves =
      ap₂ ◌&&◌
      (same_test (leb i (8 * h + j)) (leb i' (8 * h' + j'))
      (λ e. let l = leb-true i (8 * h + j) e in le-leb i' (8 * h' + j') (omega arith))
      (λ e. let l = leb-true i' (8 * h' + j') e in le-leb i (8 * h + j) (omega arith)))
      (ap (λ (n : ℕ). ltb n w.count) index)

  fixed_moves : fixed_in_row w i h j ≡ fixed_in_row w i' h' j'
  unfolding fixed_in_row
  fixed_moves = ap₂ (λ (b : Bool) (n : ℕ). b && is_fixed w n) in_row_moves index

  pub row_moves : row_bit w i h j ≡ row_bit w i' h' j'
  unfolding row_bit
  row_moves = ap₂ (λ (b : Bool) (n : ℕ). cond b (bit_at w.bytes n) 0) fixed_moves index

  pub mask_moves : mask_bit w i h j ≡ mask_bit w i' h' j'
  unfolding mask_bit
  mask_moves = ap (λ (b : Bool). cond {A = ℕ} b 1 0) fixed_moves

-- x holds the 64 bits from bit 64 k on of the row that is shifted by i
abbrev pub Holds : (ℕ → ℕ → ℕ → ℕ) → ℕ → ℕ → ℕ → Type 0
Holds bit i k x = (j : ℕ) → j < 64 → bit_of 64 x j ≡ bit i (8 * k + j / 8) (j % 8)

-- bits at the same index are the same
abbrev pub Moves : (ℕ → ℕ → ℕ → ℕ) → Type 0
Moves bit = (i h j i' h' j' : ℕ) → 8 * h + j + i' ≡ 8 * h' + j' + i → bit i h j ≡ bit i' h' j'

module _ (bit : ℕ → ℕ → ℕ → ℕ) (moves : Moves bit) (k prev x : ℕ) (before : Holds bit 64 k prev) (here : Holds bit 0 k x) where
  -- a row's bits from the unshifted ones
  pub shifted_holds : (i j : ℕ) → i < 8 → j < 64 → shifted_bit prev x i j ≡ bit i (8 * k + j / 8) (j % 8)
  unfolding shifted_bit
  shifted_holds i j l h = go (ltb j i) refl
    where
      go : (b : Bool) → ltb j i ≡ b → cond (ltb j i) (bit_of 64 prev (64 + j - i)) (bit_of 64 x (j - i)) ≡ bit i (8 * k + j / 8) (j % 8)
      go true e =
          let first = ltb-true j i e in
          rw e
          (before (64 + j - i) (omega arith)
          ∙ moves 64 (8 * k + (64 + j - i) / 8) ((64 + j - i) % 8) i (8 * k + j / 8) (j % 8) (omega arith))
      go false e =
          let from = ltb-false j i e in
          rw e
          (here (j - i) (omega arith) ∙ moves 0 (8 * k + (j - i) / 8) ((j - i) % 8) i (8 * k + j / 8) (j % 8) (omega arith))

  -- what stands here stands before the next 64
  pub holds_next : Holds bit 64 (k + 1) x
  holds_next j h = here j h ∙ moves 0 (8 * k + j / 8) (j % 8) 64 (8 * (k + 1) + j / 8) (j % 8) (omega arith)

-- the first chunks are made, and what is needed for the next
pub record Made (w : Pattern) (k prev prev_mask : ℕ) (before cells : List ℕ) : Type 0 where
  pub row_is : (i c j : ℕ) → i < 8 → c < k → j < 64 → bit_of 64 (get_or cells (16 * c + i) 0) j ≡ row_bit w i (8 * c + j / 8) (j % 8)
  pub mask_is : (i c j : ℕ) → i < 8 → c < k → j < 64 → bit_of 64 (get_or cells (16 * c + 8 + i) 0) j ≡ mask_bit w i (8 * c + j / 8) (j % 8)
  pub prev_is : Holds (row_bit w) 64 k prev
  pub prev_mask_is : Holds (mask_bit w) 64 k prev_mask
  pub size : length cells ≡ length before
  pub rest : (y : ℕ) → 16 * k ≤ y → get_or cells y 0 ≡ get_or before y 0

module _ (w : Pattern) where
  rows_move : Moves (row_bit w)
  rows_move i h j i' h' j' e = row_moves w i h j i' h' j' e

  masks_move : Moves (mask_bit w)
  masks_move i h j i' h' j' e = mask_moves w i h j i' h' j' e

  -- no bit of a row stands before its shift
  out : (j : ℕ) → j < 64 → fixed_in_row w 64 (8 * 0 + j / 8) (j % 8) ≡ false
  unfolding fixed_in_row in_row
  out j h = rw (lt-leb 64 (8 * (8 * 0 + j / 8) + j % 8) (omega arith))

  pub made_none : (before : List ℕ) → Made w 0 0 0 before before
  made_none before =
      record {
        row_is = λ i c j l h u. absurd (omega arith);
        mask_is = λ i c j l h u. absurd (omega arith);
        prev_is = λ j h. weight_zero (63 - j) ∙ sym (row_bit_is w 64 (8 * 0 + j / 8) (j % 8) false (out j h));
        prev_mask_is = λ j h. weight_zero (63 - j) ∙ sym (mask_bit_is w 64 (8 * 0 + j / 8) (j % 8) false (out j h));
        size = refl;
        rest = λ y h. refl;
      }

  -- the unshifted bits: a load of the second run where the ones are the pattern's bits, and one of the pattern under it
  pub mask_holds : (k ones x : ℕ) → ((j : ℕ) → j < 64 → bit_of 64 ones j ≡ cond (ltb (64 * k + j) w.count) 1 0)
      → x ≡ bits_at w.fixed (64 * k) 64 → Holds (mask_bit w) 0 k (bit_and x ones)
  unfolding fixed_in_row in_row
  mask_holds k ones x f e j h =
      weight_and x ones (63 - j)
      ∙ ap₂ min (ap (λ (y : ℕ). bit_of 64 y j) e ∙ bit_of_bits w.fixed (64 * k) {j = j} {k = 64} h ∙ fixed_bit w (64 * k + j)) (f j h)
      ∙ both (is_fixed w (64 * k + j)) (ltb (64 * k + j) w.count)
      ∙ sym (mask_bit_is w 0 (8 * k + j / 8) (j % 8) (ltb (64 * k + j) w.count && is_fixed w (64 * k + j)) inside)
    where
      index : 8 * (8 * k + j / 8) + j % 8 - 0 ≡ 64 * k + j
      index = omega arith

      inside : fixed_in_row w 0 (8 * k + j / 8) (j % 8) ≡ (ltb (64 * k + j) w.count && is_fixed w (64 * k + j))
      inside = rw (le-leb 0 (8 * (8 * k + j / 8) + j % 8) (omega arith), index)

      both : (a b : Bool) → min (cond {A = ℕ} a 1 0) (cond {A = ℕ} b 1 0) ≡ cond {A = ℕ} (b && a) 1 0
      both true true = refl
      both true false = refl
      both false true = refl
      both false false = refl

  pub row_holds : (k mask x : ℕ) → Holds (mask_bit w) 0 k mask → x ≡ bits_at w.bytes (64 * k) 64 → Holds (row_bit w) 0 k (bit_and x mask)
  row_holds k mask x f e j h =
      weight_and x mask (63 - j)
      ∙ ap₂ min (ap (λ (y : ℕ). bit_of 64 y j) e ∙ bit_of_bits w.bytes (64 * k) {j = j} {k = 64} h) (f j h)
      ∙ go (fixed_in_row w 0 (8 * k + j / 8) (j % 8)) refl
    where
      there : bit_at w.bytes (64 * k + j) ≡ bit_at w.bytes (8 * (8 * k + j / 8) + j % 8 - 0)
      there = ap (bit_at w.bytes) (omega arith)

      go : (b : Bool) → fixed_in_row w 0 (8 * k + j / 8) (j % 8) ≡ b
          → min (bit_at w.bytes (64 * k + j)) (mask_bit w 0 (8 * k + j / 8) (j % 8)) ≡ row_bit w 0 (8 * k + j / 8) (j % 8)
      go true e =
          omega (arith, there, bit_lt w.bytes (64 * k + j), mask_bit_is w 0 (8 * k + j / 8) (j % 8) true e, row_bit_is w 0 (8 * k + j / 8) (j % 8) true e)
      go false e =
          omega (arith, mask_bit_is w 0 (8 * k + j / 8) (j % 8) false e, row_bit_is w 0 (8 * k + j / 8) (j % 8) false e)

  -- one chunk more
  module _ (k prev prev_mask x mask : ℕ) (before cells after : List ℕ) (m : Made w k prev prev_mask before cells)
      (f : Filled k 8 prev x prev_mask mask cells after) (ms : Holds (mask_bit w) 0 k mask) (xs : Holds (row_bit w) 0 k x) where
    pub made_more : Made w (k + 1) x mask before after
    made_more =
        record {
          row_is = λ i c j l h u. row i c j l u (eq_or_below {a = c} {b = k} (omega arith));
          mask_is = λ i c j l h u. masks i c j l u (eq_or_below {a = c} {b = k} (omega arith));
          prev_is = holds_next (row_bit w) rows_move k prev x m.prev_is xs;
          prev_mask_is = holds_next (mask_bit w) masks_move k prev_mask mask m.prev_mask_is ms;
          size = f.size ∙ m.size;
          rest = λ y h. f.rest y (omega arith) ∙ m.rest y (omega arith);
        }
      where
        row : (i c j : ℕ) → i < 8 → j < 64 → (c ≡ k) ⊎ (c < k) → bit_of 64 (get_or after (16 * c + i) 0) j ≡ row_bit w i (8 * c + j / 8) (j % 8)
        row i c j l u (inl e) = rw e (f.row_is i j l u ∙ shifted_holds (row_bit w) rows_move k prev x m.prev_is xs i j l u)
        row i c j l u (inr h) = rw (f.front (16 * c + i) (omega arith)) (m.row_is i c j l h u)

        masks : (i c j : ℕ) → i < 8 → j < 64 → (c ≡ k) ⊎ (c < k) → bit_of 64 (get_or after (16 * c + 8 + i) 0) j ≡ mask_bit w i (8 * c + j / 8) (j % 8)
        masks i c j l u (inl e) = rw e (f.mask_is i j l u ∙ shifted_holds (mask_bit w) masks_move k prev_mask mask m.prev_mask_is ms i j l u)
        masks i c j l u (inr h) = rw (f.front (16 * c + 8 + i) (omega arith)) (m.mask_is i c j l h u)

  -- all chunks
  pub made_all : (k prev prev_mask : ℕ) (before cells : List ℕ) → Made w k prev prev_mask before cells → 0 < w.count
      → row_chunks w.count ≡ k → Prepared Plain w before cells
  made_all k prev prev_mask before cells m some e =
      record {
        tables = record {
          row_is = λ i c j l h u. m.row_is i c j l (omega arith) u;
          mask_is = λ i c j l h u. m.mask_is i c j l (omega arith) u;
        };
        size = m.size;
        rest =
            ext_get_or 0 (drop (scratch_cells Plain w.count) cells) (drop (scratch_cells Plain w.count) before)
            (simp length-drop (ap (λ (n : ℕ). n - scratch_cells Plain w.count) m.size))
            (λ y h.
            get_or-drop (scratch_cells Plain w.count) cells y 0
            ∙ m.rest (scratch_cells Plain w.count + y) (omega arith)
            ∙ sym (get_or-drop (scratch_cells Plain w.count) before y 0));
      }
