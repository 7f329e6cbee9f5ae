-- Comparison by cells of eight row bytes: the cells of a place's row all agree with the text just if the pattern stands there.
-- Assumes nothing.
use Prim.Native.Nat.{ℕ, zero, suc, ◌+◌, ◌-◌, ◌*◌, ◌/◌, ◌%◌, ◌^◌, ◌≤◌, ◌<◌, min}
use mathlib.Core.Path.{◌≡◌, refl, sym, ap, ap₂, ◌∙◌}
use mathlib.Core.Logic.{◌↔◌}
use mathlib.Core.Bool.{Bool, true, false}
use mathlib.Core.List.{List}
use native.Mathlib.Nat.{lt_of_le_of_lt}
use native.Mathlib.Omega.{arith}
use lib.Bits.{bit_and, and_le_l}
use lib.Dec.{eqb}
use lib.ListN.{length, get_or}
use borrow.Author.Tests.{eqb-true, eq-eqb}
use Rattle.bits.specs.Packed.{Packed, weight, bit_at, bits_at}
use Rattle.bits.proofs.Weight.{weight_and, same_weights}
use Rattle.bits.proofs.Run.{bit_lt, bits_lt, bit_of_bits}
use Rattle.rules.specs.Pattern.{Pattern, agrees}
use Rattle.rules.specs.Occurrence.{matches}
use Rattle.rules.specs.Plain.{in_row, fixed_in_row, row_bit, mask_bit}
use Rattle.rules.specs.declared.Method.TheVariants.{Plain}
use Rattle.rules.specs.Scratch.{scratch_cells}
use Rattle.matcher.specs.Tables.{row_chunks, PlainTables}
use Rattle.plain.specs.RowCells.{cell_fits}
use Rattle.rules.proofs.Ranges.{not_true_false, same_test}
use Rattle.rules.proofs.Pattern.{agrees_iff}
use Rattle.rules.proofs.Occurrence.{matches_at, to_matches}
use Rattle.rules.proofs.Plain.{in_row_lem, to_in_row, fixed_in_row_lem, to_fixed_in_row, mask_bit_is, row_bit_is}

-- a test answers false where something does not hold
pub refused : {A : Type 0} → (A → ⊥) → (false ≡ true) ↔ A
refused h = (λ e. let z : ◌≡◌ {A = ℕ} 0 1 = cc in absurd (omega arith), λ a. absurd (h a))

-- a test of all numbers from 1 on is one of all, where 0 passes
pub with_first : (n : ℕ) (f : ℕ → Bool) (r : Bool) → f 0 ≡ true → (r ≡ true) ↔ ((k : ℕ) → 1 ≤ k → k < n → f k ≡ true)
    → (r ≡ true) ↔ ((k : ℕ) → 0 ≤ k → k < n → f k ≡ true)
with_first n f r first iff = (all, λ g. iff.1 (λ k l u. g k (omega arith) u))
  where
    all : r ≡ true → (k : ℕ) → 0 ≤ k → k < n → f k ≡ true
    all e zero l u = first
    all e (suc k) l u = iff.0 e (suc k) (omega arith) u

-- the byte under the first one of cell k, from that of the place and that of the row's bit 64 k
pub cell_byte : (s k : ℕ) {a r : ℕ} → a ≡ s / 8 → r ≡ 64 * k / 8 → a + r ≡ (s + 64 * k) / 8
cell_byte s k {a} {r} e f = omega arith

module _ (text cells : List ℕ) where
  -- a cell read at its place in the table, and the eight bytes of the text at theirs
  pub cell_read : (s k b row x : ℕ) → b ≡ (s + 64 * k) / 8 → row ≡ s % 8 → x ≡ bits_at text (b * 8) 64
      → eqb (bit_and x (get_or cells (16 * k + row + 8) 0)) (get_or cells (16 * k + row) 0) ≡ cell_fits text cells s k
  unfolding cell_fits
  cell_read s k b row x byte offset e =
      let bytes : b * 8 ≡ 8 * (s / 8) + 64 * k = omega arith in
      let mask : 16 * k + row + 8 ≡ 16 * k + 8 + s % 8 = omega arith in
      ap₂ (λ (y z : ℕ). eqb (bit_and y (get_or cells z 0)) (get_or cells (16 * k + row) 0)) (e ∙ ap (λ (n : ℕ). bits_at text n 64) bytes) mask
      ∙ rw offset

  -- the same of the first cells of the eight rows at byte b
  block_cell : (b p x : ℕ) → p / 8 ≡ b → x ≡ bits_at text (b * 8) 64
      → cell_fits text cells p 0 ≡ eqb (bit_and x (get_or cells (8 + p % 8) 0)) (get_or cells (p % 8) 0)
  block_cell b p x byte e =
      let mask : 16 * 0 + p % 8 + 8 ≡ 8 + p % 8 = omega arith in
      let row : 16 * 0 + p % 8 ≡ p % 8 = omega arith in
      sym (cell_read p 0 b (p % 8) x (omega arith) refl e)
      ∙ ap₂ (λ (y z : ℕ). eqb (bit_and x (get_or cells y 0)) (get_or cells z 0)) mask row

  -- rows that do not agree rule their places out
  pub block_passed : (b a r x : ℕ) → r ≤ 8 → x ≡ bits_at text (b * 8) 64
      → ((i : ℕ) → a ≤ i → i < r → eqb (bit_and x (get_or cells (8 + i) 0)) (get_or cells i 0) ≡ false)
      → (p : ℕ) → 8 * b + a ≤ p → p < 8 * b + r → cell_fits text cells p 0 ≡ false
  block_passed b a r x h e f p l u = block_cell b p x (omega arith) e ∙ f (p % 8) (omega arith) (omega arith)

  -- a row that agrees does not
  pub block_fits : (b r x : ℕ) → r < 8 → x ≡ bits_at text (b * 8) 64 → eqb (bit_and x (get_or cells (8 + r) 0)) (get_or cells r 0) ≡ true
      → cell_fits text cells (8 * b + r) 0 ≡ true
  block_fits b r x h e f =
      let row : (8 * b + r) % 8 ≡ r = omega arith in
      block_cell b (8 * b + r) x (omega arith) e ∙ ap (λ (i : ℕ). eqb (bit_and x (get_or cells (8 + i) 0)) (get_or cells i 0)) row ∙ f

-- the scratch has room for every cell of the rows
pub room_long : (m : ℕ) (cells : List ℕ) → scratch_cells Plain m ≤ length cells → 16 * row_chunks m ≤ length cells
room_long m cells room = omega arith

module _ (t : Packed) (w : Pattern) (cells : List ℕ) (tables : PlainTables w cells) (s : ℕ) where
  -- the eight bytes under cell k, and bit j of them under the mask
  under : ℕ → ℕ
  under k = bits_at t.bytes (8 * (s / 8) + 64 * k) 64

  masked : ℕ → ℕ
  masked k = bit_and (under k) (get_or cells (16 * k + 8 + s % 8) 0)

  masked_bit : (k j : ℕ) → k < row_chunks w.count → j < 64
      → weight (masked k) (63 - j) ≡ min (bit_at t.bytes (8 * (s / 8) + 64 * k + j)) (mask_bit w (s % 8) (8 * k + j / 8) (j % 8))
  unfolding masked under
  masked_bit k j h l =
      weight_and (under k) (get_or cells (16 * k + 8 + s % 8) 0) (63 - j)
      ∙ ap₂ min (bit_of_bits t.bytes (8 * (s / 8) + 64 * k) {j = j} {k = 64} l) (tables.mask_is (s % 8) k j (omega arith) h l)

  -- a cell that agrees settles the bits of the pattern that it covers
  pub cell_agrees : (k : ℕ) → k < row_chunks w.count → cell_fits t.bytes cells s k ≡ true
      → (q : ℕ) → q < w.count → 64 * k ≤ s % 8 + q → s % 8 + q < 64 * k + 64 → agrees w q (bit_at t.bytes (s + q)) ≡ true
  unfolding cell_fits masked under
  cell_agrees k h e q l lo hi =
      let j : ℕ = s % 8 + q - 64 * k in
      let inside : in_row w (s % 8) (8 * k + j / 8) (j % 8) ≡ true = to_in_row w (s % 8) (8 * k + j / 8) (j % 8) (omega arith) (omega arith) in
      let both : min (bit_at t.bytes (8 * (s / 8) + 64 * k + j)) (mask_bit w (s % 8) (8 * k + j / 8) (j % 8)) ≡ row_bit w (s % 8) (8 * k + j / 8) (j % 8)
      = sym (masked_bit k j h (omega arith)) ∙ ap (λ (x : ℕ). weight x (63 - j)) (eqb-true _ _ e) ∙ tables.row_is (s % 8) k j (omega arith) h (omega arith) in
      let there : 8 * (s / 8) + 64 * k + j ≡ s + q = omega arith in
      let index : 8 * (8 * k + j / 8) + j % 8 - s % 8 ≡ q = omega arith in
      let text : bit_at t.bytes (8 * (s / 8) + 64 * k + j) ≡ bit_at t.bytes (s + q) = ap (bit_at t.bytes) there in
      let pattern : bit_at w.bytes (8 * (8 * k + j / 8) + j % 8 - s % 8) ≡ bit_at w.bytes q = ap (bit_at w.bytes) index in
      (agrees_iff w q (bit_at t.bytes (s + q))).1 (λ f.
      let counted = to_fixed_in_row w (s % 8) (8 * k + j / 8) (j % 8) inside (rw index f) in
      omega (arith, mask_bit_is w (s % 8) (8 * k + j / 8) (j % 8) true counted, row_bit_is w (s % 8) (8 * k + j / 8) (j % 8) true counted, bit_lt t.bytes (s + q)))

  module _ (small : (x : ℕ) → get_or cells x 0 < 2 ^ 64) where
    -- where the pattern stands, each cell agrees
    pub cell_of : matches t w s ≡ true → (k : ℕ) → k < row_chunks w.count → cell_fits t.bytes cells s k ≡ true
    unfolding cell_fits masked under
    cell_of e k h =
        eq-eqb _ _
        (same_weights 64 _ _
        (lt_of_le_of_lt (and_le_l (under k) (get_or cells (16 * k + 8 + s % 8) 0)) (bits_lt t.bytes (8 * (s / 8) + 64 * k) 64))
        (small (16 * k + s % 8))
        (λ y l.
        let back : 63 - (63 - y) ≡ y = omega arith in
        rw back at (each (63 - y) (omega arith) (fixed_in_row w (s % 8) (8 * k + (63 - y) / 8) ((63 - y) % 8)) refl)))
      where
        each : (j : ℕ) → j < 64 → (b : Bool) → fixed_in_row w (s % 8) (8 * k + j / 8) (j % 8) ≡ b
            → weight (masked k) (63 - j) ≡ weight (get_or cells (16 * k + s % 8) 0) (63 - j)
        each j l true r =
            let counted = fixed_in_row_lem w (s % 8) (8 * k + j / 8) (j % 8) r in
            let place = in_row_lem w (s % 8) (8 * k + j / 8) (j % 8) counted.0 in
            let q : ℕ = 8 * (8 * k + j / 8) + j % 8 - s % 8 in
            let same = (agrees_iff w q (bit_at t.bytes (s + q))).0 (matches_at t w s e q place.1) counted.1 in
            let there : 8 * (s / 8) + 64 * k + j ≡ s + q = omega arith in
            let text : bit_at t.bytes (8 * (s / 8) + 64 * k + j) ≡ bit_at t.bytes (s + q) = ap (bit_at t.bytes) there in
            masked_bit k j h l
            ∙ omega (arith, mask_bit_is w (s % 8) (8 * k + j / 8) (j % 8) true r, row_bit_is w (s % 8) (8 * k + j / 8) (j % 8) true r, bit_lt t.bytes (s + q))
            ∙ sym (tables.row_is (s % 8) k j (omega arith) h l)
        each j l false r =
            masked_bit k j h l
            ∙ omega (arith, mask_bit_is w (s % 8) (8 * k + j / 8) (j % 8) false r, row_bit_is w (s % 8) (8 * k + j / 8) (j % 8) false r)
            ∙ sym (tables.row_is (s % 8) k j (omega arith) h l)

    -- a cell that does not agree rules the place out
    pub cell_differs : (k : ℕ) → k < row_chunks w.count → cell_fits t.bytes cells s k ≡ false → matches t w s ≡ false
    cell_differs k h e =
        not_true_false _ (λ hit.
        let both : true ≡ false = sym (cell_of hit k h) ∙ e in
        let z : ◌≡◌ {A = ℕ} 0 1 = cc in
        omega arith)

    -- the test of all cells that row_fits makes
    pub fits_matches : (r : Bool) → (r ≡ true) ↔ ((k : ℕ) → 0 ≤ k → k < row_chunks w.count → cell_fits t.bytes cells s k ≡ true)
        → r ≡ matches t w s
    fits_matches r iff =
        same_test r (matches t w s)
        (λ e. to_matches t w s (λ q l.
        cell_agrees ((s % 8 + q) / 64) (omega arith) (iff.0 e ((s % 8 + q) / 64) (omega arith) (omega arith)) q l (omega arith) (omega arith)))
        (λ e. iff.1 (λ k l h. cell_of e k h))
