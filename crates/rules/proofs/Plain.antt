-- The plain method is right: comparison by shifted rows at a place is the comparison bit by bit.
use Prim.Native.Nat.{ℕ, zero, suc, ◌+◌, ◌-◌, ◌*◌, ◌/◌, ◌%◌, ◌^◌, ◌≤◌, ◌<◌, min}
use mathlib.Core.Path.{◌≡◌, refl, sym, ap, ◌∙◌}
use mathlib.Core.Logic.{◌⊎◌, inl, inr}
use mathlib.Core.Bool.{Bool, true, false, cond}
use mathlib.Core.List.{[]}
use native.Mathlib.Nat.{pow-suc, div-one, lt_of_le_of_lt}
use native.Mathlib.Omega.{arith}
use lib.Bits.{bit_and, and_le_r}
use lib.Dec.{leb}
use lib.ListN.{get_or}
use borrow.Author.Tests.{eqb-true, eq-eqb, leb-true, le-leb, ltb-true, lt-ltb}
use Rattle.bits.specs.Packed.{Packed, bytes_for, weight, bit_of, bit_at}
use Rattle.bits.proofs.Weight.{weight_shr, weight_and, same_weights}
use Rattle.bits.proofs.Run.{bit_lt}
use Rattle.bits.proofs.Loads.{bit_in_byte}
use Rattle.rules.specs.declared.Method.TheVariants.{Plain}
use Rattle.rules.specs.Ranges.{keep}
use Rattle.rules.specs.Pattern.{Pattern, is_fixed, agrees}
use Rattle.rules.specs.Occurrence.{places, matches, occurs}
use Rattle.rules.specs.Plain.{from_bits, in_row, fixed_in_row, row_bit, mask_bit, row_byte, row_mask, row_fits, plain_finds}
use Rattle.rules.specs.Step.{finds, ahead, Sound}
use Rattle.rules.proofs.Ranges.{and_left, and_right, and_both, same_test, every_at, to_every, eq_or_below}
use Rattle.rules.proofs.Pattern.{agrees_iff}
use Rattle.rules.proofs.Occurrence.{matches_at, to_matches, occurs_inside, occurrences_one}
use Rattle.rules.proofs.Step.{cut_at_places}

-- a number from its bits

pub number_lt : (f : ℕ → ℕ) → ((j : ℕ) → f j < 2) → (k : ℕ) → from_bits f k < 2 ^ k
unfolding from_bits
number_lt f h zero = omega arith
number_lt f h (suc k) = rw pow-suc (omega (arith, number_lt f h k, h k))

pub number_bit : (f : ℕ → ℕ) → ((j : ℕ) → f j < 2) → (k j : ℕ) → j < k → bit_of k (from_bits f k) j ≡ f j
unfolding from_bits
number_bit f h zero j l = absurd (omega arith)
number_bit f h (suc k) j l = go (λ below. number_bit f h k j below) (eq_or_below (omega arith))
  where
    whole : ℕ
    whole = from_bits f k * 2 + f k

    half : whole / 2 ≡ from_bits f k
    half = omega (arith, h k)

    go : (j < k → bit_of k (from_bits f k) j ≡ f j) → (j ≡ k) ⊎ (j < k) → weight whole (suc k - 1 - j) ≡ f j
    go ih (inl e) =
        let last : suc k - 1 - j ≡ 0 = omega arith in
        rw (last, div-one whole, e) (omega (arith, h k))
    go ih (inr below) =
        let up : suc k - 1 - j ≡ 1 + (k - 1 - j) = omega arith in
        rw up (sym (weight_shr whole 1 (k - 1 - j)) ∙ ap (λ (x : ℕ). weight x (k - 1 - j)) half ∙ ih below)

-- rows

cond_lt : (b : Bool) (x y : ℕ) → x < 2 → y < 2 → cond b x y < 2
cond_lt true x y h g = h
cond_lt false x y h g = g

module _ (w : Pattern) (i h : ℕ) where
  pub in_row_lem : (j : ℕ) → in_row w i h j ≡ true → (i ≤ 8 * h + j) × (8 * h + j - i < w.count)
  unfolding in_row
  in_row_lem j e = (leb-true _ _ (and_left (leb i (8 * h + j)) _ e), ltb-true _ _ (and_right (leb i (8 * h + j)) _ e))

  pub to_in_row : (j : ℕ) → i ≤ 8 * h + j → 8 * h + j - i < w.count → in_row w i h j ≡ true
  unfolding in_row
  to_in_row j l u = and_both (le-leb _ _ l) (lt-ltb _ _ u)

  -- its index is in the pattern, and the bit there is fixed
  pub fixed_in_row_lem : (j : ℕ) → fixed_in_row w i h j ≡ true → (in_row w i h j ≡ true) × (is_fixed w (8 * h + j - i) ≡ true)
  unfolding fixed_in_row
  fixed_in_row_lem j e = (and_left (in_row w i h j) _ e, and_right (in_row w i h j) _ e)

  pub to_fixed_in_row : (j : ℕ) → in_row w i h j ≡ true → is_fixed w (8 * h + j - i) ≡ true → fixed_in_row w i h j ≡ true
  unfolding fixed_in_row
  to_fixed_in_row j r f = and_both r f

  -- what bit j of a row and of its mask is, by whether its index is in the pattern and fixed
  pub mask_bit_is : (j : ℕ) (b : Bool) → fixed_in_row w i h j ≡ b → mask_bit w i h j ≡ cond b 1 0
  unfolding mask_bit
  mask_bit_is j b r = rw r

  pub row_bit_is : (j : ℕ) (b : Bool) → fixed_in_row w i h j ≡ b → row_bit w i h j ≡ cond b (bit_at w.bytes (8 * h + j - i)) 0
  unfolding row_bit
  row_bit_is j b r = rw r

  pub row_lt : (j : ℕ) → row_bit w i h j < 2
  row_lt j = rw (row_bit_is j _ refl) (cond_lt (fixed_in_row w i h j) _ 0 (bit_lt w.bytes (8 * h + j - i)) (omega arith))

  pub mask_lt : (j : ℕ) → mask_bit w i h j < 2
  mask_lt j = rw (mask_bit_is j _ refl) (cond_lt (fixed_in_row w i h j) 1 0 (omega arith) (omega arith))

  -- and bit j of the row's byte and of its mask's
  pub row_shows : (j : ℕ) → j < 8 → weight (row_byte w i h) (7 - j) ≡ row_bit w i h j
  unfolding row_byte
  row_shows j l = number_bit (row_bit w i h) row_lt 8 j l

  pub mask_shows : (j : ℕ) → j < 8 → weight (row_mask w i h) (7 - j) ≡ mask_bit w i h j
  unfolding row_mask
  mask_shows j l = number_bit (mask_bit w i h) mask_lt 8 j l

  -- a byte under the mask is the row's byte just if each of its bits that counts agrees
  module _ (x : ℕ) where
    masked_bit : (j : ℕ) → j < 8 → weight (bit_and x (row_mask w i h)) (7 - j) ≡ min (weight x (7 - j)) (mask_bit w i h j)
    masked_bit j l =
        weight_and x (row_mask w i h) (7 - j) ∙ ap (λ (y : ℕ). min (weight x (7 - j)) y) (mask_shows j l)

    pub byte_agrees : bit_and x (row_mask w i h) ≡ row_byte w i h
        → (j : ℕ) → j < 8 → in_row w i h j ≡ true → agrees w (8 * h + j - i) (weight x (7 - j)) ≡ true
    byte_agrees e j l r =
        let both : min (weight x (7 - j)) (mask_bit w i h j) ≡ row_bit w i h j =
        sym (masked_bit j l) ∙ ap (λ (y : ℕ). weight y (7 - j)) e ∙ row_shows j l in
        (agrees_iff w (8 * h + j - i) (weight x (7 - j))).1 (λ f.
        omega (arith, mask_bit_is j true (to_fixed_in_row j r f), row_bit_is j true (to_fixed_in_row j r f)))

    pub agrees_byte : ((j : ℕ) → j < 8 → in_row w i h j ≡ true → agrees w (8 * h + j - i) (weight x (7 - j)) ≡ true)
        → bit_and x (row_mask w i h) ≡ row_byte w i h
    unfolding row_byte row_mask
    agrees_byte a =
        same_weights 8 _ _
        (lt_of_le_of_lt (and_le_r x (row_mask w i h)) (number_lt (mask_bit w i h) mask_lt 8))
        (number_lt (row_bit w i h) row_lt 8)
        (λ k l.
        let there : 7 - (7 - k) ≡ k = omega arith in
        rw there at (each (7 - k) (omega arith) (fixed_in_row w i h (7 - k)) refl))
      where
        each : (j : ℕ) → j < 8 → (b : Bool) → fixed_in_row w i h j ≡ b
            → weight (bit_and x (row_mask w i h)) (7 - j) ≡ weight (row_byte w i h) (7 - j)
        each j l true r =
            let both = fixed_in_row_lem j r in
            let same = (agrees_iff w (8 * h + j - i) (weight x (7 - j))).0 (a j l both.0) both.1 in
            masked_bit j l ∙ omega (arith, mask_bit_is j true r, row_bit_is j true r) ∙ sym (row_shows j l)
        each j l false r = masked_bit j l ∙ omega (arith, mask_bit_is j false r, row_bit_is j false r) ∙ sym (row_shows j l)

-- a row laid on the text's bytes

module _ (t : Packed) (w : Pattern) where
  pub row_fits_at : (i b : ℕ) → row_fits t w i b ≡ true → (h : ℕ) → h < bytes_for (w.count + i)
      → bit_and (get_or t.bytes (b + h) 0) (row_mask w i h) ≡ row_byte w i h
  unfolding row_fits
  row_fits_at i b e h l = eqb-true _ _ (every_at (bytes_for (w.count + i)) _ e h l)

  pub to_row_fits : (i b : ℕ)
      → ((h : ℕ) → h < bytes_for (w.count + i) → bit_and (get_or t.bytes (b + h) 0) (row_mask w i h) ≡ row_byte w i h)
      → row_fits t w i b ≡ true
  unfolding row_fits
  to_row_fits i b f = to_every (bytes_for (w.count + i)) _ (λ h l. eq-eqb _ _ (f h l))

  -- "Comparison is by bytes with shifted rows": at place s it is the comparison bit by bit.
  pub rows_match : (s : ℕ) → row_fits t w (s % 8) (s / 8) ≡ matches t w s
  rows_match s = same_test (row_fits t w (s % 8) (s / 8)) (matches t w s) to from
    where
      i : ℕ
      i = s % 8

      -- the bit of the text at index k of the pattern, in its byte
      in_byte : (h j k : ℕ) → j < 8 → 8 * h + j ≡ i + k → weight (get_or t.bytes (s / 8 + h) 0) (7 - j) ≡ bit_at t.bytes (s + k)
      in_byte h j k l e = sym (bit_in_byte t.bytes (s / 8 + h) l) ∙ ap (bit_at t.bytes) (omega arith)

      to : row_fits t w i (s / 8) ≡ true → matches t w s ≡ true
      to e =
          to_matches t w s (λ k l.
          let h : ℕ = (i + k) / 8 in
          let j : ℕ = (i + k) % 8 in
          let at : 8 * h + j ≡ i + k = omega arith in
          let index : 8 * h + j - i ≡ k = omega arith in
          let agreed = byte_agrees w i h (get_or t.bytes (s / 8 + h) 0) (row_fits_at i (s / 8) e h (omega arith)) j (omega arith)
          (to_in_row w i h j (omega arith) (omega arith)) in
          rw (index, in_byte h j k (omega arith) at) at agreed)

      from : matches t w s ≡ true → row_fits t w i (s / 8) ≡ true
      from e =
          to_row_fits i (s / 8) (λ h l. agrees_byte w i h (get_or t.bytes (s / 8 + h) 0) (λ j u r.
          let inside = in_row_lem w i h j r in
          rw (in_byte h j (8 * h + j - i) u (omega arith)) (matches_at t w s e (8 * h + j - i) inside.1)))

  -- and the occurrence test below E
  pub rows_occur : (s : ℕ) → s < places t w → row_fits t w (s % 8) (s / 8) ≡ occurs t w s
  rows_occur s inside = rows_match s ∙ sym (occurs_inside t w s inside)

  pub plain_sound : (s : ℕ) → s < places t w → Sound Plain t w s
  unfolding finds ahead plain_finds
  plain_sound s inside =
      cut_at_places Plain t w s inside (omega arith)
      (ap (λ (b : Bool). keep b s []) (rows_occur s inside) ∙ sym (occurrences_one t w s))
