-- A step of the tail method by its masks: it moves by the greatest length that the window's end leaves, and finds its place just where
-- the window agrees with the pattern.
-- Assumes nothing.
use Prim.Native.Nat.{ℕ, zero, suc, ◌+◌, ◌-◌, ◌*◌, ◌/◌, ◌%◌, ◌^◌, ◌≤◌, ◌<◌, min, max}
use mathlib.Core.Path.{◌≡◌, refl, sym, ap, ◌∙◌}
use mathlib.Core.Logic.{◌⊎◌, inl, inr, ◌↔◌}
use mathlib.Core.Bool.{Bool, true, false, ◌&&◌, cond}
use mathlib.Core.List.{List, []}
use mathlib.Core.Option.{Option, some}
use native.Mathlib.Nat.{zero-add}
use native.Mathlib.Omega.{arith}
use lib.Bits.{bit_and, bit_or, bit_xor, and_le_r, xor_lt}
use lib.Dec.{ltb}
use lib.ListN.{length, get_or, set, length-set}
use lib.Pow.{pow_pos, shr_lt, shr-shr}
use lib.Seq.{get_or-set_same, get_or-set_other, drop-set-lt}
use borrow.Author.Tests.{ltb-false}
use Rattle.bits.specs.Packed.{Packed, bit_at, bits_at, weight, bit_of}
use Rattle.bits.proofs.Weight.{bit_or_bit, weight_shr, weight_zero, weight_and, weight_or, ones_shl, same_weights}
use Rattle.bits.proofs.Run.{bits_first, bit_lt, bit_of_bits, weight_of_bits}
use Rattle.rules.specs.declared.Method.TheVariants.{Tail}
use Rattle.rules.specs.Ranges.{keep, greatest}
use Rattle.rules.specs.Pattern.{Pattern, agrees}
use Rattle.rules.specs.Occurrence.{places, matches}
use Rattle.rules.specs.Wide.{beyond}
use Rattle.rules.specs.Tail.{prefix_ends, tail_length, tail_finds, tail_next}
use Rattle.rules.specs.Step.{finds, ahead, next}
use Rattle.rules.proofs.Ranges.{not_true_false, every_same, greatest_same}
use Rattle.rules.proofs.Pattern.{agrees_one, agrees_zero}
use Rattle.rules.proofs.Occurrence.{matches_at, to_matches}
use Rattle.matcher.specs.Tables.{Prepared}
use Rattle.matcher.specs.Ready.{GoodPattern, Ready}
use Rattle.tail.specs.declared.Masks.{Masks}
use Rattle.tail.specs.Lengths.{ends_in, MasksOf, Longest, Moves, Made}
use Rattle.tail.proofs.TailMasks.{xor_less, same_where, agrees_masked, masks_of_tables}

pub short_enough : (w : Pattern) → GoodPattern Tail w → w.count ≤ 64
short_enough w g = ltb-false 64 w.count g.fit

-- ---- numbers

-- a place before the last one at which the pattern fits into the text is one of the places
pub before_end : (at n m : ℕ) → m ≤ n → at < n - m + 1 → at < 1 + n - m
before_end at n m h l = omega arith

pub at_most_min : (a b : ℕ) → a ≤ b → min a b ≡ a
at_most_min a b h = omega arith

-- a move of at most m from there stays before the end of the text
pub stays : (at n m far : ℕ) → far ≤ m → m ≤ n → at < 1 + n - m → at + far ≤ n
stays at n m far few h l = omega arith

-- one step is more than none
pub not_both : (steps : ℕ) → steps ≡ 0 → steps ≡ 1 → ⊥
not_both steps e f = omega arith

pub counts : (steps : ℕ) → steps + 1 ≡ 0 → ⊥
counts steps e = omega arith

-- a mark that is a place, and one past the places that no step has moved, cannot be the same
pub one_made : (steps at s end : ℕ) → steps ≤ 1 → s < end → end ≤ at → (steps ≡ 0 → at ≡ s) → steps ≡ 1
one_made zero at s end few l past same = let e : at ≡ s = same refl in omega arith
one_made (suc steps) at s end few l past same = omega arith

-- ---- the table

module _ (w : Pattern) (some_bits : 0 < w.count) (few_bits : w.count ≤ 64) where
  inside : ℕ
  inside = 18446744073709551615 * 2 ^ (64 - w.count) % 2 ^ 64

  inside_bit : (j : ℕ) → j < 64 → bit_of 64 inside j ≡ cond (ltb j w.count) 1 0
  unfolding inside
  inside_bit j l = rw (zero-add j) at (ones_shl 0 w.count some_bits (omega arith) j l)

  word_bit : (bytes : List ℕ) (j : ℕ) → j < 64 → bit_of 64 (bits_at bytes 0 64) j ≡ bit_at bytes j
  word_bit bytes j l = bit_of_bits bytes 0 l ∙ ap (bit_at bytes) (zero-add j)

  care : ℕ
  care = bit_and (bits_at w.fixed 0 64) inside

  ones : ℕ
  ones = bit_and (bits_at w.bytes 0 64) care

  care_is : (j : ℕ) → j < 64 → bit_of 64 care j ≡ min (bit_at w.fixed j) (bit_of 64 inside j)
  unfolding care
  care_is j l = weight_and (bits_at w.fixed 0 64) inside (63 - j) ∙ ap (λ (b : ℕ). min b (bit_of 64 inside j)) (word_bit w.fixed j l)

  ones_is : (j : ℕ) → j < 64 → bit_of 64 ones j ≡ min (bit_at w.bytes j) (bit_of 64 care j)
  unfolding ones
  ones_is j l = weight_and (bits_at w.bytes 0 64) care (63 - j) ∙ ap (λ (b : ℕ). min b (bit_of 64 care j)) (word_bit w.bytes j l)

  -- the mask for text bits of 1
  ones_mask : (j : ℕ) → j < 64 → bit_of 64 (bit_or ones (bit_xor inside care)) j ≡ cond (ltb j w.count && agrees w j 1) 1 0
  ones_mask j l =
      let c = care_is j l in
      weight_or ones (bit_xor inside care) (63 - j)
      ∙ ap (max (bit_of 64 ones j)) (xor_less inside care (63 - j) (omega arith))
      ∙ go (ltb j w.count) (inside_bit j l) c (ones_is j l)
    where
      go : (b : Bool) → bit_of 64 inside j ≡ cond b 1 0 → bit_of 64 care j ≡ min (bit_at w.fixed j) (bit_of 64 inside j)
          → bit_of 64 ones j ≡ min (bit_at w.bytes j) (bit_of 64 care j)
          → max (bit_of 64 ones j) (bit_of 64 inside j - bit_of 64 care j) ≡ cond (b && agrees w j 1) 1 0
      go true e c o = omega (arith, bit_lt w.bytes j, bit_lt w.fixed j, agrees_one w j)
      go false e c o = omega arith

  -- and that for text bits of 0
  zeros_mask : (j : ℕ) → j < 64 → bit_of 64 (bit_xor inside ones) j ≡ cond (ltb j w.count && agrees w j 0) 1 0
  zeros_mask j l =
      let c = care_is j l in
      xor_less inside ones (63 - j) (omega (arith, ones_is j l))
      ∙ go (ltb j w.count) (inside_bit j l) c (ones_is j l)
    where
      go : (b : Bool) → bit_of 64 inside j ≡ cond b 1 0 → bit_of 64 care j ≡ min (bit_at w.fixed j) (bit_of 64 inside j)
          → bit_of 64 ones j ≡ min (bit_at w.bytes j) (bit_of 64 care j)
          → bit_of 64 inside j - bit_of 64 ones j ≡ cond (b && agrees w j 0) 1 0
      go true e c o = omega (arith, bit_lt w.bytes j, bit_lt w.fixed j, agrees_zero w j)
      go false e c o = omega arith

  pub prepared : (cells : List ℕ) (word second : ℕ) → 2 ≤ length cells → word ≡ bits_at w.bytes 0 64 → second ≡ bits_at w.fixed 0 64
      → let inside = 18446744073709551615 * 2 ^ (64 - w.count) % 2 ^ 64 in
      Prepared Tail w cells (set (set cells 0 (bit_xor inside (bit_and word (bit_and second inside)))) 1
      (bit_or (bit_and word (bit_and second inside)) (bit_xor inside (bit_and second inside))))
  unfolding inside care ones
  prepared cells word second room e f =
      rw (e, f)
      record {
        tables = record { mask_is = λ c j two l. mask c j l (bit_or_bit c two) };
        size = length-set (set cells 0 zero_cell) 1 one_cell ∙ length-set cells 0 zero_cell;
        rest = drop-set-lt 2 (set cells 0 zero_cell) 1 one_cell (omega arith) ∙ drop-set-lt 2 cells 0 zero_cell (omega arith);
      }
    where
      zero_cell : ℕ
      zero_cell = bit_xor inside ones

      one_cell : ℕ
      one_cell = bit_or ones (bit_xor inside care)

      mask : (c j : ℕ) → j < 64 → (c ≡ 0) ⊎ (c ≡ 1) → bit_of 64 (get_or (set (set cells 0 zero_cell) 1 one_cell) c 0) j ≡ cond (ltb j w.count && agrees w j c) 1 0
      mask c j l (inl z) =
          rw z (ap (λ (v : ℕ). bit_of 64 v j) (get_or-set_other (set cells 0 zero_cell) 1 0 one_cell 0 (λ q. omega arith) ∙ get_or-set_same cells 0 zero_cell 0 (omega arith)) ∙ zeros_mask j l)
      mask c j l (inr o) =
          rw o (ap (λ (v : ℕ). bit_of 64 v j) (get_or-set_same (set cells 0 zero_cell) 1 one_cell 0 (rw (length-set cells 0 zero_cell) room)) ∙ ones_mask j l)

-- ---- the window

-- the first m bits of a load that shows 57
pub head_window : (bytes : List ℕ) (p h m : ℕ) → m ≤ 57 → h / 2 ^ 7 ≡ bits_at bytes p 57 → h / 2 ^ (64 - m) ≡ bits_at bytes p m
head_window bytes p h m few e =
    let parts : 64 - m ≡ 7 + (57 - m) = omega arith in
    ap (λ (n : ℕ). h / 2 ^ n) parts
    ∙ sym (shr-shr h 7 (57 - m))
    ∙ ap (λ (y : ℕ). y / 2 ^ (57 - m)) e
    ∙ bits_first bytes p {j = m} {k = 57} few

module _ (t : Packed) (w : Pattern) (s : ℕ) where
  -- the rule's test of a length is the one on the window as a number
  prefix_is : (r : ℕ) → r ≤ w.count → prefix_ends t w s r ≡ ends_in w (bits_at t.bytes s w.count) r
  unfolding prefix_ends ends_in
  prefix_is r few =
      every_same r _ _ (λ j l.
      let there : s + (w.count - 1 - (r - suc j)) ≡ s + w.count - r + j = omega arith in
      ap (agrees w j) (sym (weight_of_bits t.bytes s {i = r - suc j} {k = w.count} (omega arith) ∙ ap (bit_at t.bytes) there)))

  -- a step finds its place just where the pattern stands
  pub finds_alone : finds Tail t w s ≡ keep (matches t w s) s []
  unfolding finds tail_finds
  finds_alone = refl

-- What a call holds: the masks of the pattern, and what is made of them.
pub record Held (w : Pattern) (k : Masks) : Type 0 where
  pub count : k.m ≡ w.count
  pub short : w.count ≤ 64
  pub masks : MasksOf w k.zeros k.ones
  pub small : k.ones < 2 ^ 64
  pub made : Made k

pub held : (t : Packed) (w : Pattern) (cells : List ℕ) → Ready Tail t w cells → (k : Masks)
    → (k.m ≡ w.count) × (k.zeros ≡ get_or cells 0 0) × (k.ones ≡ get_or cells 1 0) × (get_or cells 1 0 < 2 ^ 64) → Made k → Held w k
held t w cells ready k is made =
    let short = short_enough w ready.pattern in
    record {
      count = is.0;
      short = short;
      masks = rw (is.1, is.2) (masks_of_tables w cells short ready.tables);
      small = rw is.2 is.3;
      made = made;
    }

module _ (t : Packed) (w : Pattern) (s : ℕ) (k : Masks) (h : Held w k) (x : ℕ) (e : x ≡ bits_at t.bytes s w.count) where
  -- the next mark, from the move
  pub next_by : (far : ℕ) → Moves k x far → next Tail t w s ≡ min (s + far) (places t w)
  unfolding next ahead tail_next tail_length
  next_by far moves =
      let longest : Longest w.count k.zeros k.ones x moves.length = rw h.count at moves.longest in
      let below = longest.below in
      let found : greatest (prefix_ends t w s) w.count ≡ some moves.length =
      greatest_same (prefix_ends t w s) (ends_in w (bits_at t.bytes s w.count)) w.count (λ p l. prefix_is t w s p (omega arith))
      ∙ rw e at (longest.is w refl h.masks) in
      let there : s + w.count - moves.length ≡ s + far = omega (arith, moves.is, h.count) in
      ap (λ (o : Option ℕ). min (beyond (s + w.count) o) (places t w)) found ∙ ap (λ (e : ℕ). min e (places t w)) there

  -- what the window is compared with, and where
  whole : ℕ
  whole = k.ones / 2 ^ (64 - w.count)

  care_there : ℕ
  care_there = k.care / 2 ^ (64 - w.count)

  -- a bit of a word at the window's place
  down_bit : (y j : ℕ) → j < w.count → weight (y / 2 ^ (64 - w.count)) (w.count - 1 - j) ≡ bit_of 64 y j
  down_bit y j l =
      let there : 64 - w.count + (w.count - 1 - j) ≡ 63 - j = omega (arith, h.short) in
      weight_shr y (64 - w.count) (w.count - 1 - j) ∙ ap (weight y) there

  window_bit : (j : ℕ) → j < w.count → weight x (w.count - 1 - j) ≡ bit_at t.bytes (s + j)
  window_bit j l =
      let there : s + (w.count - 1 - (w.count - 1 - j)) ≡ s + j = omega arith in
      ap (λ (y : ℕ). weight y (w.count - 1 - j)) e ∙ weight_of_bits t.bytes s {i = w.count - 1 - j} {k = w.count} (omega arith) ∙ ap (bit_at t.bytes) there

  -- a bit of the text agrees with the pattern just where the comparison has a 0
  bit_agrees : (j : ℕ) → j < w.count → (agrees w j (bit_at t.bytes (s + j)) ≡ true) ↔ (weight (bit_and (bit_xor x whole) care_there) (w.count - 1 - j) ≡ 0)
  unfolding whole care_there
  bit_agrees j l =
      let by = agrees_masked w k.zeros k.ones h.masks j (bit_at t.bytes (s + j)) l (omega (arith, h.short)) in
      let there = same_where x whole care_there (w.count - 1 - j) in (
        λ a. there.1 (λ c. window_bit j l ∙ sym (by.0 a (rw h.made.care_is at (sym (down_bit k.care j l) ∙ c))) ∙ sym (down_bit k.ones j l)),
        λ z. by.1 (λ c. sym (down_bit k.ones j l) ∙ sym (there.0 z (down_bit k.care j l ∙ rw h.made.care_is c)) ∙ window_bit j l),
      )

  -- the window agrees with the pattern
  pub window_hit : bit_and (bit_xor x (k.ones / 2 ^ (64 - w.count))) (k.care / 2 ^ (64 - w.count)) ≡ 0 → matches t w s ≡ true
  unfolding whole care_there
  window_hit none =
      to_matches t w s (λ j l.
      (bit_agrees j l).1 (ap (λ (y : ℕ). weight y (w.count - 1 - j)) none ∙ weight_zero (w.count - 1 - j)))

  pub window_miss : (bit_and (bit_xor x (k.ones / 2 ^ (64 - w.count))) (k.care / 2 ^ (64 - w.count)) ≡ 0 → ⊥) → matches t w s ≡ false
  unfolding whole care_there
  window_miss other =
      not_true_false (matches t w s) (λ m.
      other (same_weights w.count _ 0 (omega (arith, and_le_r (bit_xor x whole) care_there, few)) (pow_pos w.count) (λ i l.
      let there : w.count - 1 - (w.count - 1 - i) ≡ i = omega arith in
      ap (weight (bit_and (bit_xor x whole) care_there)) (sym there)
      ∙ (bit_agrees (w.count - 1 - i) (omega arith)).0 (matches_at t w s m (w.count - 1 - i) (omega arith))
      ∙ sym (weight_zero i))))
    where
      all : w.count + (64 - w.count) ≡ 64
      all = omega (arith, h.short)

      care_small : k.care < 2 ^ 64
      care_small =
          rw h.made.care_is (xor_lt 64 18446744073709551615 (bit_and k.zeros k.ones) (omega arith) (omega (arith, and_le_r k.zeros k.ones, h.small)))

      few : care_there < 2 ^ w.count
      few = shr_lt w.count (64 - w.count) (rw all care_small)
