-- How the tables of a set are made: what each turn of the code's loops adds, and what the words then say of the patterns.
-- Assumes nothing.
use Prim.Native.Nat.{ℕ, zero, suc, ◌+◌, ◌-◌, ◌*◌, ◌/◌, ◌%◌, ◌^◌, ◌≤◌, ◌<◌, min, max}
use mathlib.Core.Path.{◌≡◌, refl, sym, ap, ap₂, ◌∙◌}
use mathlib.Core.Logic.{◌⊎◌, inl, inr}
use mathlib.Core.Bool.{Bool, true, false, ◌&&◌, cond}
use mathlib.Core.List.{List}
use native.Mathlib.Nat.{zero-add}
use native.Mathlib.Decide.{dec_lt}
use native.Mathlib.Numerals.{add-one}
use native.Mathlib.Omega.{arith}
use lib.Bits.{bit_and, bit_or, or_zero_r}
use lib.Dec.{ltb, eqb}
use lib.ListN.{length, get_or, set, drop, length-set, length-drop}
use lib.Pow.{shl_exact}
use lib.Seq.{get_or-set_same, get_or-set_other}
use borrow.Author.Tests.{lt-ltb, le-ltb, eqb-true, eqb-false, eq-eqb, ne_eqb}
use Rattle.bits.specs.Packed.{weight, bit_of, bit_at, bits_at, bytes_for}
use Rattle.bits.proofs.Weight.{weight_shr, shl_high, weight_zero, weight_ones, weight_and, weight_or, same_weights}
use Rattle.bits.proofs.Run.{bit_lt, bit_of_bits}
use Rattle.rules.specs.Ranges.{implies, every}
use Rattle.rules.specs.Pattern.{Pattern, is_fixed, agrees}
use Rattle.rules.proofs.Ranges.{split, implies_to, to_implies, same_test, eq_or_below, every_at, to_every, every_same}
use Rattle.matcher.specs.Words.{same_where}
use Rattle.matcher.specs.Lined.{Only}
use Rattle.matcher.proofs.Words.{head_is}
use Rattle.matcher.proofs.SingleBits.{weight_power}
use Rattle.matcher.proofs.LinedCells.{only_none, only_set}
use Rattle.matcher.specs.Ready.{HeadOf}
use Rattle.set_rules.specs.PatternSet.{PatternSet, start_of, pattern_at}
use Rattle.set_tables.specs.Fronts.{begins, Flags, Halves, Tables, front, Kept}
use Rattle.set_tables.specs.Parts.{GoodSet, HalfEntered, Entered, RowPaired, PairedUp}
use Rattle.set_tables.proofs.Begins.{begins_parts}

-- The words of four bits, one group of sixteen cells

-- the flag of value x is entered in a cell that held `old`
abbrev pub with_flag : ℕ → ℕ → ℕ → ℕ → ℕ → ℕ
with_flag value care flag x old = bit_or old (cond (same_where (x * 2 ^ 60 % 2 ^ 64) value care 4) flag 0)

-- the values below x are passed
pub record HalfTo (at value care flag x : ℕ) (before cells : List ℕ) : Type 0 where
  pub done : (y : ℕ) → y < x → get_or cells (at + y) 0 ≡ with_flag value care flag y (get_or before (at + y) 0)
  pub rest : (y : ℕ) → x ≤ y → get_or cells (at + y) 0 ≡ get_or before (at + y) 0
  pub only : Only at (at + 16) before cells

module _ (at value care flag : ℕ) (before : List ℕ) where
  module _ (x : ℕ) (cells : List ℕ) (so_far : HalfTo at value care flag x before cells) where
    pub half_keep : same_where (x * 2 ^ 60 % 2 ^ 64) value care 4 ≡ false → HalfTo at value care flag (x + 1) before cells
    half_keep e = record { done = λ y l. go y (eq_or_below (omega arith)); rest = λ y l. so_far.rest y (omega arith); only = so_far.only }
      where
        go : (y : ℕ) → (y ≡ x) ⊎ (y < x) → get_or cells (at + y) 0 ≡ with_flag value care flag y (get_or before (at + y) 0)
        go y (inl q) = rw (q, e) (so_far.rest x (omega arith) ∙ sym (or_zero_r _))
        go y (inr q) = so_far.done y q

    pub half_set : x < 16 → at + 16 ≤ length before → same_where (x * 2 ^ 60 % 2 ^ 64) value care 4 ≡ true
        → HalfTo at value care flag (x + 1) before (set cells (at + x) (bit_or (get_or cells (at + x) 0) flag))
    half_set few room e =
        record {
          done = λ y l. go y (eq_or_below (omega arith));
          rest = λ y l. get_or-set_other cells (at + x) (at + y) new 0 (λ e. absurd (omega arith)) ∙ so_far.rest y (omega arith);
          only = only_set (at + x) new so_far.only (omega arith) (omega arith);
        }
      where
        new : ℕ
        new = bit_or (get_or cells (at + x) 0) flag

        go : (y : ℕ) → (y ≡ x) ⊎ (y < x) → get_or (set cells (at + x) new) (at + y) 0 ≡ with_flag value care flag y (get_or before (at + y) 0)
        go y (inl q) =
            rw (q, e)
            (get_or-set_same cells (at + x) new 0 (omega (arith, so_far.only.size)) ∙ ap (λ (z : ℕ). bit_or z flag) (so_far.rest x (omega arith)))
        go y (inr q) = get_or-set_other cells (at + x) (at + y) new 0 (λ e. absurd (omega arith)) ∙ so_far.done y q

-- Four fixed bits: the value of the word's own first four bits alone agrees

module _ (value care : ℕ) (small : value < 2 ^ 64) (all : care / 2 ^ 60 ≡ 15) where
  fixed_bit : (i : ℕ) → i < 4 → weight care (60 + i) ≡ 1
  fixed_bit i l = sym (weight_shr care 60 i) ∙ rw all (weight_ones 4 i l)

  shifted_bit : (x i : ℕ) → i < 4 → weight (x * 2 ^ 60 % 2 ^ 64) (60 + i) ≡ weight x i
  shifted_bit x i l = let same : 60 + i - 60 ≡ i = omega arith in shl_high x 60 (60 + i) (omega arith) (omega arith) ∙ ap (weight x) same

  pub one_agrees : (x : ℕ) → x < 16 → same_where (x * 2 ^ 60 % 2 ^ 64) value care 4 ≡ eqb x (value / 2 ^ 60)
  unfolding same_where
  one_agrees x few = same_test _ _ to back
    where
      to : every 4 (λ j. implies (eqb (bit_of 64 care j) 1) (eqb (bit_of 64 (x * 2 ^ 60 % 2 ^ 64) j) (bit_of 64 value j))) ≡ true → eqb x (value / 2 ^ 60) ≡ true
      to h = eq-eqb _ _ (same_weights 4 x (value / 2 ^ 60) few (omega arith) each)
        where
          each : (i : ℕ) → i < 4 → weight x i ≡ weight (value / 2 ^ 60) i
          each i l =
              let there : 63 - (3 - i) ≡ 60 + i = omega arith in
              let agree = rw there at (every_at 4 _ h (3 - i) (omega arith)) in
              sym (shifted_bit x i l) ∙ eqb-true _ _ (implies_to _ _ agree (eq-eqb _ _ (fixed_bit i l))) ∙ sym (weight_shr value 60 i)

      back_bit : x ≡ value / 2 ^ 60 → (j : ℕ) → j < 4 → weight (x * 2 ^ 60 % 2 ^ 64) (63 - j) ≡ weight value (63 - j)
      back_bit h j l =
          let there : 63 - j ≡ 60 + (3 - j) = omega arith in
          rw there (shifted_bit x (3 - j) (omega arith) ∙ ap (λ (z : ℕ). weight z (3 - j)) h ∙ weight_shr value 60 (3 - j))

      back : eqb x (value / 2 ^ 60) ≡ true → every 4 (λ j. implies (eqb (bit_of 64 care j) 1) (eqb (bit_of 64 (x * 2 ^ 60 % 2 ^ 64) j) (bit_of 64 value j))) ≡ true
      back h =
          to_every 4 (λ j. implies (eqb (bit_of 64 care j) 1) (eqb (bit_of 64 (x * 2 ^ 60 % 2 ^ 64) j) (bit_of 64 value j)))
          (λ j l.
          to_implies (eqb (bit_of 64 care j) 1) (eqb (bit_of 64 (x * 2 ^ 60 % 2 ^ 64) j) (bit_of 64 value j))
          (λ e. eq-eqb (bit_of 64 (x * 2 ^ 60 % 2 ^ 64) j) (bit_of 64 value j) (back_bit (eqb-true x (value / 2 ^ 60) h) j l)))

  -- so one store enters the pattern
  pub half_one : (at flag : ℕ) (before : List ℕ) → at + 16 ≤ length before
      → HalfEntered at value care flag before (set before (at + value / 2 ^ 60) (bit_or (get_or before (at + value / 2 ^ 60) 0) flag))
  half_one at flag before room =
      record { entered = λ x l. go x l (split (eqb x (value / 2 ^ 60))); only = only_set (at + value / 2 ^ 60) new only_none (omega arith) (omega arith) }
    where
      new : ℕ
      new = bit_or (get_or before (at + value / 2 ^ 60) 0) flag

      go : (x : ℕ) → x < 16 → (eqb x (value / 2 ^ 60) ≡ true) ⊎ (eqb x (value / 2 ^ 60) ≡ false)
          → get_or (set before (at + value / 2 ^ 60) new) (at + x) 0 ≡ with_flag value care flag x (get_or before (at + x) 0)
      go x l (inl e) = rw (one_agrees x l, e, eqb-true x (value / 2 ^ 60) e) (get_or-set_same before (at + value / 2 ^ 60) new 0 (omega arith))
      go x l (inr e) =
          rw (one_agrees x l, e)
          (get_or-set_other before (at + value / 2 ^ 60) (at + x) new 0 (λ q. absurd (eqb-false x (value / 2 ^ 60) e (omega arith))) ∙ sym (or_zero_r _))

-- All eight groups

-- the groups below g are passed
pub record EnteredTo (value care flag g : ℕ) (before cells : List ℕ) : Type 0 where
  pub done : (k x : ℕ) → k < g → x < 16
      → get_or cells (16 * k + x) 0
      ≡ with_flag (value * 2 ^ (4 * k) % 2 ^ 64) (care * 2 ^ (4 * k) % 2 ^ 64) flag x (get_or before (16 * k + x) 0)
  pub rest : (i : ℕ) → 16 * g ≤ i → get_or cells i 0 ≡ get_or before i 0
  pub size : length cells ≡ length before

-- Four bits of a pattern

-- a bit counts where the second run has a 1 and the pattern has not ended
under_both : (b e : Bool) (f : ℕ) → f < 2 → implies (eqb (min f (cond b 1 0)) 1) e ≡ implies b (implies (eqb f 1) e)
under_both true e f l = let same : min f 1 ≡ f = omega arith in rw same
under_both false e f l = let none : min f 0 ≡ 0 = omega arith in rw none

module _ (w : Pattern) (value care ones : ℕ) (value_is : value ≡ bits_at w.bytes 0 64) (care_is : care ≡ bit_and (bits_at w.fixed 0 64) ones)
    (ones_are : (j : ℕ) → j < 64 → bit_of 64 ones j ≡ cond (ltb j (min w.count 57)) 1 0) where
  value_bit : (p : ℕ) → p < 64 → weight value (63 - p) ≡ bit_at w.bytes p
  value_bit p l = ap (λ (z : ℕ). bit_of 64 z p) value_is ∙ bit_of_bits w.bytes 0 l ∙ ap (bit_at w.bytes) (zero-add p)

  early : (p : ℕ) → p < 57 → ltb p (min w.count 57) ≡ ltb p w.count
  early p l = go (dec_lt p w.count)
    where
      go : Dec (p < w.count) → ltb p (min w.count 57) ≡ ltb p w.count
      go (yes u) = lt-ltb p (min w.count 57) (omega arith) ∙ sym (lt-ltb p w.count u)
      go (no u) = le-ltb p (min w.count 57) (omega arith) ∙ sym (le-ltb p w.count (omega arith))

  care_bit : (p : ℕ) → p < 57 → weight care (63 - p) ≡ min (bit_at w.fixed p) (cond (ltb p w.count) 1 0)
  care_bit p l =
      ap (λ (z : ℕ). weight z (63 - p)) care_is
      ∙ weight_and (bits_at w.fixed 0 64) ones (63 - p)
      ∙ ap₂ min (bit_of_bits w.fixed 0 (omega arith) ∙ ap (bit_at w.fixed) (zero-add p))
      (ones_are p (omega arith) ∙ ap (λ (b : Bool). cond b 1 0) (early p l))

  -- the words shifted by 4 g agree with four bits where the pattern does from bit 4 g on
  pub same_begins : (g x : ℕ) → g < 8
      → same_where (x * 2 ^ 60 % 2 ^ 64) (value * 2 ^ (4 * g) % 2 ^ 64) (care * 2 ^ (4 * g) % 2 ^ 64) 4 ≡ begins w (4 * g) 4 x
  unfolding same_where begins agrees is_fixed
  same_begins g x few = every_same 4 _ _ (λ j l. each j l)
    where
      each : (j : ℕ) → j < 4
          → implies (eqb (bit_of 64 (care * 2 ^ (4 * g) % 2 ^ 64) j) 1) (eqb (bit_of 64 (x * 2 ^ 60 % 2 ^ 64) j) (bit_of 64 (value * 2 ^ (4 * g) % 2 ^ 64) j))
          ≡ implies (ltb (4 * g + j) w.count) (implies (eqb (bit_at w.fixed (4 * g + j)) 1) (eqb (bit_of 4 x j) (bit_at w.bytes (4 * g + j))))
      each j l =
          let there : 63 - j - 4 * g ≡ 63 - (4 * g + j) = omega arith in
          let low : 63 - j - 60 ≡ 3 - j = omega arith in
          let is_x : weight (x * 2 ^ 60 % 2 ^ 64) (63 - j) ≡ weight x (3 - j) = shl_high x 60 (63 - j) (omega arith) (omega arith) ∙ ap (weight x) low in
          let is_value : weight (value * 2 ^ (4 * g) % 2 ^ 64) (63 - j) ≡ bit_at w.bytes (4 * g + j) =
          shl_high value (4 * g) (63 - j) (omega arith) (omega arith) ∙ ap (weight value) there ∙ value_bit (4 * g + j) (omega arith) in
          let is_care : weight (care * 2 ^ (4 * g) % 2 ^ 64) (63 - j) ≡ min (bit_at w.fixed (4 * g + j)) (cond (ltb (4 * g + j) w.count) 1 0) =
          shl_high care (4 * g) (63 - j) (omega arith) (omega arith) ∙ ap (weight care) there ∙ care_bit (4 * g + j) (omega arith) in
          ap₂ (λ (c : ℕ) (e : Bool). implies (eqb c 1) e) is_care (ap₂ eqb is_x is_value)
          ∙ under_both (ltb (4 * g + j) w.count) (eqb (weight x (3 - j)) (bit_at w.bytes (4 * g + j))) (bit_at w.fixed (4 * g + j)) (bit_lt w.fixed (4 * g + j))

-- One pattern more in the words

chosen : (a b : Bool) → ◌≡◌ {A = ℕ} (cond b (cond a 1 0) 0) (cond (a && b) 1 0)
chosen true true = refl
chosen true false = refl
chosen false true = refl
chosen false false = refl

-- the flag of pattern i, set or not, at any weight
flag_bit : (b : Bool) (i e : ℕ) → weight (cond b (2 ^ i) 0) e ≡ cond (eqb e i && b) 1 0
flag_bit true i e = weight_power i e ∙ chosen (eqb e i) true
flag_bit false i e = weight_zero e ∙ chosen (eqb e i) false

-- pattern i is entered in a word that has the flags of those before it
flags_more : (ws : PatternSet) (i : ℕ) (test : Pattern → Bool) (old : ℕ) → Flags ws i test old
    → Flags ws (i + 1) test (bit_or old (cond (test (pattern_at ws i)) (2 ^ i) 0))
flags_more ws i test old so_far e =
    weight_or old (cond (test (pattern_at ws i)) (2 ^ i) 0) e
    ∙ ap₂ max (so_far e) (flag_bit (test (pattern_at ws i)) i e)
    ∙ go (dec_lt e i) (dec_lt i e)
  where
    go : Dec (e < i) → Dec (i < e)
        → max (cond (ltb e i && test (pattern_at ws e)) 1 0) (cond (eqb e i && test (pattern_at ws i)) 1 0) ≡ cond (ltb e (i + 1) && test (pattern_at ws e)) 1 0
    go (yes l) d = rw (lt-ltb e i l, lt-ltb e (i + 1) (omega arith), ne_eqb e i (λ q. absurd (omega arith))) (omega arith)
    go (no n) (yes l) = rw (le-ltb e i (omega arith), le-ltb e (i + 1) (omega arith), ne_eqb e i (λ q. absurd (omega arith)))
    go (no n) (no m) =
        let same : e ≡ i = omega arith in
        rw (le-ltb e i (omega arith), lt-ltb e (i + 1) (omega arith), eq-eqb e i same, same) (omega arith)

one_at : (i : ℕ) → i < 64 → (1 * 2 ^ i) % 2 ^ 64 ≡ 2 ^ i
one_at i l = shl_exact {a = 1} 1 i 64 (omega arith) (omega arith) ∙ omega arith

halves_none : (ws : PatternSet) (cells : List ℕ) → ((z : ℕ) → get_or cells z 0 ≡ 0) → Halves ws 0 cells
halves_none ws cells none g x l h e = rw (none (16 * g + x), le-ltb e 0 (omega arith)) (weight_zero e)

-- pattern i is entered in all words
halves_more : (ws : PatternSet) (i value care ones : ℕ) (before cells : List ℕ) → i < 64
    → value ≡ bits_at (pattern_at ws i).bytes 0 64 → care ≡ bit_and (bits_at (pattern_at ws i).fixed 0 64) ones
    → ((j : ℕ) → j < 64 → bit_of 64 ones j ≡ cond (ltb j (min (pattern_at ws i).count 57)) 1 0)
    → Halves ws i before → Entered value care ((1 * 2 ^ i) % 2 ^ 64) before cells → Halves ws (i + 1) cells
halves_more ws i value care ones before cells few value_is care_is ones_are so_far new g x l h e =
    ap (λ (z : ℕ). weight z e)
    (new.entered g x l h
    ∙ ap₂ (λ (b : Bool) (f : ℕ). bit_or (get_or before (16 * g + x) 0) (cond b f 0))
    (same_begins (pattern_at ws i) value care ones value_is care_is ones_are g x l)
    (one_at i few))
    ∙ flags_more ws i (λ w. begins w (4 * g) 4 x) (get_or before (16 * g + x) 0) (so_far g x l h) e

-- What is kept of each pattern

kept_none : (ws : PatternSet) (rows : List ℕ) → Kept ws 0 rows
kept_none ws rows = record { starts_are = λ j l. absurd (omega arith); heads_are = λ j l. absurd (omega arith) }

-- three cells more
abbrev kept_cells : List ℕ → ℕ → ℕ → ℕ → ℕ → List ℕ
kept_cells rows i start head mask = set (set (set rows i start) (64 + i) head) (128 + i) mask

module _ (rows : List ℕ) (i start head mask : ℕ) where
  kept_size : length (kept_cells rows i start head mask) ≡ length rows
  kept_size = length-set (set (set rows i start) (64 + i) head) (128 + i) mask ∙ length-set (set rows i start) (64 + i) head ∙ length-set rows i start

  kept_other : (z : ℕ) → (z ≡ i → ⊥) → (z ≡ 64 + i → ⊥) → (z ≡ 128 + i → ⊥) → get_or (kept_cells rows i start head mask) z 0 ≡ get_or rows z 0
  kept_other z a b c =
      get_or-set_other (set (set rows i start) (64 + i) head) (128 + i) z mask 0 c
      ∙ get_or-set_other (set rows i start) (64 + i) z head 0 b
      ∙ get_or-set_other rows i z start 0 a

  module _ (few : i < 64) (room : 192 ≤ length rows) where
    kept_start : get_or (kept_cells rows i start head mask) i 0 ≡ start
    kept_start =
        get_or-set_other (set (set rows i start) (64 + i) head) (128 + i) i mask 0 (λ e. absurd (omega arith))
        ∙ get_or-set_other (set rows i start) (64 + i) i head 0 (λ e. absurd (omega arith))
        ∙ get_or-set_same rows i start 0 (omega arith)

    kept_head : get_or (kept_cells rows i start head mask) (64 + i) 0 ≡ head
    kept_head =
        get_or-set_other (set (set rows i start) (64 + i) head) (128 + i) (64 + i) mask 0 (λ e. absurd (omega arith))
        ∙ get_or-set_same (set rows i start) (64 + i) head 0 (omega (arith, length-set rows i start))

    kept_mask : get_or (kept_cells rows i start head mask) (128 + i) 0 ≡ mask
    kept_mask = get_or-set_same (set (set rows i start) (64 + i) head) (128 + i) mask 0 (omega (arith, length-set (set rows i start) (64 + i) head, length-set rows i start))

kept_more : (ws : PatternSet) (i start head mask : ℕ) (rows : List ℕ) → i < 64 → 192 ≤ length rows → start ≡ start_of ws.counts i
    → HeadOf (pattern_at ws i) head mask → Kept ws i rows → Kept ws (i + 1) (kept_cells rows i start head mask)
kept_more ws i start head mask rows few room is head_is so_far =
    record { starts_are = λ j l. go j (eq_or_below (omega arith)); heads_are = λ j l. there j (eq_or_below (omega arith)) }
  where
    go : (j : ℕ) → (j ≡ i) ⊎ (j < i) → get_or (kept_cells rows i start head mask) j 0 ≡ start_of ws.counts j
    go j (inl q) = rw q (kept_start rows i start head mask few room ∙ is)
    go j (inr q) =
        kept_other rows i start head mask j (λ e. absurd (omega arith)) (λ e. absurd (omega arith)) (λ e. absurd (omega arith))
        ∙ so_far.starts_are j q

    there : (j : ℕ) → (j ≡ i) ⊎ (j < i) → HeadOf (pattern_at ws j) (get_or (kept_cells rows i start head mask) (64 + j) 0) (get_or (kept_cells rows i start head mask) (128 + j) 0)
    there j (inl q) = rw q (rw (kept_head rows i start head mask few room, kept_mask rows i start head mask few room) head_is)
    there j (inr q) =
        let first = kept_other rows i start head mask (64 + j) (λ e. absurd (omega arith)) (λ e. absurd (omega arith)) (λ e. absurd (omega arith)) in
        let second = kept_other rows i start head mask (128 + j) (λ e. absurd (omega arith)) (λ e. absurd (omega arith)) (λ e. absurd (omega arith)) in
        rw (first, second) (so_far.heads_are j q)

-- the next one begins after the bytes that this one takes
pub start_next : (counts : List ℕ) (i : ℕ) → start_of counts (i + 1) ≡ start_of counts i + bytes_for (get_or counts i 0)
unfolding start_of
start_next counts i = rw add-one

-- The patterns of a set that has passed the refusals: they are few and short, and each lies in either run
module _ (ws : PatternSet) (good : GoodSet ws) where
  pub start_small : (i : ℕ) → i ≤ length ws.counts → start_of ws.counts i ≤ 256 * i
  unfolding start_of
  start_small zero h = omega arith
  start_small (suc i) h =
      let ih = start_small i (omega arith) in
      let short = (good.each i (omega arith)).few_bits in
      omega arith

  pub start_in_bytes : (i : ℕ) → i < length ws.counts → start_of ws.counts i ≤ length ws.bytes
  start_in_bytes i h =
      let p = good.each i h in
      let some = p.some_bits in
      let there = p.bytes_there in
      let size = length-drop (start_of ws.counts i) ws.bytes in
      omega arith

  pub start_in_fixed : (i : ℕ) → i < length ws.counts → start_of ws.counts i ≤ length ws.fixed
  start_in_fixed i h =
      let p = good.each i h in
      let some = p.some_bits in
      let there = p.fixed_there in
      let size = length-drop (start_of ws.counts i) ws.fixed in
      omega arith

-- the first i patterns are entered, and the next one begins at `start`
pub record EnteringAll (ws : PatternSet) (i start : ℕ) (rows_before rows halves_before halves : List ℕ) : Type 0 where
  pub inside : i ≤ length ws.counts
  pub start_is : start ≡ start_of ws.counts i
  pub kept : Kept ws i rows
  pub halves_are : Halves ws i halves
  pub rows_size : length rows ≡ length rows_before
  pub halves_size : length halves ≡ length halves_before

-- what is known of pattern i as its turn comes
pub record Inside (ws : PatternSet) (i start : ℕ) : Type 0 where
  pub few : i < 64
  pub start_low : start ≤ 16384
  pub in_bytes : start ≤ length ws.bytes
  pub in_fixed : start ≤ length ws.fixed
  pub some_bits : 0 < get_or ws.counts i 0
  pub few_bits : get_or ws.counts i 0 ≤ 2048

module _ (ws : PatternSet) (rows_before halves_before : List ℕ) where
  pub entering_none : ((z : ℕ) → get_or halves_before z 0 ≡ 0) → EnteringAll ws 0 0 rows_before rows_before halves_before halves_before
  unfolding start_of
  entering_none none =
      record {
        inside = omega arith;
        start_is = refl;
        kept = kept_none ws rows_before;
        halves_are = halves_none ws halves_before none;
        rows_size = refl;
        halves_size = refl;
      }

  module _ (good : GoodSet ws) (i start : ℕ) (rows halves : List ℕ) (so_far : EnteringAll ws i start rows_before rows halves_before halves) (l : i < length ws.counts) where
    pub entering_inside : Inside ws i start
    entering_inside =
        record {
          few = omega (arith, good.few);
          start_low = omega (arith, good.few, start_small ws good i so_far.inside, so_far.start_is);
          in_bytes = omega (arith, start_in_bytes ws good i l, so_far.start_is);
          in_fixed = omega (arith, start_in_fixed ws good i l, so_far.start_is);
          some_bits = (good.each i l).some_bits;
          few_bits = (good.each i l).few_bits;
        }

    pub entering_more : (value care ones : ℕ) (halves' : List ℕ) → 192 ≤ length rows_before → ones < 2 ^ 64
        → value ≡ bits_at (drop start ws.bytes) 0 64 → care ≡ bit_and (bits_at (drop start ws.fixed) 0 64) ones
        → ((j : ℕ) → j < 64 → bit_of 64 ones j ≡ cond (ltb j (min (get_or ws.counts i 0) 57)) 1 0)
        → Entered value care ((1 * 2 ^ i) % 2 ^ 64) halves halves'
        → EnteringAll ws (i + 1) (start + bytes_for (get_or ws.counts i 0)) rows_before (kept_cells rows i start (bit_and value care) care) halves_before halves'
    entering_more value care ones halves' room small value_is care_is ones_are new =
        record {
          inside = omega arith;
          start_is = ap (λ (z : ℕ). z + bytes_for (get_or ws.counts i 0)) so_far.start_is ∙ sym (start_next ws.counts i);
          kept =
              kept_more ws i start (bit_and value care) care rows entering_inside.few (omega (arith, so_far.rows_size)) so_far.start_is
              (rw care_is (head_is (drop (start_of ws.counts i) ws.bytes) (drop (start_of ws.counts i) ws.fixed) (get_or ws.counts i 0) (rw so_far.start_is at value_is) (ap (λ (a : ℕ). bits_at (drop a ws.fixed) 0 64) so_far.start_is) small ones_are))
              so_far.kept;
          halves_are = halves_more ws i value care ones halves halves' entering_inside.few (rw so_far.start_is at value_is) (rw so_far.start_is at care_is) ones_are so_far.halves_are new;
          rows_size = kept_size rows i start (bit_and value care) care ∙ so_far.rows_size;
          halves_size = new.size ∙ so_far.halves_size;
        }

-- The words of eight bits

-- the cells of one row below x are made
pub record RowTo (from at first x : ℕ) (halves before cells : List ℕ) : Type 0 where
  pub done : (y : ℕ) → y < x → get_or cells (at + y) 0 ≡ bit_and first (get_or halves (from + y) 0)
  pub only : Only at (at + 16) before cells

-- the rows below z are made
abbrev pub RowsTo : List ℕ → List ℕ → ℕ → Type 0
RowsTo halves cells z = (k x : ℕ) → k < z → x < 16
    → get_or cells (16 * k + x) 0 ≡ bit_and (get_or halves (32 * (k / 16) + k % 16) 0) (get_or halves (32 * (k / 16) + 16 + x) 0)

pub rows_more : (halves cells cells' : List ℕ) (z : ℕ) → RowsTo halves cells z
    → RowPaired (32 * (z / 16) + 16) (16 * z) (get_or halves (32 * (z / 16) + z % 16) 0) halves cells cells'
    → RowsTo halves cells' (z + 1)
rows_more halves cells cells' z so_far new k x l h = go (eq_or_below (omega arith))
  where
    go : (k ≡ z) ⊎ (k < z)
        → get_or cells' (16 * k + x) 0 ≡ bit_and (get_or halves (32 * (k / 16) + k % 16) 0) (get_or halves (32 * (k / 16) + 16 + x) 0)
    go (inl q) = rw q (new.paired x h)
    go (inr q) = new.only.low (16 * k + x) (omega arith) ∙ so_far k x q h

pub rows_all : (halves cells : List ℕ) (z : ℕ) → 64 ≤ z → RowsTo halves cells z → PairedUp halves cells
rows_all halves cells z whole made c x l h =
    let a : 16 * (16 * c + x / 16) + x % 16 ≡ 256 * c + x = omega arith in
    let b : (16 * c + x / 16) / 16 ≡ c = omega arith in
    let d : (16 * c + x / 16) % 16 ≡ x / 16 = omega arith in
    rw (a, b, d) at (made (16 * c + x / 16) (x % 16) (omega arith) (omega arith))

-- Tables of eight bits, and what 32 bits leave

both_flags : (k p q : Bool) → min (cond (k && p) 1 0) (cond (k && q) 1 0) ≡ cond (k && (p && q)) 1 0
both_flags true true true = omega arith
both_flags true true false = omega arith
both_flags true false true = omega arith
both_flags true false false = omega arith
both_flags false p q = omega arith

-- the flags that stand in both words
flags_both : (ws : PatternSet) (k : ℕ) (p q : Pattern → Bool) (x y : ℕ) → Flags ws k p x → Flags ws k q y → Flags ws k (λ w. p w && q w) (bit_and x y)
flags_both ws k p q x y f g i =
    weight_and x y i ∙ ap₂ min (f i) (g i) ∙ both_flags (ltb i k) (p (pattern_at ws i)) (q (pattern_at ws i))

flags_same : (ws : PatternSet) (k : ℕ) (p q : Pattern → Bool) (x : ℕ) → ((w : Pattern) → p w ≡ q w) → Flags ws k p x → Flags ws k q x
flags_same ws k p q x same f i = f i ∙ ap (λ (b : Bool). cond (ltb i k && b) 1 0) (same (pattern_at ws i))

-- words of four bits and then four are words of eight
pub tables_of : (ws : PatternSet) (halves cells : List ℕ) → Halves ws (length ws.counts) halves → PairedUp halves cells → Tables ws cells
tables_of ws halves cells half pairs c x l h =
    rw (pairs c x l h)
    (flags_same ws (length ws.counts) _ _ _ parts
    (flags_both ws (length ws.counts) (λ w. begins w (8 * c) 4 (x / 2 ^ 4)) (λ w. begins w (8 * c + 4) 4 (x % 2 ^ 4)) _ _ first second))
  where
    parts : (w : Pattern) → (begins w (8 * c) 4 (x / 2 ^ 4) && begins w (8 * c + 4) 4 (x % 2 ^ 4)) ≡ begins w (8 * c) 8 x
    parts w = sym (begins_parts w (8 * c) 4 4 x)

    first : Flags ws (length ws.counts) (λ w. begins w (8 * c) 4 (x / 2 ^ 4)) (get_or halves (32 * c + x / 16) 0)
    first =
        let from : 4 * (2 * c) ≡ 8 * c = omega arith in
        let cell : 16 * (2 * c) + x / 16 ≡ 32 * c + x / 16 = omega arith in
        rw (← from, ← cell) (half (2 * c) (x / 16) (omega arith) (omega arith))

    second : Flags ws (length ws.counts) (λ w. begins w (8 * c + 4) 4 (x % 2 ^ 4)) (get_or halves (32 * c + 16 + x % 16) 0)
    second =
        let from : 4 * (2 * c + 1) ≡ 8 * c + 4 = omega arith in
        let cell : 16 * (2 * c + 1) + x % 16 ≡ 32 * c + 16 + x % 16 = omega arith in
        rw (← from, ← cell) (half (2 * c + 1) (x % 16) (omega arith) (omega arith))

-- four words of eight bits are the flags of 32
pub front_flags : (ws : PatternSet) (cells : List ℕ) → Tables ws cells → (v : ℕ) → v < 2 ^ 32
    → Flags ws (length ws.counts) (λ w. begins w 0 32 v) (front cells v)
unfolding front
front_flags ws cells tables v small =
    flags_same ws k _ _ _ (λ w. sym (parts w))
    (flags_both ws k (λ w. begins w 0 8 a && begins w 8 8 b) (λ w. begins w 16 8 c && begins w 24 8 d) _ _
    (flags_both ws k (λ w. begins w 0 8 a) (λ w. begins w 8 8 b) _ _ (rw (zero-add a) at (tables 0 a (omega arith) (omega arith))) (tables 1 b (omega arith) (omega arith)))
    (flags_both ws k (λ w. begins w 16 8 c) (λ w. begins w 24 8 d) _ _ (tables 2 c (omega arith) (omega arith)) (tables 3 d (omega arith) (omega arith))))
  where
    k : ℕ
    k = length ws.counts

    a : ℕ
    a = v / 2 ^ 24

    b : ℕ
    b = v / 2 ^ 16 % 256

    c : ℕ
    c = v / 2 ^ 8 % 256

    d : ℕ
    d = v % 256

    parts : (w : Pattern) → begins w 0 32 v ≡ ((begins w 0 8 a && begins w 8 8 b) && (begins w 16 8 c && begins w 24 8 d))
    parts w =
        let first : v / 2 ^ 16 / 2 ^ 8 ≡ a = omega arith in
        let third : v % 2 ^ 16 / 2 ^ 8 ≡ c = omega arith in
        let fourth : v % 2 ^ 16 % 2 ^ 8 ≡ d = omega arith in
        begins_parts w 0 16 16 v
        ∙ ap₂ (λ (p q : Bool). p && q)
        (begins_parts w 0 8 8 (v / 2 ^ 16) ∙ ap (λ (z : ℕ). begins w 0 8 z && begins w 8 8 b) first)
        (begins_parts w 16 8 8 (v % 2 ^ 16) ∙ ap₂ (λ (y z : ℕ). begins w 16 8 y && begins w 24 8 z) third fourth)
