-- Laws of the wide method's move: the greatest index of a bit, found by the flags of the table, and the next mark by it.
-- Assumes nothing.
use mathlib.Core.Path.{◌≡◌, refl, sym, ap, ◌∙◌}
use mathlib.Core.Logic.{⊎_elim}
use mathlib.Core.Bool.{Bool, true, false, true≢false}
use mathlib.Core.List.{List}
use mathlib.Core.Option.{Option, none, some}
use Prim.Native.Nat.{ℕ, suc, ◌+◌, ◌-◌, ◌*◌, ◌≤◌, ◌<◌, min}
use native.Mathlib.Decide.{dec_le}
use native.Mathlib.Omega.{arith}
use lib.Count.{count_trailing_zeros, trailing_le}
use lib.ListN.{get_or}
use borrow.Author.Tests.{le-leb, lt-leb}
use Rattle.bits.specs.Packed.{Packed, bit_at, weight}
use Rattle.bits.proofs.Run.{bit_lt}
use Rattle.bits.proofs.Weight.{bit_or_bit}
use Rattle.rules.specs.declared.Method.TheVariants.{Wide}
use Rattle.rules.specs.Ranges.{greatest}
use Rattle.rules.specs.Pattern.{Pattern, agrees}
use Rattle.rules.specs.Occurrence.{places}
use Rattle.rules.specs.Wide.{window, last_index, beyond, wide_next}
use Rattle.rules.specs.Step.{ahead, next}
use Rattle.matcher.specs.Tables.{WideTables}
use Rattle.wide.specs.Flags.{Move}
use Rattle.rules.proofs.Ranges.{Greatest, IsGreatest, greatest_is}
use Rattle.matcher.proofs.SingleBits.{trailing_below, trailing_at}
use Rattle.wide.proofs.WideTables.{bit_for, bit_lit, bit_unlit, passes_in}

-- there is one greatest number, and it is the one that is found
greatest_some : (f : ℕ → Bool) (k j : ℕ) → Greatest f k j → greatest f k ≡ some j
greatest_some f k j g = go (greatest f k) (greatest_is f k)
  where
    same : (i : ℕ) → Greatest f k i → Dec (i ≤ j) → Dec (j ≤ i) → i ≡ j
    same i h (yes a) (yes b) = omega arith
    same i h (yes a) (no b) = absurd (true≢false (sym g.passes ∙ h.above j (omega arith) g.below))
    same i h (no a) b = absurd (true≢false (sym h.passes ∙ g.above i (omega arith) h.below))

    go : (o : Option ℕ) → IsGreatest f k o → o ≡ some j
    go none h = absurd (true≢false (sym g.passes ∙ h j g.below))
    go (some i) h = ap some (same i h (dec_le i j) (dec_le j i))

greatest_none : (f : ℕ → Bool) (k : ℕ) → ((p : ℕ) → p < k → f p ≡ false) → greatest f k ≡ none
greatest_none f k n = go (greatest f k) (greatest_is f k)
  where
    go : (o : Option ℕ) → IsGreatest f k o → o ≡ none
    go none h = refl
    go (some i) h = absurd (true≢false (sym h.passes ∙ n i h.below))

module _ (w : Pattern) (c : ℕ) where
  move_some : (j : ℕ) → Greatest (λ k. agrees w k c) w.count j → Move w c (64 + w.count - suc j)
  unfolding last_index
  move_some j g =
      let below : j < w.count = g.below in
      record {
        ahead = λ s.
            let there : s + window w - j ≡ s + (64 + w.count - suc j) = omega arith in
            ap (beyond (s + window w)) (greatest_some _ w.count j g) ∙ there;
        short = omega arith;
      }

  move_none : ((p : ℕ) → p < w.count → agrees w p c ≡ false) → Move w c (64 + w.count)
  unfolding last_index
  move_none n =
      record {
        ahead = λ s.
            let there : s + window w + 1 ≡ s + (64 + w.count) = omega arith in
            ap (beyond (s + window w)) (greatest_none _ w.count n) ∙ there;
        short = omega arith;
      }

  -- the pattern's bit is c at no index from k on
  abbrev pub NotFrom : ℕ → Type 0
  NotFrom k = (p : ℕ) → k ≤ p → p < w.count → agrees w p c ≡ false

  -- the search has come down to k: where the flags last looked at have one that is set, the bit before k is c
  pub record Down (k i : ℕ) : Type 0 where
    pub above : NotFrom k
    pub here : i < 64 → 0 < k → agrees w (k - 1) c ≡ true

  pub down_start : (m : ℕ) → w.count ≡ m → Down m 64
  down_start m e = record { above = λ p l u. absurd (omega arith); here = λ l. absurd (omega arith) }

  pub down_end : (k i r : ℕ) → Down k i → k ≤ w.count → i ≤ 64 → (0 < k → i ≡ 64 → ⊥) → r + k ≡ 64 + w.count → Move w c r
  down_end k i r d inside top stopped sum = go (dec_le 1 k)
    where
      go : Dec (1 ≤ k) → Move w c r
      go (no l) =
          let size : r ≡ 64 + w.count = omega arith in
          rw size (move_none (λ p u. d.above p (omega arith) u))
      go (yes l) =
          let other : i ≡ 64 → ⊥ = stopped l in
          let size : r ≡ 64 + w.count - suc (k - 1) = omega arith in
          rw size (move_some (k - 1)
          (record {
            below = omega arith;
            passes = d.here (omega arith) l;
            above = λ p a u. d.above p (omega arith) u;
          }))

  -- the flags of the window bit before index k
  module _ (cells : List ℕ) (t : WideTables w cells) (two : c < 2) (k : ℕ) (some_left : 0 < k) (inside : k ≤ w.count) (rest : NotFrom k) where
    abbrev flags : ℕ
    flags = get_or cells (2 * (k - 1) + c) 0

    -- flag i tells of index k − 1 − i
    of_index : (p : ℕ) → p < k → k - 1 - p < 64 → weight flags (k - 1 - p) ≡ bit_for (agrees w p c)
    of_index p l u =
        let there : k - 1 - (k - 1 - p) ≡ p = omega arith in
        t.flags_are (k - 1) c (k - 1 - p) (omega arith) two u
        ∙ ap bit_for (passes_in w c (k - 1) (k - 1 - p) (omega arith) (omega arith))
        ∙ ap (λ (n : ℕ). bit_for (agrees w n c)) there

    -- where the flags of all indices from a on are 0
    not_from : (a : ℕ) → ((i : ℕ) → i < k - a → (i < 64) × (weight flags i ≡ 0)) → NotFrom a
    not_from a h p l u = go (dec_le k p)
      where
        go : Dec (k ≤ p) → agrees w p c ≡ false
        go (yes g) = rest p g u
        go (no g) =
            let i = h (k - 1 - p) (omega arith) in
            bit_unlit (agrees w p c) (sym (of_index p (omega arith) i.0) ∙ i.1)

    z : ℕ
    z = count_trailing_zeros 64 flags

    z_le : z ≤ 64
    unfolding z
    z_le = trailing_le 64 flags

    low : (i : ℕ) → i < z → weight flags i ≡ 0
    unfolding z
    low i l = trailing_below 64 flags i l

    -- the lowest flag that is set, if there is one, is that of an index, or lies below all of them
    pub down_next : Down (k - count_trailing_zeros 64 flags) (count_trailing_zeros 64 flags)
    unfolding z
    down_next =
        record {
          above = not_from (k - z) (λ i u. (omega (arith, z_le), low i (omega arith)));
          here = λ lit u.
              let back : k - 1 - (k - z - 1) ≡ z = omega arith in
              bit_lit _ (sym (of_index (k - z - 1) (omega arith) (omega arith)) ∙ ap (weight flags) back ∙ trailing_at 64 flags lit);
        }

-- One of two by a bit

pub times_bit : (c x b : ℕ) → c < 2 → x ≤ b → c * x ≤ b
times_bit c x b l h = ⊎_elim (λ e. rw e (omega arith)) (λ e. rw e (omega arith)) (bit_or_bit c l)

chosen_move : (w : Pattern) (c x y : ℕ) → c < 2 → Move w 0 x → Move w 1 y → Move w c ((1 - c) * x + c * y)
chosen_move w c x y l mx my = ⊎_elim (λ e. rw (zero e) (rw e mx)) (λ e. rw (one e) (rw e my)) (bit_or_bit c l)
  where
    zero : c ≡ 0 → (1 - c) * x + c * y ≡ x
    zero e = rw e (omega arith)

    one : c ≡ 1 → (1 - c) * x + c * y ≡ y
    one e = rw e (omega arith)

-- The next mark

module _ (t : Packed) (w : Pattern) (s : ℕ) where
  -- the window reaches the end of the text
  pub marked_end : s + w.count ≤ t.count → t.count ≤ s + 63 + w.count → t.count - w.count + 1 ≡ next Wide t w s
  unfolding next ahead wide_next
  marked_end low h = rw (le-leb t.count (s + window w) (omega arith)) (omega arith)

  -- the bit after the window tells
  pub marked : (x y : ℕ) → Move w 0 x → Move w 1 y → (c : ℕ) → s + 63 + w.count < t.count → c ≡ bit_at t.bytes (s + 63 + w.count)
      → min (s + ((1 - c) * x + c * y)) (t.count - w.count + 1) ≡ next Wide t w s
  unfolding next ahead wide_next
  marked x y mx my c h e =
      let end : t.count - w.count + 1 ≡ places t w = omega arith in
      let after : s + 63 + w.count ≡ s + window w = omega arith in
      let bit : bit_at t.bytes (s + window w) ≡ c = sym (e ∙ ap (bit_at t.bytes) after) in
      ap (min (s + ((1 - c) * x + c * y))) end
      ∙ sym (rw (lt-leb t.count (s + window w) (omega arith), bit, (chosen_move w c x y (rw e (bit_lt t.bytes (s + 63 + w.count))) mx my).ahead s))
