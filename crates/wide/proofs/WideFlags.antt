-- Laws of standing flags: those that a scan leaves have every occurrence of a step, taken lowest first they give it, and what
-- a step finds is the occurrences of its 64 places below E.
-- Assumes nothing.
use mathlib.Core.Path.{◌≡◌, refl, sym, ap, ap₂, ◌∙◌}
use mathlib.Core.Bool.{Bool, true, false, ◌&&◌}
use mathlib.Core.List.{List, [], ◌∷◌, ◌++◌}
use Prim.Native.Nat.{ℕ, ◌+◌, ◌-◌, ◌/◌, ◌%◌, ◌^◌, ◌≤◌, ◌<◌, min}
use native.Mathlib.Nat.{mod-lt, mod-le}
use native.Mathlib.Decide.{dec_le}
use native.Mathlib.Omega.{arith}
use lib.Count.{count_trailing_zeros}
use lib.ListN.{length, set}
use lib.Pow.{pow_pos, shr_lt}
use borrow.Author.Tests.{lt-ltb, le-ltb}
use Rattle.bits.specs.Packed.{Packed, weight}
use Rattle.bits.proofs.Weight.{weight_out, weight_shr, weight_mod, weight_zero, same_weights}
use Rattle.rules.specs.declared.Method.TheVariants.{Wide}
use Rattle.rules.specs.Ranges.{keep}
use Rattle.rules.specs.Pattern.{Pattern}
use Rattle.rules.specs.Occurrence.{places, matches, occurs, occurrences}
use Rattle.rules.specs.Wide.{wide_finds}
use Rattle.rules.specs.Step.{finds, next}
use Rattle.matcher.specs.Tables.{WideTables}
use Rattle.matcher.specs.Progress.{Writing, Stepped}
use Rattle.matcher.specs.Ready.{text_of}
use Rattle.wide.specs.Flags.{stands_after, Scanned, Stand, Flagged, stop}
use Rattle.rules.proofs.Ranges.{and_both, not_true_false, among_same}
use Rattle.rules.proofs.Occurrence.{occurs_inside, none_from_places, occurrences_none, occurrences_append, occurrences_one, occurrences_further, occurrences_to}
use Rattle.rules.proofs.Wide.{stands_matches, flagged_occurs}
use Rattle.matcher.proofs.Writing.{writing_none, writing_more, stepped_whole, stepped_full}
use Rattle.matcher.proofs.SingleBits.{trailing_below, trailing_lt}
use Rattle.wide.proofs.WideTables.{bit_for}
use Rattle.wide.proofs.WideScan.{stands_after_lem}

-- the text's bit count plays no part in a comparison
counted : (t : Packed) (w : Pattern) (p : ℕ) → matches (text_of t.bytes 0) w p ≡ matches t w p
unfolding matches
counted t w p = refl

-- flags that are set nowhere from d on
few_flags : (k d f : ℕ) → f < 2 ^ k → ((i : ℕ) → d ≤ i → i < k → weight f i ≡ 0) → f < 2 ^ d
few_flags k d f h none = rw same (mod-lt f (pow_pos d))
  where
    same : f ≡ f % 2 ^ d
    same =
        same_weights k f (f % 2 ^ d) h (omega (arith, mod-le f (2 ^ d)))
        (λ i l. elim (dec_le d i) [
          | yes u ↦ none i u l ∙ sym (weight_out {x = f % 2 ^ d} {w = d} {i = i} (mod-lt f (pow_pos d)) u)
          | no u ↦ sym (weight_mod f {w = d} {i = i} (omega arith))
        ])

-- What settling needs of a scan: the flags of occurrences stand, and none of a place that the step does not decide.
pub flagged_of : (t : Packed) (w : Pattern) (cells : List ℕ) (s f : ℕ) → f < 2 ^ 64 → WideTables w cells → Scanned t w.count cells s f → Flagged t w s f
unfolding Stand
flagged_of t w cells s f fits tables z =
    record {
      stand = λ p l u h.
          z.flags w refl tables (p - s) (omega arith)
          ∙ ap bit_for (and_both (lt-ltb (s + (p - s)) (places t w) (omega arith))
          (stands_after_lem t w s z.made (p - s) (omega arith) (stands_matches t w s p l (omega arith) (omega arith) ∙ sym (counted t w p) ∙ h)));
      inside = few_flags 64 (stop t w s - s) f fits (λ i l u.
          z.flags w refl tables i u
          ∙ ap (λ (b : Bool). bit_for (b && stands_after t w s z.made i)) (le-ltb (s + i) (places t w) (omega arith)));
    }

-- the pattern stands at no place from a on and before b
abbrev pub NoneFrom : Packed → Pattern → ℕ → ℕ → Type 0
NoneFrom t w a b = (p : ℕ) → a ≤ p → p < b → matches t w p ≡ false

module _ (t : Packed) (w : Pattern) where
  -- Flags of the places from a on and before b

  none_where_unset : (a b f p : ℕ) → Stand t w a b f → a ≤ p → p < b → weight f (p - a) ≡ 0 → matches t w p ≡ false
  unfolding Stand
  none_where_unset a b f p st l u e = not_true_false _ (λ m. absurd (omega (arith, st p l u m)))

  -- no flag is set
  pub stand_none : (a b : ℕ) → Stand t w a b 0 → NoneFrom t w a b
  stand_none a b st p l u = none_where_unset a b 0 p st l u (weight_zero (p - a))

  -- below the lowest flag that is set there is none
  pub none_below : (a b f : ℕ) → Stand t w a b f → a + count_trailing_zeros 64 f ≤ b → NoneFrom t w a (a + count_trailing_zeros 64 f)
  none_below a b f st h p l u = none_where_unset a b f p st l (omega arith) (trailing_below 64 f (p - a) (omega arith))

  pub none_join : (a b d : ℕ) → NoneFrom t w a b → NoneFrom t w b d → NoneFrom t w a d
  none_join a b d f g p l u = elim (dec_le b p) [ yes h ↦ g p h u | no h ↦ f p l (omega arith) ]

  pub none_one : (a : ℕ) → matches t w a ≡ false → NoneFrom t w a (a + 1)
  none_one a e p l u = let here : p ≡ a = omega arith in ap (matches t w) here ∙ e

  -- flags moved down stand for places further on
  pub stand_shift : (a b f z : ℕ) → Stand t w a b f → Stand t w (a + z) b (f / 2 ^ z)
  unfolding Stand
  stand_shift a b f z st p l u m =
      let there : z + (p - (a + z)) ≡ p - a = omega arith in
      weight_shr f z (p - (a + z)) ∙ ap (weight f) there ∙ st p (omega arith) u m

-- What a step finds

module _ (t : Packed) (w : Pattern) where
  pub none_occurs : (a b : ℕ) → NoneFrom (text_of t.bytes 0) w a b → (p : ℕ) → a ≤ p → p < b → occurs t w p ≡ false
  none_occurs a b n p l u = go (dec_le (places t w) p)
    where
      go : Dec (places t w ≤ p) → occurs t w p ≡ false
      go (yes h) = none_from_places t w p h
      go (no h) = occurs_inside t w p (omega arith) ∙ sym (counted t w p) ∙ n p l u

  wide_finds_lem : (s : ℕ) → s < places t w → finds Wide t w s ≡ occurrences t w s (min (s + 64) (places t w))
  unfolding finds wide_finds occurrences
  wide_finds_lem s h =
      let count : s + 64 - s ≡ 64 = omega arith in
      sym (occurrences_to t w s (min (s + 64) (places t w)) (s + 64) (omega arith) (omega arith)
      (λ p l u. none_from_places t w p (omega arith)) (λ p l u. absurd (omega arith))
      ∙ rw count (sym (among_same _ _ s 64 (flagged_occurs t w s))))

  -- the step's places from a to p are passed, and the pattern does not stand there
  pub passed_none : (s a p : ℕ) → s ≤ a → a ≤ p → NoneFrom (text_of t.bytes 0) w a p → occurrences t w s a ≡ occurrences t w s p
  passed_none s a p low up none = occurrences_further t w s a p low up (none_occurs a p none)

  -- nothing is left to be found from a on
  pub finds_passed : (s a : ℕ) → s < places t w → s ≤ a → a ≤ stop t w s → NoneFrom (text_of t.bytes 0) w a (stop t w s)
      → occurrences t w s a ≡ finds Wide t w s
  finds_passed s a h low up none = passed_none s a (stop t w s) low up none ∙ sym (wide_finds_lem s h)

  -- it stands at p
  module _ (s a p : ℕ) (low : s ≤ a) (up : a ≤ p) (none : NoneFrom (text_of t.bytes 0) w a p) (inside : p < places t w) (hit : matches (text_of t.bytes 0) w p ≡ true) where
    one : occurrences t w p (p + 1) ≡ p ∷ []
    one = occurrences_one t w p ∙ ap (λ (b : Bool). keep b p []) (occurs_inside t w p inside ∙ sym (counted t w p) ∙ hit)

    pub passed_hit : occurrences t w s (p + 1) ≡ occurrences t w s a ++ p ∷ []
    passed_hit =
        occurrences_append t w s p (p + 1) (omega arith) (omega arith)
        ∙ ap₂ ◌++◌ (sym (passed_none s a p low up none)) one

    -- and the rest of the step lies after it
    pub passed_rest : p < stop t w s → finds Wide t w s ≡ occurrences t w s a ++ p ∷ occurrences t w (p + 1) (stop t w s)
    passed_rest h =
        wide_finds_lem s (omega arith)
        ∙ occurrences_append t w s p (stop t w s) (omega arith) (omega arith)
        ∙ ap₂ ◌++◌ (sym (passed_none s a p low up none))
        (occurrences_append t w p (p + 1) (stop t w s) (omega arith) (omega arith)
        ∙ ap (λ (o : List ℕ). o ++ occurrences t w (p + 1) (stop t w s)) one)

-- Flags settled lowest first

shifted : (f d z : ℕ) → z < d → f < 2 ^ d → f / 2 ^ z / 2 ^ 1 < 2 ^ (d - (z + 1))
shifted f d z l h =
    let size : d ≡ d - (z + 1) + 1 + z = omega arith in
    shr_lt (d - (z + 1)) 1 (shr_lt (d - (z + 1) + 1) z (rw size at h))

-- the places of a step at s before `at` are settled, and f has the flags of those from there on
pub record Settling (t : Packed) (w : Pattern) (s : ℕ) (before : List ℕ) (had : ℕ) (list : List ℕ) (at f hits : ℕ) : Type 0 where
  pub from : s ≤ at
  pub upto : at ≤ stop t w s
  pub flags : f < 2 ^ (stop t w s - at)
  pub stand : Stand (text_of t.bytes 0) w at (stop t w s) f
  pub writing : Writing before had (occurrences t w s at) list hits

module _ (t : Packed) (w : Pattern) (s : ℕ) (before : List ℕ) (had : ℕ) (there : s < places t w) where
  pub settling_none : (f : ℕ) → Flagged t w s f → had ≤ length before → Settling t w s before had before s f had
  settling_none f v h =
      record {
        from = omega arith;
        upto = omega arith;
        flags = v.inside;
        stand = v.stand;
        writing = rw (occurrences_none t w s s (λ p l u. absurd (omega arith))) (writing_none before had h);
      }

  -- no flag is left
  pub settled : (to : ℕ) (list : List ℕ) (at f hits : ℕ) → Settling t w s before had list at f hits → f ≡ 0 → to ≡ next Wide t w s
      → Stepped Wide t w s before had to hits false list
  settled to list at f hits g e m =
      rw m (stepped_whole Wide t w s before had list hits
      (rw (finds_passed t w s at there g.from g.upto (stand_none (text_of t.bytes 0) w at (stop t w s) (rw e at g.stand))) at g.writing))

  module _ (list : List ℕ) (at f hits : ℕ) (g : Settling t w s before had list at f hits) (some : f ≡ 0 → ⊥) where
    -- the place of the lowest flag
    p : ℕ
    p = at + count_trailing_zeros 64 f

    pub lowest : at + count_trailing_zeros 64 f < stop t w s
    lowest = omega (arith, trailing_lt 64 (stop t w s - at) f g.flags some)

    none : NoneFrom (text_of t.bytes 0) w at p
    unfolding p
    none = none_below (text_of t.bytes 0) w at (stop t w s) f g.stand (omega (arith, lowest))

    -- the flags after it
    fewer : f / 2 ^ count_trailing_zeros 64 f / 2 ^ 1 < 2 ^ (stop t w s - (at + count_trailing_zeros 64 f + 1))
    fewer =
        let size : stop t w s - (at + count_trailing_zeros 64 f + 1) ≡ stop t w s - at - (count_trailing_zeros 64 f + 1) = omega arith in
        rw size (shifted f (stop t w s - at) (count_trailing_zeros 64 f) (omega (arith, lowest)) g.flags)

    others : Stand (text_of t.bytes 0) w (at + count_trailing_zeros 64 f + 1) (stop t w s) (f / 2 ^ count_trailing_zeros 64 f / 2 ^ 1)
    others =
        stand_shift (text_of t.bytes 0) w (at + count_trailing_zeros 64 f) (stop t w s) (f / 2 ^ count_trailing_zeros 64 f) 1
        (stand_shift (text_of t.bytes 0) w at (stop t w s) f (count_trailing_zeros 64 f) g.stand)

    on : (list' : List ℕ) (hits' : ℕ) → Writing before had (occurrences t w s (p + 1)) list' hits'
        → Settling t w s before had list' (at + count_trailing_zeros 64 f + 1) (f / 2 ^ count_trailing_zeros 64 f / 2 ^ 1) hits'
    unfolding p
    on list' hits' u = record { from = omega (arith, g.from); upto = omega (arith, lowest); flags = fewer; stand = others; writing = u }

    module _ (b : Bool) (same : b ≡ matches (text_of t.bytes 0) w (at + count_trailing_zeros 64 f)) where
      -- the pattern does not stand there
      pub settling_miss : b ≡ false → Settling t w s before had list (at + count_trailing_zeros 64 f + 1) (f / 2 ^ count_trailing_zeros 64 f / 2 ^ 1) hits
      unfolding p
      settling_miss e =
          let gone : occurrences t w s at ≡ occurrences t w s (p + 1)
          = passed_none t w s at (p + 1) g.from (omega arith) (none_join (text_of t.bytes 0) w at p (p + 1) none (none_one (text_of t.bytes 0) w p (sym same ∙ e))) in
          on list hits (rw gone at g.writing)

      -- it does, and there is a cell
      pub settling_hit : b ≡ true → hits < length before
          → Settling t w s before had (set list hits (at + count_trailing_zeros 64 f)) (at + count_trailing_zeros 64 f + 1) (f / 2 ^ count_trailing_zeros 64 f / 2 ^ 1) (hits + 1)
      unfolding p
      settling_hit e h =
          on (set list hits p) (hits + 1)
          (rw (passed_hit t w s at p g.from (omega arith) none (omega (arith, lowest)) (sym same ∙ e)) (writing_more before had (occurrences t w s at) list hits p g.writing h))

      -- it does, and there is none
      pub settling_full : b ≡ true → length before ≤ hits → Stepped Wide t w s before had (at + count_trailing_zeros 64 f) hits true list
      unfolding p
      settling_full e h =
          let full : hits ≡ length before = omega (arith, g.writing.fits) in
          rw full
          (stepped_full Wide t w s before had (occurrences t w s at) (occurrences t w (p + 1) (stop t w s)) list p (omega (arith, g.writing.count))
          (passed_rest t w s at p g.from (omega arith) none (omega (arith, lowest)) (sym same ∙ e) lowest)
          (rw full at g.writing))
