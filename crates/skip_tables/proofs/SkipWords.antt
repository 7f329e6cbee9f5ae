-- Laws of a walk by words: what the flags of 57 moves say of the pattern's indices, and that the lowest one is the last index that
-- shows the byte.
-- Assumes nothing.
use Prim.Native.Nat.{ℕ, ◌+◌, ◌-◌, ◌*◌, ◌/◌, ◌%◌, ◌^◌, ◌≤◌, ◌<◌, min}
use mathlib.Core.Path.{◌≡◌, sym, ap, ◌∙◌}
use mathlib.Core.Bool.{Bool, true, false, true≢false, ◌&&◌, cond}
use mathlib.Core.List.{List}
use native.Mathlib.Decide.{dec_le, ℕ_discrete}
use native.Mathlib.Omega.{arith}
use borrow.Author.Tests.{leb-true, le-leb, ltb-true, lt-ltb, le-ltb}
use lib.Bits.{bit_and}
use lib.Count.{count_trailing_zeros}
use lib.Dec.{leb, ltb}
use Rattle.bits.specs.Packed.{weight}
use Rattle.bits.proofs.Weight.{weight_lt, weight_out, weight_and, weight_shr, weight_shl, weight_shl_low, weight_mod, weight_zero, weight_ones}
use Rattle.rules.specs.Pattern.{Pattern}
use Rattle.matcher.specs.Lined.{meets_last, Lined, Words}
use Rattle.matcher.specs.Tables.{shows_byte}
use Rattle.skip_tables.specs.SkipChains.{last_shown, shown_by, Flags, Flagging}
use Rattle.rules.proofs.Ranges.{and_left, and_right, and_both, same_test, not_true_false, every_at, to_every}
use Rattle.rules.proofs.Hash.{meets_at, to_meets}
use Rattle.matcher.proofs.SingleBits.{all_ones, trailing_below, trailing_at, trailing_lt, lowest_gone, others_stay}
use Rattle.matcher.proofs.Lined.{one_true, zero_false, last_eight, lined_join}
use Rattle.skip_tables.proofs.SkipBelow.{below_eq}

-- a flag before the cut is that of one of the block's moves, whose index the pattern has
module _ (m d e k : ℕ) (kept : k ≤ 57) (inside : d + k + 7 ≤ m) (l : e < k) where
  reach : d + e + 8 ≤ m
  reach = omega arith

  under : e + 8 ≤ 64
  under = omega arith

-- the index of a block's flag is near enough to the block's end
near_enough : (m c e : ℕ) → 57 * c + e + 8 ≤ m → e < 57 → m ≤ m - 7 - 57 * c - e - 1 + 57 * c + 64
near_enough m c e h l = omega arith

-- the index of a further flag lies below
further_below : (m c e j : ℕ) → e < j → 57 * c + j + 8 ≤ m → m - 8 - (57 * c + j) < m - 7 - 57 * c - e - 1
further_below m c e j l h = omega arith

-- and what lies below an index that does not lie above k
below_both : (m c e k x : ℕ) → m - 8 - (57 * c + e) < k → x < m - 7 - 57 * c - e - 1 → x < k
below_both m c e k x h l = omega arith

rest_le : (m c e k : ℕ) → m - 8 - (57 * c + e) < k → m - 7 - 57 * c - e - 1 ≤ k
rest_le m c e k h = omega arith

not_itself : (m c e : ℕ) → 57 * c + e + 8 ≤ m → m - 8 - (57 * c + e) < m - 7 - 57 * c - e - 1 → ⊥
not_itself m c e h l = omega arith

module _ (w : Pattern) (B : ℕ) where
  -- the condition on a move, as far as the pattern reaches, is that its index shows the byte
  shows_meets : (d : ℕ) → d + 8 ≤ w.count → meets_last w 8 B d ≡ shows_byte w B (w.count - 8 - d)
  unfolding shows_byte
  shows_meets d h =
      last_eight w B d
      ∙ same_test _ _
      (λ e. to_every 8 _ (λ j l.
      let index : w.count + j - (8 + d) ≡ w.count - 8 - d + j = omega arith in
      let fits : 8 + d ≤ w.count + j = omega arith in
      rw index at (meets_at w B d e j l fits)))
      (λ e. to_meets w B d (λ j l c.
      let index : w.count + j - (8 + d) ≡ w.count - 8 - d + j = omega arith in
      rw index (every_at 8 _ e j l)))

  module _ (k : ℕ) where
    -- an index below k, by its move
    shown_at : (i : ℕ) → i + 8 ≤ w.count → i < k → shown_by w B k (w.count - 8 - i) ≡ shows_byte w B i
    unfolding shown_by
    shown_at i h l =
        let back : w.count - 8 - (w.count - 8 - i) ≡ i = omega arith in
        rw (le-leb (w.count - 8 - i + 8) w.count (omega arith), back, lt-ltb i k l)

    -- and a move, by its index
    shown_fits : (d : ℕ) → shown_by w B k d ≡ true → d + 8 ≤ w.count
    unfolding shown_by
    shown_fits d h = leb-true _ _ (and_left (leb (d + 8) w.count) _ h)

    shown_below : (d : ℕ) → shown_by w B k d ≡ true → w.count - 8 - d < k
    unfolding shown_by
    shown_below d h = ltb-true _ _ (and_left (ltb (w.count - 8 - d) k) _ (and_right (leb (d + 8) w.count) _ h))

    shown_shows : (d : ℕ) → shown_by w B k d ≡ true → shows_byte w B (w.count - 8 - d) ≡ true
    unfolding shown_by
    shown_shows d h = and_right (ltb (w.count - 8 - d) k) _ (and_right (leb (d + 8) w.count) _ h)

    to_shown : (d : ℕ) → d + 8 ≤ w.count → w.count - 8 - d < k → shows_byte w B (w.count - 8 - d) ≡ true → shown_by w B k d ≡ true
    unfolding shown_by
    to_shown d h l s = and_both (le-leb _ _ h) (and_both (lt-ltb _ _ l) s)

  -- every index lies below m
  shown_all : (d : ℕ) → d + 8 ≤ w.count → shown_by w B w.count d ≡ shows_byte w B (w.count - 8 - d)
  unfolding shown_by
  shown_all d h = rw (le-leb (d + 8) w.count h, lt-ltb (w.count - 8 - d) w.count (omega arith))

  -- another bound that the index of the move does not lie between
  shown_other : (k l d : ℕ) → (d + 8 ≤ w.count → w.count - 8 - d < k → w.count - 8 - d < l) → (d + 8 ≤ w.count → w.count - 8 - d < l → w.count - 8 - d < k)
      → shown_by w B k d ≡ shown_by w B l d
  shown_other k l d to from =
      same_test _ _
      (λ h. to_shown l d (shown_fits k d h) (to (shown_fits k d h) (shown_below k d h)) (shown_shows k d h))
      (λ h. to_shown k d (shown_fits l d h) (from (shown_fits l d h) (shown_below l d h)) (shown_shows l d h))

  shown_less : (k l d : ℕ) → l ≤ k → shown_by w B k d ≡ false → shown_by w B l d ≡ false
  shown_less k l d h none =
      not_true_false _ (λ t. true≢false (sym (to_shown k d (shown_fits l d t) (omega (arith, shown_below l d t)) (shown_shows l d t)) ∙ none))

  -- The flags of a block, from the words of the byte's last and of its first four bits
  module _ (d a b : ℕ) (f : Lined w d 4 (B % 16) a) (g : Lined w d 4 (B / 16) b) where
    -- the first k of them, whose indices the pattern has
    joined : (k e : ℕ) → k ≤ 57 → d + k + 7 ≤ w.count → e < k → weight (bit_and a (b / 2 ^ 4)) e ≡ cond (ltb e 57 && shown_by w B w.count (d + e)) 1 0
    joined k e kept inside l =
        let fits : d + e + 8 ≤ w.count = reach w.count d e k kept inside l in
        lined_join w d 4 B a b f g e
        ∙ rw (le-leb (e + 8) 64 (under w.count d e k kept inside l), lt-ltb e 57 (omega arith), shown_all (d + e) fits, shows_meets (d + e) fits)

    -- the pattern has the indices of all
    pub flags_whole : d + 64 ≤ w.count → Flags w B w.count d (bit_and a (b / 2 ^ 4))
    flags_whole inside e = go (dec_le 57 e)
      where
        go : Dec (57 ≤ e) → weight (bit_and a (b / 2 ^ 4)) e ≡ cond (ltb e 57 && shown_by w B w.count (d + e)) 1 0
        go (yes l) =
            lined_join w d 4 B a b f g e
            ∙ rw (not_true_false (leb (e + 8) 64) (λ t. absurd (omega (arith, leb-true (e + 8) 64 t))), le-ltb e 57 l)
        go (no l) = joined 57 e (omega arith) (omega arith) (omega arith)

    -- or of the first k alone, and the others are cut off
    module _ (k : ℕ) (kept : k < 57) (last : d + k + 7 ≡ w.count) where
      mask_bit : (e : ℕ) → weight (all_ones / 2 ^ (64 - k)) e ≡ cond (ltb e k) 1 0
      mask_bit e = weight_shr all_ones (64 - k) e ∙ go (dec_le k e)
        where
          go : Dec (k ≤ e) → weight all_ones (64 - k + e) ≡ cond (ltb e k) 1 0
          go (yes l) = weight_out {x = all_ones} {w = 64} {i = 64 - k + e} (omega arith) (omega arith) ∙ rw (le-ltb e k l)
          go (no l) = weight_ones 64 (64 - k + e) (omega arith) ∙ rw (lt-ltb e k (omega arith))

      pub flags_last : Flags w B w.count d (bit_and (bit_and a (b / 2 ^ 4)) (all_ones / 2 ^ (64 - k)))
      flags_last e =
          weight_and (bit_and a (b / 2 ^ 4)) (all_ones / 2 ^ (64 - k)) e
          ∙ ap (min (weight (bit_and a (b / 2 ^ 4)) e)) (mask_bit e)
          ∙ go (dec_le k e)
        where
          none : (x : ℕ) → min x 0 ≡ 0
          none x = omega arith

          whole : (x : ℕ) → x < 2 → min x 1 ≡ x
          whole x l = omega arith

          go : Dec (k ≤ e) → min (weight (bit_and a (b / 2 ^ 4)) e) (cond (ltb e k) 1 0) ≡ cond (ltb e 57 && shown_by w B w.count (d + e)) 1 0
          go (yes l) =
              rw (le-ltb e k l)
              (none (weight (bit_and a (b / 2 ^ 4)) e)
              ∙ sym (ap (λ (z : Bool). cond z 1 0) (not_true_false (ltb e 57 && shown_by w B w.count (d + e)) (λ t.
              absurd (omega (arith, shown_fits w.count (d + e) (and_right (ltb e 57) _ t)))))))
          go (no l) =
              rw (lt-ltb e k (omega arith))
              (whole (weight (bit_and a (b / 2 ^ 4)) e) (weight_lt (bit_and a (b / 2 ^ 4)) e)
              ∙ joined k e (omega arith) (omega arith) (omega arith))

  -- The first block, the flags of indices from k on cut off: those of the first m - 7 - k moves.
  module _ (k d f : ℕ) (first : d ≡ 0) (h : Flags w B w.count d f) (low : k + 7 ≤ w.count) (high : w.count < k + 15) where
    cut_bit : (e : ℕ) → e < 64 → weight ((all_ones * 2 ^ (w.count - 7 - k)) % 2 ^ 64) e ≡ cond (leb (w.count - 7 - k) e) 1 0
    cut_bit e l = weight_mod (all_ones * 2 ^ s) l ∙ go (dec_le s e)
      where
        s : ℕ
        s = w.count - 7 - k

        go : Dec (s ≤ e) → weight (all_ones * 2 ^ s) e ≡ cond (leb s e) 1 0
        go (yes u) =
            let there : s + (e - s) ≡ e = omega arith in
            rw (le-leb s e u) (rw there at (weight_shl all_ones s (e - s)) ∙ weight_ones 64 (e - s) (omega arith))
        go (no u) = rw (not_true_false (leb s e) (λ t. u (leb-true s e t))) (weight_shl_low all_ones {s = s} {i = e} (omega arith))

    pub flags_cut : Flags w B k d (bit_and f ((all_ones * 2 ^ (w.count - 7 - k)) % 2 ^ 64))
    flags_cut e = weight_and f _ e ∙ go (dec_le 57 e) (dec_le (w.count - 7 - k) e)
      where
        s : ℕ
        s = w.count - 7 - k

        least : (x : ℕ) → min 0 x ≡ 0
        least x = omega arith

        none : (x : ℕ) → min x 0 ≡ 0
        none x = omega arith

        whole : (x : ℕ) → x < 2 → min x 1 ≡ x
        whole x l = omega arith

        go : Dec (57 ≤ e) → Dec (s ≤ e)
            → min (weight f e) (weight ((all_ones * 2 ^ s) % 2 ^ 64) e) ≡ cond (ltb e 57 && shown_by w B k (d + e)) 1 0
        go (yes l) _ = rw (h e, le-ltb e 57 l) (least (weight ((all_ones * 2 ^ s) % 2 ^ 64) e))
        go (no l) (yes u) =
            rw (cut_bit e (omega arith), le-leb s e u)
            (whole (weight f e) (weight_lt f e)
            ∙ h e
            ∙ ap (λ (z : Bool). cond (ltb e 57 && z) 1 0) (shown_other w.count k (d + e) (λ a b. omega arith) (λ a b. omega arith)))
        go (no l) (no u) =
            rw (cut_bit e (omega arith), not_true_false (leb s e) (λ t. u (leb-true s e t)))
            (none (weight f e)
            ∙ sym (ap (λ (z : Bool). cond z 1 0) (not_true_false (ltb e 57 && shown_by w B k (d + e)) (λ t.
            absurd (omega (arith, shown_below k (d + e) (and_right (ltb e 57) _ t), shown_fits k (d + e) (and_right (ltb e 57) _ t)))))))

  -- A walk that has the indices below k before it, and the flags f of the block c
  module _ (k c f : ℕ) (u : Flagging w B k c f) where
    -- a bit that is 0 rules its move out
    unset : (e : ℕ) → weight f e ≡ 0 → e < 57 → shown_by w B k (57 * c + e) ≡ false
    unset e z l =
        let inside : ltb e 57 ≡ true = lt-ltb e 57 l in
        zero_false (shown_by w B k (57 * c + e)) (sym (rw inside at (u.flags e)) ∙ z)

    -- no index of a move up to the block's bit e shows the byte
    none_to : (e : ℕ) → e ≤ 57 → ((i : ℕ) → i < e → weight f i ≡ 0) → (d : ℕ) → d < 57 * c + e → shown_by w B k d ≡ false
    none_to e l z d h = go (dec_le (57 * c) d)
      where
        go : Dec (57 * c ≤ d) → shown_by w B k d ≡ false
        go (no n) = u.none d (omega arith)
        go (yes n) =
            let there : 57 * c + (d - 57 * c) ≡ d = omega arith in
            rw there at (unset (d - 57 * c) (z (d - 57 * c) (omega arith)) (omega arith))

    -- no flag is set
    module _ (empty : f ≡ 0) where
      none_here : (d : ℕ) → d < 57 * c + 57 → shown_by w B k d ≡ false
      none_here = none_to 57 (omega arith) (λ i l. ap (λ (x : ℕ). weight x i) empty ∙ weight_zero i)

      -- the next block
      pub flagging_more : (g : ℕ) → 57 * (c + 1) + 8 ≤ w.count → Flags w B w.count (57 * (c + 1)) g → Flagging w B k (c + 1) g
      flagging_more g fits flags =
          record {
            inside = fits;
            near = omega (arith, u.near);
            none = λ d l. none_here d (omega arith);
            flags = λ e.
                flags e
                ∙ ap (λ (z : Bool). cond (ltb e 57 && z) 1 0)
                (shown_other w.count k (57 * (c + 1) + e) (λ a b. omega (arith, u.near)) (λ a b. omega arith));
          }

      -- there is none
      pub flagging_end : w.count < 57 * (c + 1) + 8 → k + 7 ≤ w.count → 0 ≡ last_shown w B k
      flagging_end last few =
          sym (below_eq (shows_byte w B) k 0
          (record {
            within = omega arith;
            passes = λ j e. absurd (omega arith);
            none = λ i l h. sym (shown_at k i (omega arith) h) ∙ none_here (w.count - 8 - i) (omega arith);
          }))

    -- the lowest flag
    module _ (small : f < 2 ^ 64) (some : f ≡ 0 → ⊥) where
      abbrev e : ℕ
      e = count_trailing_zeros 64 f

      lit : (ltb e 57 && shown_by w B k (57 * c + e)) ≡ true
      lit = one_true _ (sym (u.flags e) ∙ trailing_at 64 f (trailing_lt 64 64 f small some))

      pub low_lt : count_trailing_zeros 64 f < 57
      low_lt = ltb-true e 57 (and_left (ltb e 57) _ lit)

      shown : shown_by w B k (57 * c + e) ≡ true
      shown = and_right (ltb e 57) _ lit

      pub low_fits : 57 * c + count_trailing_zeros 64 f + 8 ≤ w.count
      low_fits = shown_fits k (57 * c + e) shown

      abbrev i : ℕ
      i = w.count - 8 - (57 * c + e)

      i_below : i < k
      i_below = shown_below k (57 * c + e) shown

      before : (d : ℕ) → d < 57 * c + e → shown_by w B k d ≡ false
      before = none_to e (omega (arith, low_lt)) (λ j l. trailing_below 64 f j l)

      pub lowest_is : k + 7 ≤ w.count → w.count - 7 - 57 * c - count_trailing_zeros 64 f ≡ last_shown w B k
      lowest_is few =
          sym (below_eq (shows_byte w B) k (w.count - 7 - 57 * c - e)
          (record {
            within = omega (arith, i_below, low_fits);
            passes = λ j q. let there : j ≡ i = omega (arith, low_fits) in rw there (shown_shows k (57 * c + e) shown);
            none = λ j l h. sym (shown_at k j (omega arith) h) ∙ before (w.count - 8 - j) (omega (arith, low_fits));
          }))

      -- the flags of the indices below it
      pub flagging_rest : Flagging w B (w.count - 7 - 57 * c - count_trailing_zeros 64 f - 1) c (bit_and f (f - 1))
      flagging_rest =
          let less : w.count - 7 - 57 * c - e - 1 ≤ k = rest_le w.count c e k i_below in
          record {
            inside = u.inside;
            near = near_enough w.count c e low_fits low_lt;
            none = λ d l. shown_less k (w.count - 7 - 57 * c - e - 1) d less (u.none d l);
            flags = λ j. go j (ℕ_discrete j e);
          }
        where
          earlier : (j : ℕ) → j ≤ e → (j ≡ e → ⊥) → 57 * c + j < 57 * c + e
          earlier j l n = apart (dec_le e j)
            where
              apart : Dec (e ≤ j) → 57 * c + j < 57 * c + e
              apart (yes h) = absurd (n (omega arith))
              apart (no h) = omega arith

          go : (j : ℕ) → Dec (j ≡ e) → weight (bit_and f (f - 1)) j ≡ cond (ltb j 57 && shown_by w B (w.count - 7 - 57 * c - e - 1) (57 * c + j)) 1 0
          go j (yes q) =
              rw q
              (lowest_gone 64 f small some
              ∙ sym (ap (λ (z : Bool). cond z 1 0) (not_true_false (ltb e 57 && shown_by w B (w.count - 7 - 57 * c - e - 1) (57 * c + e)) (λ t.
              absurd (not_itself w.count c e low_fits (shown_below (w.count - 7 - 57 * c - e - 1) (57 * c + e) (and_right (ltb e 57) _ t)))))))
          go j (no n) =
              others_stay 64 f small some j n
              ∙ u.flags j
              ∙ after (dec_le j e)
            where
              after : Dec (j ≤ e) → ◌≡◌ {A = ℕ} (cond (ltb j 57 && shown_by w B k (57 * c + j)) 1 0) (cond (ltb j 57 && shown_by w B (w.count - 7 - 57 * c - e - 1) (57 * c + j)) 1 0)
              after (no l) =
                  ap (λ (z : Bool). cond (ltb j 57 && z) 1 0)
                  (shown_other k (w.count - 7 - 57 * c - e - 1) (57 * c + j) (λ a b. further_below w.count c e j (omega arith) a)
                  (λ a b. below_both w.count c e k (w.count - 8 - (57 * c + j)) i_below b))
              after (yes l) =
                  let none = before (57 * c + j) (earlier j l n) in
                  ap (λ (z : Bool). cond (ltb j 57 && z) 1 0)
                  (none ∙ sym (shown_less k (w.count - 7 - 57 * c - e - 1) (57 * c + j) (rest_le w.count c e k i_below) none))

-- The words of blocks below k are made.
abbrev pub WordsTo : Pattern → ℕ → List ℕ → Type 0
WordsTo w k cells = (i : ℕ) → i < k → Words w (57 * i) 4 (22 * i + 6) cells
