-- Words whose bits stand for moves: what their bits say, words of twice as many bits, and a load as such a word.
-- Assumes nothing.
use Prim.Native.Nat.{ℕ, ◌+◌, ◌-◌, ◌/◌, ◌%◌, ◌^◌, ◌≤◌, ◌<◌, min}
use mathlib.Core.Path.{◌≡◌, refl, sym, ap, ap₂, ◌∙◌}
use mathlib.Core.Bool.{Bool, true, false, ◌&&◌, cond}
use mathlib.Core.List.{List}
use native.Mathlib.Nat.{add-zero, add_assoc}
use native.Mathlib.Decide.{dec_le}
use native.Mathlib.Omega.{arith}
use lib.Bits.{bit_and, bit_xor}
use lib.Dec.{leb, ltb}
use borrow.Author.Tests.{leb-true, le-leb, ltb-true, lt-ltb, le-ltb}
use Rattle.bits.specs.Packed.{bit_at, bits_at, weight}
use Rattle.bits.proofs.Weight.{weight_out, weight_shr, weight_mod, weight_and, weight_xor}
use Rattle.bits.proofs.Run.{bits_lt, bit_lt, weight_of_bits}
use Rattle.rules.specs.Ranges.{implies, every}
use Rattle.rules.specs.Pattern.{Pattern, agrees}
use Rattle.rules.specs.Hash.{meets}
use Rattle.matcher.specs.Lined.{Ending, meets_last, Lined}
use Rattle.rules.proofs.Ranges.{and_left, and_right, and_both, same_test, not_true_false, implies_to, to_implies, every_at, to_every}
use Rattle.rules.proofs.Pattern.{agrees_zero, agrees_one}
use Rattle.rules.proofs.Hash.{meets_at, to_meets}
use Rattle.matcher.proofs.SingleBits.{all_ones, not_bit}

-- Tests as bits

pub one_true : (b : Bool) → ◌≡◌ {A = ℕ} (cond b 1 0) 1 → b ≡ true
one_true true h = refl
one_true false h = absurd (omega arith)

pub zero_false : (b : Bool) → ◌≡◌ {A = ℕ} (cond b 1 0) 0 → b ≡ false
zero_false true h = absurd (omega arith)
zero_false false h = refl

both_bits : (a b : Bool) → min (cond a 1 0) (cond b 1 0) ≡ cond (a && b) 1 0
both_bits true true = refl
both_bits true false = refl
both_bits false true = refl
both_bits false false = refl

-- y holds only where x does
both_tests : (x y a b : Bool) → (y ≡ true → x ≡ true) → ((x && a) && (y && b)) ≡ (y && (a && b))
both_tests x true a b h = rw (h refl)
both_tests x false a b h = none (x && a)
  where
    none : (c : Bool) → (c && false) ≡ false
    none true = refl
    none false = refl

-- The condition for the last k bits

module _ (w : Pattern) where
  last_at : (k B d : ℕ) → meets_last w k B d ≡ true → (i : ℕ) → i < k → d + i < w.count → agrees w (w.count - 1 - (d + i)) (weight B i) ≡ true
  unfolding meets_last
  last_at k B d h i l u = implies_to (ltb (d + i) w.count) _ (every_at k _ h i l) (lt-ltb _ _ u)

  to_last : (k B d : ℕ) → ((i : ℕ) → i < k → d + i < w.count → agrees w (w.count - 1 - (d + i)) (weight B i) ≡ true) → meets_last w k B d ≡ true
  unfolding meets_last
  to_last k B d h = to_every k _ (λ i l. to_implies (ltb (d + i) w.count) _ (λ u. h i l (ltb-true _ _ u)))

  -- of all eight bits it is the condition
  pub last_eight : (B d : ℕ) → meets_last w 8 B d ≡ meets w B d
  last_eight B d = same_test _ _ (λ h. to_meets w B d (to h)) (λ h. to_last 8 B d (from h))
    where
      to : meets_last w 8 B d ≡ true → (j : ℕ) → j < 8 → 8 + d ≤ w.count + j → agrees w (w.count + j - (8 + d)) (weight B (7 - j)) ≡ true
      to h j l c =
          let index : w.count + j - (8 + d) ≡ w.count - 1 - (d + (7 - j)) = omega arith in
          rw index (last_at 8 B d h (7 - j) (omega arith) (omega arith))

      from : meets w B d ≡ true → (i : ℕ) → i < 8 → d + i < w.count → agrees w (w.count - 1 - (d + i)) (weight B i) ≡ true
      from h i l u =
          let there : 7 - (7 - i) ≡ i = omega arith in
          let index : w.count + (7 - i) - (8 + d) ≡ w.count - 1 - (d + i) = omega arith in
          rw (there, index) at (meets_at w B d h (7 - i) (omega arith) (omega arith))

  -- of 2 k bits it is that for the last k, and that for the others k moves further
  last_twice : (k B d : ℕ) → meets_last w (k + k) B d ≡ (meets_last w k (B % 2 ^ k) d && meets_last w k (B / 2 ^ k) (d + k))
  last_twice k B d = same_test _ _ to from
    where
      to : meets_last w (k + k) B d ≡ true → (meets_last w k (B % 2 ^ k) d && meets_last w k (B / 2 ^ k) (d + k)) ≡ true
      to h =
          and_both
          (to_last k _ d (λ i l u. rw (weight_mod B l) (last_at (k + k) B d h i (omega arith) u)))
          (to_last k _ (d + k) (λ i l u. rw (weight_shr B k i, add_assoc d k i) (last_at (k + k) B d h (k + i) (omega arith) (omega arith))))

      from : (meets_last w k (B % 2 ^ k) d && meets_last w k (B / 2 ^ k) (d + k)) ≡ true → meets_last w (k + k) B d ≡ true
      from h = to_last (k + k) B d (λ i l u. go i l u (dec_le k i))
        where
          go : (i : ℕ) → i < k + k → d + i < w.count → Dec (k ≤ i) → agrees w (w.count - 1 - (d + i)) (weight B i) ≡ true
          go i l u (no n) =
              let below : i < k = omega arith in
              rw (weight_mod B below) at (last_at k _ d (and_left (meets_last w k (B % 2 ^ k) d) _ h) i below u)
          go i l u (yes n) =
              let there : k + (i - k) ≡ i = omega arith in
              let further : d + k + (i - k) ≡ d + i = omega arith in
              rw (weight_shr B k (i - k), there, further) at (last_at k _ (d + k) (and_right (meets_last w k (B % 2 ^ k) d) _ h) (i - k) (omega arith) (omega arith))

  -- of one bit
  last_one : (B d : ℕ) → meets_last w 1 B d ≡ implies (ltb d w.count) (agrees w (w.count - 1 - d) (weight B 0))
  unfolding meets_last every
  last_one B d = rw (add-zero d)

  -- two words joined
  pub lined_join : (d k B a b : ℕ) → Lined w d k (B % 2 ^ k) a → Lined w d k (B / 2 ^ k) b → Lined w d (k + k) B (bit_and a (b / 2 ^ k))
  lined_join d k B a b f g e =
      let further : d + (k + e) ≡ d + e + k = omega arith in
      let all : k + e + k ≡ e + (k + k) = omega arith in
      weight_and a (b / 2 ^ k) e
      ∙ ap₂ min (f e) (weight_shr b k e ∙ g (k + e))
      ∙ both_bits (leb (e + k) 64 && meets_last w k (B % 2 ^ k) (d + e)) (leb (k + e + k) 64 && meets_last w k (B / 2 ^ k) (d + (k + e)))
      ∙ rw (further, all)
      (ap (λ (z : Bool). cond z 1 0)
      (both_tests (leb (e + k) 64) (leb (e + (k + k)) 64) (meets_last w k (B % 2 ^ k) (d + e)) (meets_last w k (B / 2 ^ k) (d + e + k))
      (λ h. le-leb (e + k) 64 (omega (arith, leb-true (e + (k + k)) 64 h)))
      ∙ ap (λ (z : Bool). leb (e + (k + k)) 64 && z) (sym (last_twice k B (d + e)))))

  -- The words of one bit: p and f are the pattern and its second run as they end d bits before the end
  module _ (d p f : ℕ) (ep : Ending w.bytes w.count d p) (ef : Ending w.fixed w.count d f) where
    -- a word that has a 0 just where the pattern's bit disagrees with c
    lined_one : (c z : ℕ) → ((e : ℕ) → 64 ≤ e → weight z e ≡ 0) → ((e : ℕ) → e < 64 → w.count ≤ d + e → weight z e ≡ 0)
        → ((e : ℕ) → e < 64 → d + e < w.count → 1 - weight z e ≡ cond (agrees w (w.count - 1 - (d + e)) (weight c 0)) 1 0)
        → Lined w d 1 c (bit_xor z all_ones)
    lined_one c z out past at e = go (dec_le 64 e) (dec_le w.count (d + e))
      where
        go : Dec (64 ≤ e) → Dec (w.count ≤ d + e)
            → weight (bit_xor z all_ones) e ≡ cond (leb (e + 1) 64 && meets_last w 1 c (d + e)) 1 0
        go (yes l) _ =
            let high : weight all_ones e ≡ 0 = weight_out {x = all_ones} {w = 64} {i = e} (omega arith) l in
            weight_xor z all_ones e
            ∙ rw (high, out e l, not_true_false (leb (e + 1) 64) (λ t. absurd (omega (arith, leb-true (e + 1) 64 t))))
        go (no l) (yes h) =
            not_bit z e (omega arith)
            ∙ rw (past e (omega arith) h, le-leb (e + 1) 64 (omega arith), last_one c (d + e), le-ltb (d + e) w.count h)
        go (no l) (no h) =
            not_bit z e (omega arith)
            ∙ at e (omega arith) (omega arith)
            ∙ rw (le-leb (e + 1) 64 (omega arith), last_one c (d + e), lt-ltb (d + e) w.count (omega arith))

    out_of : (run : List ℕ) (m x : ℕ) → Ending run m d x → (e : ℕ) → 64 ≤ e → weight x e ≡ 0
    out_of run m x h e l = h e ∙ rw (le-ltb e 64 l)

    past_of : (run : List ℕ) (m x : ℕ) → Ending run m d x → (e : ℕ) → e < 64 → m ≤ d + e → weight x e ≡ 0
    past_of run m x h e l u = h e ∙ rw (lt-ltb e 64 l, le-ltb (d + e) m u)

    in_of : (run : List ℕ) (m x : ℕ) → Ending run m d x → (e : ℕ) → e < 64 → d + e < m → weight x e ≡ bit_at run (m - 1 - (d + e))
    in_of run m x h e l u = h e ∙ rw (lt-ltb e 64 l, lt-ltb (d + e) m u)

    pub lined_zero : Lined w d 1 0 (bit_xor (bit_and p f) all_ones)
    lined_zero =
        lined_one 0 (bit_and p f)
        (λ e l. weight_and p f e ∙ omega (arith, out_of _ _ _ ep e l))
        (λ e l h. weight_and p f e ∙ omega (arith, past_of _ _ _ ep e l h))
        (λ e l h.
        let j : ℕ = w.count - 1 - (d + e) in
        rw (weight_and p f e, in_of _ _ _ ep e l h, in_of _ _ _ ef e l h)
        (omega (arith, bit_lt w.bytes j, bit_lt w.fixed j) ∙ sym (agrees_zero w j)))

    pub lined_ones : Lined w d 1 1 (bit_xor (bit_and f (bit_xor p all_ones)) all_ones)
    lined_ones =
        lined_one 1 (bit_and f (bit_xor p all_ones))
        (λ e l. weight_and f (bit_xor p all_ones) e ∙ omega (arith, out_of _ _ _ ef e l))
        (λ e l h. weight_and f (bit_xor p all_ones) e ∙ omega (arith, past_of _ _ _ ef e l h))
        (λ e l h.
        let j : ℕ = w.count - 1 - (d + e) in
        let not : weight (bit_xor p all_ones) e ≡ 1 - weight p e = not_bit p e l in
        rw (weight_and f (bit_xor p all_ones) e, not, in_of _ _ _ ep e l h, in_of _ _ _ ef e l h)
        (omega (arith, bit_lt w.bytes j, bit_lt w.fixed j) ∙ sym (agrees_one w j)))

-- a load as such a word: from the run's first bit on, where fewer than 64 bits are left
module _ (run : List ℕ) (m d : ℕ) where
  pub ending_short : m - d < 64 → Ending run m d (bits_at run 0 64 / 2 ^ (64 - (m - d)))
  ending_short short e = weight_shr (bits_at run 0 64) (64 - (m - d)) e ∙ go (dec_le (m - d) e)
    where
      s : ℕ
      s = 64 - (m - d)

      go : Dec (m - d ≤ e) → weight (bits_at run 0 64) (64 - (m - d) + e) ≡ cond (ltb e 64 && ltb (d + e) m) (bit_at run (m - 1 - (d + e))) 0
      go (yes l) =
          weight_out {x = bits_at run 0 64} {w = 64} {i = 64 - (m - d) + e} (bits_lt run 0 64) (omega arith)
          ∙ rw (not_true_false (ltb e 64 && ltb (d + e) m) (λ t. absurd (omega (arith, ltb-true (d + e) m (and_right (ltb e 64) _ t)))))
      go (no n) =
          let there : 0 + (64 - 1 - (64 - (m - d) + e)) ≡ m - 1 - (d + e) = omega arith in
          weight_of_bits run 0 {i = 64 - (m - d) + e} {k = 64} (omega arith)
          ∙ rw (there, lt-ltb e 64 (omega arith), lt-ltb (d + e) m (omega arith))

  pub ending_long : 64 ≤ m - d → Ending run m d (bits_at run (m - d - 64) 64)
  ending_long long e = go (dec_le 64 e)
    where
      go : Dec (64 ≤ e) → weight (bits_at run (m - d - 64) 64) e ≡ cond (ltb e 64 && ltb (d + e) m) (bit_at run (m - 1 - (d + e))) 0
      go (yes l) =
          weight_out {x = bits_at run (m - d - 64) 64} {w = 64} {i = e} (bits_lt run (m - d - 64) 64) l
          ∙ rw (le-ltb e 64 l)
      go (no n) =
          let there : m - d - 64 + (64 - 1 - e) ≡ m - 1 - (d + e) = omega arith in
          weight_of_bits run (m - d - 64) {i = e} {k = 64} (omega arith)
          ∙ rw (there, lt-ltb e 64 (omega arith), lt-ltb (d + e) m (omega arith))
