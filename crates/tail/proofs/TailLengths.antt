-- Laws of the lengths that are left: the highest one, what a comparison says of one, and the greatest that the comparison bears out.
-- Assumes nothing.
use Prim.Native.Nat.{ℕ, zero, suc, ◌+◌, ◌-◌, ◌*◌, ◌/◌, ◌%◌, ◌^◌, ◌≤◌, ◌<◌, max, min}
use mathlib.Core.Path.{◌≡◌, refl, sym, ap, ◌∙◌}
use mathlib.Core.Option.{some}
use native.Mathlib.Nat.{div_self}
use native.Mathlib.Numerals.{one-add}
use native.Mathlib.Decide.{dec_le, ℕ_discrete}
use native.Mathlib.Omega.{arith}
use lib.Bits.{bit_and, bit_or, bit_xor, and_le_r, or_lt, xor_lt}
use lib.Count.{count_leading_zeros, leading_top, leading_of_zero}
use lib.Pow.{pow_pos, shr_lt, shr_mono}
use Rattle.bits.specs.Packed.{weight, bit_of}
use Rattle.bits.proofs.Weight.{weight_lt, weight_out, weight_or, weight_zero}
use Rattle.rules.specs.Ranges.{greatest}
use Rattle.rules.specs.Pattern.{Pattern}
use Rattle.rules.proofs.Ranges.{not_true_false, greatest_some}
use Rattle.tail.specs.Lengths.{ends_in, MasksOf, care_of, Longest, FirstRun, Four, Keeps, Top, Fits, Differs, Settled}
use Rattle.tail.proofs.TailMasks.{or_right, and_one, and_left, and_right, not_bit, same_at, same_where, low_ones, low_none, shl_twice_high, shl_set, ends_fits, fits_ends}

-- ---- the highest bit

-- between two powers the highest bit is the lower one's
highest_set : (v j : ℕ) → 2 ^ j ≤ v → v < 2 ^ suc j → weight v j ≡ 1
highest_set v j l u =
    let upper : v / 2 ^ j < 2 = shr_lt 1 j (rw one-add u) in
    let lower : 1 ≤ v / 2 ^ j = rw (div_self (pow_pos j)) at (shr_mono j l) in
    omega arith

-- what the count of leading zeros says of a word that is not 0
pub leading_bits : (v : ℕ) → 0 < v → v < 2 ^ 64
    → (count_leading_zeros 64 v < 64) × (weight v (63 - count_leading_zeros 64 v) ≡ 1) × ((i : ℕ) → 63 - count_leading_zeros 64 v < i → weight v i ≡ 0)
leading_bits v pos h =
    let t = leading_top 64 v pos h in
    let there : 63 - count_leading_zeros 64 v ≡ t.0 = omega (arith, t.1) in (
      omega (arith, t.1),
      rw there (highest_set v t.0 t.2 t.3),
      λ i l. weight_out {x = v} {w = suc t.0} {i = i} t.3 (omega arith),
    )

-- the longest of the lengths d
module _ (d : ℕ) (h : d < 2 ^ 64) where
  or_one_some : 0 < bit_or d 1
  or_one_some = go (dec_le 1 (bit_or d 1))
    where
      go : Dec (1 ≤ bit_or d 1) → 0 < bit_or d 1
      go (yes l) = l
      go (no n) =
          let z : bit_or d 1 ≡ 0 = omega arith in
          absurd (omega (arith, or_right d 1 0 refl, ap (λ (y : ℕ). weight y 0) z))

  odd_bits : (count_leading_zeros 64 (bit_or d 1) < 64) × (weight (bit_or d 1) (63 - count_leading_zeros 64 (bit_or d 1)) ≡ 1)
      × ((i : ℕ) → 63 - count_leading_zeros 64 (bit_or d 1) < i → weight (bit_or d 1) i ≡ 0)
  odd_bits = leading_bits (bit_or d 1) or_one_some (or_lt 64 d 1 h (omega arith))

  pub few_leading : count_leading_zeros 64 (bit_or d 1) < 64
  few_leading = odd_bits.0

  pub top_is : Top d (63 - count_leading_zeros 64 (bit_or d 1))
  top_is =
      record {
        few = omega arith;
        set = λ l.
            let r = 63 - count_leading_zeros 64 (bit_or d 1) in
            omega (arith, weight_or d 1 r, weight_out {x = 1} {w = 1} {i = r} (omega arith) (omega arith), odd_bits.1, weight_lt d r);
        above = λ i l. omega (arith, weight_or d 1 i, odd_bits.2 i l);
      }

-- ---- the comparison

-- before the first bit of a word that is set none is
pub leading_none : (v : ℕ) → v < 2 ^ 64 → (i : ℕ) → i < 64 → i < count_leading_zeros 64 v → bit_of 64 v i ≡ 0
leading_none v h i few l = go (ℕ_discrete v 0)
  where
    go : Dec (v ≡ 0) → weight v (63 - i) ≡ 0
    go (yes z) = ap (λ (y : ℕ). weight y (63 - i)) z ∙ weight_zero (63 - i)
    go (no n) = let t = leading_bits v (omega arith) h in t.2 (63 - i) (omega (arith, t.0))

-- and that one is
pub leading_set : (v : ℕ) → v < 2 ^ 64 → count_leading_zeros 64 v < 64 → bit_of 64 v (count_leading_zeros 64 v) ≡ 1
leading_set v h l = go (ℕ_discrete v 0)
  where
    go : Dec (v ≡ 0) → bit_of 64 v (count_leading_zeros 64 v) ≡ 1
    go (yes z) = absurd (omega (arith, ap (count_leading_zeros 64) z ∙ leading_of_zero 64))
    go (no n) = (leading_bits v (omega arith) h).1

-- the last r bits of the window, moved to the front
front_bit : (x r i : ℕ) → r < 64 → i < r → bit_of 64 (x * 2 ^ (63 - r) % 2 ^ 64 * 2 ^ 1 % 2 ^ 64) i ≡ weight x (r - suc i)
front_bit x r i h l =
    let there : 63 - i - (63 - r + 1) ≡ r - suc i = omega arith in
    shl_twice_high x (63 - r) 1 (63 - i) (omega arith) (omega arith) ∙ ap (weight x) there

-- the first index at which the mask differs from them where it is not wild
pub differs_is : (ones care x r : ℕ) → care < 2 ^ 64 → r < 64
    → Differs ones care x r (count_leading_zeros 64 (bit_and (bit_xor ones (x * 2 ^ (63 - r) % 2 ^ 64 * 2 ^ 1 % 2 ^ 64)) care))
differs_is ones care x r h few =
    record {
      same = λ i l u e. (same_where ones front care (63 - i)).0 (leading_none v small i (omega arith) l) e ∙ front_bit x r i few u;
      other = λ l fits.
          let here = leading_set v small (omega arith) in
          omega (arith, here, (same_where ones front care (63 - count_leading_zeros 64 v)).1 (λ e. fits e ∙ sym (front_bit x r _ few l)));
    }
  where
    front : ℕ
    front = x * 2 ^ (63 - r) % 2 ^ 64 * 2 ^ 1 % 2 ^ 64

    v : ℕ
    v = bit_and (bit_xor ones front) care

    small : v < 2 ^ 64
    small = omega (arith, and_le_r (bit_xor ones front) care)

-- the first run of a word, as far as it goes
pub first_run_is : (word flip care r : ℕ) → word < 2 ^ 64 → flip < 2 ^ 64 → care < 2 ^ 64
    → r ≤ count_leading_zeros 64 (bit_or (bit_xor word flip) (bit_xor 18446744073709551615 care)) → r ≤ 63 → FirstRun word flip care r
first_run_is word flip care r h g f l few =
    record {
      few = few;
      like = λ j u. same_at word flip (63 - j) (omega (arith, none j u));
      solid = λ j u. omega (arith, none j u, not_bit care (63 - j) (omega arith), weight_lt care (63 - j));
    }
  where
    v : ℕ
    v = bit_or (bit_xor word flip) (bit_xor 18446744073709551615 care)

    none : (j : ℕ) → j < r → max (weight (bit_xor word flip) (63 - j)) (weight (bit_xor 18446744073709551615 care) (63 - j)) ≡ 0
    none j u =
        sym (weight_or (bit_xor word flip) (bit_xor 18446744073709551615 care) (63 - j))
        ∙ leading_none v (or_lt 64 (bit_xor word flip) (bit_xor 18446744073709551615 care) (xor_lt 64 word flip h g) (xor_lt 64 18446744073709551615 care (omega arith) f)) j (omega arith) (omega arith)

-- the first of four bits in a row that are not wild, among those with a 1 in `later`
pub four_is : (care later r : ℕ) → care < 2 ^ 64 → later < 2 ^ 64
    → let two = bit_and care (care * 2 ^ 1 % 2 ^ 64) in
    r ≡ count_leading_zeros 64 (bit_and (bit_and two (two * 2 ^ 2 % 2 ^ 64)) later) → r < 63 → Four care r
four_is care later r h g e few = record { few = omega arith; solid = λ i l u. bit i l }
  where
    two : ℕ
    two = bit_and care (care * 2 ^ 1 % 2 ^ 64)

    there : bit_of 64 (bit_and (bit_and two (two * 2 ^ 2 % 2 ^ 64)) later) r ≡ 1
    there =
        rw e
        (leading_set (bit_and (bit_and two (two * 2 ^ 2 % 2 ^ 64)) later) (omega (arith, and_le_r (bit_and two (two * 2 ^ 2 % 2 ^ 64)) later)) (omega (arith, sym e)))

    both : bit_of 64 (bit_and two (two * 2 ^ 2 % 2 ^ 64)) r ≡ 1
    both = and_left (bit_and two (two * 2 ^ 2 % 2 ^ 64)) later (63 - r) there

    -- a bit and the next one
    pair : (j : ℕ) → j < 64 → bit_of 64 two j ≡ 1 → (bit_of 64 care j ≡ 1) × (bit_of 64 care (j + 1) ≡ 1)
    pair j l t = (and_left care (care * 2 ^ 1 % 2 ^ 64) (63 - j) t, (shl_set care 1 j l (and_right care (care * 2 ^ 1 % 2 ^ 64) (63 - j) t)).1)

    front : (bit_of 64 care r ≡ 1) × (bit_of 64 care (r + 1) ≡ 1)
    front = pair r (omega arith) (and_left two (two * 2 ^ 2 % 2 ^ 64) (63 - r) both)

    later_two : (r + 2 < 64) × (bit_of 64 two (r + 2) ≡ 1)
    later_two = shl_set two 2 r (omega arith) (and_right two (two * 2 ^ 2 % 2 ^ 64) (63 - r) both)

    back : (bit_of 64 care (r + 2) ≡ 1) × (bit_of 64 care (r + 2 + 1) ≡ 1)
    back = pair (r + 2) later_two.0 later_two.1

    bit : (i : ℕ) → i < 4 → bit_of 64 care (r + i) ≡ 1
    bit zero l = let at : r + 0 ≡ r = omega arith in rw at front.0
    bit (suc zero) l = front.1
    bit (suc (suc zero)) l = back.0
    bit (suc (suc (suc zero))) l = let at : r + 3 ≡ r + 2 + 1 = omega arith in rw at back.1
    bit (suc (suc (suc (suc i)))) l = absurd (omega arith)

-- and where there are none, 63
pub first_four : (care later r : ℕ) → care < 2 ^ 64 → later < 2 ^ 64
    → let two = bit_and care (care * 2 ^ 1 % 2 ^ 64) in
    r ≡ min (count_leading_zeros 64 (bit_and (bit_and two (two * 2 ^ 2 % 2 ^ 64)) later)) 63 → Four care r
first_four care later r h g e = go (dec_le 63 r)
  where
    go : Dec (63 ≤ r) → Four care r
    go (yes l) = record { few = omega arith; solid = λ i u v. absurd (omega arith) }
    go (no n) = four_is care later r h g (omega arith) (omega arith)

-- ---- the greatest length that fits

-- the lengths that fit are still left, and no others have come
pub record Going (ones care x d left : ℕ) : Type 0 where
  pub from : (i : ℕ) → weight left i ≡ 1 → weight d i ≡ 1
  pub kept : (i : ℕ) → weight d i ≡ 1 → Fits ones care x i → weight left i ≡ 1

pub going_first : (ones care x d : ℕ) → Going ones care x d d
going_first ones care x d = record { from = λ i e. e; kept = λ i e f. e }

module _ (ones care x d left r j : ℕ) (top : Top left r) (differs : Differs ones care x r j) (going : Going ones care x d left) where
  -- the longest one does not fit
  pub going_less : j < r → Going ones care x d (bit_and left (18446744073709551615 / 2 ^ (64 - r)))
  going_less l =
      record {
        from = λ i e. going.from i (and_left left (18446744073709551615 / 2 ^ (64 - r)) i e);
        kept = λ i e f.
            let here = going.kept i e f in
            and_one left (18446744073709551615 / 2 ^ (64 - r)) i here (low_ones r i (omega (arith, top.few)) (shorter i f here));
      }
    where
      shorter : (i : ℕ) → Fits ones care x i → weight left i ≡ 1 → i < r
      shorter i f e = go (dec_le i r)
        where
          apart : i ≤ r → Dec (i ≡ r) → i < r
          apart u (yes q) = absurd (differs.other l (rw q at f j l))
          apart u (no n) = omega arith

          go : Dec (i ≤ r) → i < r
          go (yes u) = apart u (ℕ_discrete i r)
          go (no n) = absurd (omega (arith, e, top.above i (omega arith)))

  -- and the longest one left then is shorter
  pub less : (s : ℕ) → j < r → Top (bit_and left (18446744073709551615 / 2 ^ (64 - r))) s → s < r
  less s l t = go (dec_le 1 s)
    where
      mask : ℕ
      mask = 18446744073709551615 / 2 ^ (64 - r)

      inside : 0 < s → Dec (r ≤ s) → s < r
      inside u (yes v) = absurd (omega (arith, and_right left mask s (t.set u), low_none r s v))
      inside u (no n) = omega arith

      go : Dec (1 ≤ s) → s < r
      go (yes u) = inside u (dec_le r s)
      go (no n) = omega arith

  -- the longest one fits
  pub settled : r ≤ j → Settled ones care x d r
  settled l =
      record {
        few = top.few;
        left = λ u. going.from r (top.set u);
        fits = λ i u. differs.same i (omega arith) u;
        none_above = λ i u e f. omega (arith, going.kept i e f, top.above i u);
      }

-- the greatest length of all, from the greatest of those left
pub longest_of : (m zeros ones x d r : ℕ) → 0 < m → m ≤ 64 → Keeps m zeros ones x d → Settled ones (care_of zeros ones) x d r → Longest m zeros ones x r
longest_of m zeros ones x d r pos short keeps s = record { below = below; is = is }
  where
    below : r < m
    below = go (dec_le m r)
      where
        go : Dec (m ≤ r) → r < m
        go (yes l) = absurd (omega (arith, s.left (omega arith), keeps.none_from r l))
        go (no n) = omega arith

    is : (w : Pattern) → w.count ≡ m → MasksOf w zeros ones → greatest (ends_in w x) m ≡ some r
    is w c masks =
        greatest_some (ends_in w x) m r below
        (fits_ends w zeros ones masks x r (omega (arith, below)) (omega (arith, below)) s.fits)
        (λ i l u.
        not_true_false (ends_in w x i) (λ e.
        s.none_above i l (keeps.kept w c masks i u e) (ends_fits w zeros ones masks x i (omega arith) (omega arith) e)))
