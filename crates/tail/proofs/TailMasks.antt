-- Laws of the masks and of the words made of them: what the pattern's bits are, which lengths a spread bit and the first run leave.
-- Assumes nothing.
use Prim.Native.Nat.{ℕ, zero, suc, ◌+◌, ◌-◌, ◌*◌, ◌/◌, ◌%◌, ◌^◌, ◌≤◌, ◌<◌, max}
use mathlib.Core.Path.{◌≡◌, refl, sym, ap, ◌∙◌}
use mathlib.Core.Logic.{◌⊎◌, inl, inr, ◌↔◌}
use mathlib.Core.Bool.{Bool, true, false, cond}
use mathlib.Core.List.{List}
use native.Mathlib.Nat.{add-zero, zero-mul, suc-mul, mod-lt, div-add-mod'}
use native.Mathlib.Decide.{dec_le, ℕ_discrete}
use native.Mathlib.Omega.{arith}
use lib.Bits.{bit_and, bit_or, bit_xor}
use lib.Dec.{eqb}
use lib.ListN.{get_or}
use lib.Pow.{pow_pos, high, shl-shr, ones_lt}
use borrow.Author.Tests.{lt-ltb, eq-eqb, ne_eqb}
use Rattle.bits.specs.Packed.{bit_at, weight, bit_of}
use Rattle.bits.proofs.Weight.{bit_or_bit, weight_lt, weight_out, weight_shr, weight_shl_low, weight_mod, weight_zero, weight_ones, weight_and, weight_or, weight_xor, shl_low, shl_high, same_weights}
use Rattle.bits.proofs.Run.{bit_lt}
use Rattle.rules.specs.Pattern.{Pattern, agrees}
use Rattle.rules.proofs.Pattern.{agrees_by, agrees_one, agrees_zero}
use Rattle.rules.proofs.Ranges.{every_at, to_every}
use Rattle.matcher.specs.Tables.{TailTables}
use Rattle.tail.specs.declared.FourBits.{FourBits}
use Rattle.tail.specs.declared.Masks.{Masks}
use Rattle.tail.specs.Lengths.{ends_in, MasksOf, spread_of, every_bit, care_of, Four, Spread, left_by_bit, left_by_four, Made, Keeps, Fits}

-- ---- bits of words

pub xor_same : (x y i : ℕ) → weight x i ≡ weight y i → weight (bit_xor x y) i ≡ 0
xor_same x y i e = weight_xor x y i ∙ rw (eq-eqb (weight x i) (weight y i) e)

pub xor_other : (x y i : ℕ) → (weight x i ≡ weight y i → ⊥) → weight (bit_xor x y) i ≡ 1
xor_other x y i n = weight_xor x y i ∙ rw (ne_eqb (weight x i) (weight y i) n)

-- where their `xor` has a 0 two words have the same bit
pub same_at : (x y i : ℕ) → weight (bit_xor x y) i ≡ 0 → weight x i ≡ weight y i
same_at x y i e = pick (ℕ_discrete (weight x i) (weight y i))
  where
    pick : Dec (weight x i ≡ weight y i) → weight x i ≡ weight y i
    pick (yes q) = q
    pick (no n) = absurd (omega (arith, e, xor_other x y i n))

pub and_one : (x y i : ℕ) → weight x i ≡ 1 → weight y i ≡ 1 → weight (bit_and x y) i ≡ 1
and_one x y i p q = weight_and x y i ∙ omega (arith, p, q)

pub and_none : (x y i : ℕ) → weight y i ≡ 0 → weight (bit_and x y) i ≡ 0
and_none x y i q = weight_and x y i ∙ omega (arith, q)

-- and so both are set where their `and` is
pub and_left : (x y i : ℕ) → weight (bit_and x y) i ≡ 1 → weight x i ≡ 1
and_left x y i e = let b = weight_and x y i in let l = weight_lt x i in omega arith

pub and_right : (x y i : ℕ) → weight (bit_and x y) i ≡ 1 → weight y i ≡ 1
and_right x y i e = let b = weight_and x y i in let l = weight_lt y i in omega arith

pub or_left : (x y i : ℕ) → weight x i ≡ 1 → weight (bit_or x y) i ≡ 1
or_left x y i p = let l = weight_lt y i in weight_or x y i ∙ omega (arith, p)

pub or_right : (x y i : ℕ) → weight y i ≡ 1 → weight (bit_or x y) i ≡ 1
or_right x y i p = let l = weight_lt x i in weight_or x y i ∙ omega (arith, p)

-- a bit of `xor` where the second has none that the first has not
pub xor_less : (x y i : ℕ) → weight y i ≤ weight x i → weight (bit_xor x y) i ≡ weight x i - weight y i
xor_less x y i l = pick (ℕ_discrete (weight x i) (weight y i))
  where
    pick : Dec (weight x i ≡ weight y i) → weight (bit_xor x y) i ≡ weight x i - weight y i
    pick (yes e) = omega (arith, xor_same x y i e)
    pick (no n) = omega (arith, xor_other x y i n, weight_lt x i)

-- a bit of a word turned over
pub not_bit : (y i : ℕ) → i < 64 → weight (bit_xor 18446744073709551615 y) i ≡ 1 - weight y i
not_bit y i l =
    let one : weight 18446744073709551615 i ≡ 1 = weight_ones 64 i l in
    xor_less 18446744073709551615 y i (omega (arith, weight_lt y i)) ∙ ap (λ (b : ℕ). b - weight y i) one

-- two words, compared where a third one has a 1: where the result has a 0 they are the same, or the third has a 0
pub same_where : (a b c i : ℕ) → (weight (bit_and (bit_xor a b) c) i ≡ 0) ↔ (weight c i ≡ 1 → weight a i ≡ weight b i)
same_where a b c i = (
  λ z e. same_at a b i (omega (arith, z, weight_and (bit_xor a b) c i, e, weight_lt (bit_xor a b) i)),
  λ h. none h (bit_or_bit (weight c i) (weight_lt c i)),
)
  where
    none : (weight c i ≡ 1 → weight a i ≡ weight b i) → (weight c i ≡ 0) ⊎ (weight c i ≡ 1) → weight (bit_and (bit_xor a b) c) i ≡ 0
    none h (inl e) = and_none (bit_xor a b) c i e
    none h (inr e) = weight_and (bit_xor a b) c i ∙ omega (arith, xor_same a b i (h e))

-- ones in the lowest m bits
pub low_ones : (m i : ℕ) → m ≤ 64 → i < m → weight (18446744073709551615 / 2 ^ (64 - m)) i ≡ 1
low_ones m i h l = weight_shr 18446744073709551615 (64 - m) i ∙ weight_ones 64 (64 - m + i) (omega arith)

pub low_none : (m i : ℕ) → m ≤ i → weight (18446744073709551615 / 2 ^ (64 - m)) i ≡ 0
low_none m i h = weight_shr 18446744073709551615 (64 - m) i ∙ weight_out {x = 18446744073709551615} {w = 64} {i = 64 - m + i} (omega arith) (omega arith)

-- moved up by a, and then by c
pub shl_twice_low : (x a c r : ℕ) → r < 64 → r < a + c → weight (x * 2 ^ a % 2 ^ 64 * 2 ^ c % 2 ^ 64) r ≡ 0
shl_twice_low x a c r h l = go (dec_le c r)
  where
    go : Dec (c ≤ r) → weight (x * 2 ^ a % 2 ^ 64 * 2 ^ c % 2 ^ 64) r ≡ 0
    go (yes u) = shl_high (x * 2 ^ a % 2 ^ 64) c r h u ∙ shl_low x a (r - c) (omega arith) (omega arith)
    go (no u) = shl_low (x * 2 ^ a % 2 ^ 64) c r h (omega arith)

pub shl_twice_high : (x a c r : ℕ) → r < 64 → a + c ≤ r → weight (x * 2 ^ a % 2 ^ 64 * 2 ^ c % 2 ^ 64) r ≡ weight x (r - (a + c))
shl_twice_high x a c r h l =
    let there : r - c - a ≡ r - (a + c) = omega arith in
    shl_high (x * 2 ^ a % 2 ^ 64) c r h (omega arith) ∙ shl_high x a (r - c) (omega arith) (omega arith) ∙ ap (weight x) there

-- a bit of a word moved up that is set is one of the word
pub shl_set : (x a j : ℕ) → j < 64 → bit_of 64 (x * 2 ^ a % 2 ^ 64) j ≡ 1 → (j + a < 64) × (bit_of 64 x (j + a) ≡ 1)
shl_set x a j few e = go (dec_le a (63 - j))
  where
    go : Dec (a ≤ 63 - j) → (j + a < 64) × (bit_of 64 x (j + a) ≡ 1)
    go (yes l) =
        let there : 63 - (j + a) ≡ 63 - j - a = omega arith in
        (omega arith, ap (weight x) there ∙ sym (shl_high x a (63 - j) (omega arith) l) ∙ e)
    go (no n) = absurd (omega (arith, e, shl_low x a (63 - j) (omega arith) (omega arith)))

-- where the bits below r are 0, y and y − 1 differ in bit r
pub below_lowest : (y r : ℕ) → 0 < y → ((i : ℕ) → i < r → weight y i ≡ 0) → weight (bit_xor y (y - 1)) r ≡ 1
below_lowest y r some none = xor_other y (y - 1) r (go (y / 2 ^ r) whole)
  where
    rest : y % 2 ^ r ≡ 0
    rest = same_weights r (y % 2 ^ r) 0 (mod-lt y (pow_pos r)) (pow_pos r) (λ i l. weight_mod y l ∙ none i l ∙ sym (weight_zero i))

    whole : y ≡ y / 2 ^ r * 2 ^ r
    whole = sym (div-add-mod' y (2 ^ r)) ∙ ap (λ (z : ℕ). y / 2 ^ r * 2 ^ r + z) rest ∙ add-zero (y / 2 ^ r * 2 ^ r)

    -- y = c 2^r, so y − 1 = (c − 1) 2^r + (2^r − 1)
    go : (c : ℕ) → y ≡ c * 2 ^ r → weight y r ≡ weight (y - 1) r → ⊥
    go zero e same = omega (arith, e ∙ zero-mul (2 ^ r))
    go (suc c) e same =
        let parts : y ≡ c * 2 ^ r + 2 ^ r = e ∙ suc-mul c (2 ^ r) in
        let less : y - 1 ≡ c * 2 ^ r + (2 ^ r - 1) = omega (arith, pow_pos r) in
        let upper : y / 2 ^ r ≡ suc c = ap (λ (z : ℕ). z / 2 ^ r) e ∙ shl-shr (suc c) r in
        let lower : (y - 1) / 2 ^ r ≡ c = ap (λ (z : ℕ). z / 2 ^ r) less ∙ high c r (ones_lt r) in
        let even : suc c % 2 ≡ c % 2 = sym (ap (λ (z : ℕ). z % 2) upper) ∙ same ∙ ap (λ (z : ℕ). z % 2) lower in
        omega (arith, even)

-- ---- the pattern's bits

module _ (w : Pattern) (zeros ones : ℕ) (masks : MasksOf w zeros ones) where
  -- the masks' bits, by those of the pattern's two runs
  pub ones_bit : (j : ℕ) → j < w.count → bit_of 64 ones j ≡ max (bit_at w.bytes j) (1 - bit_at w.fixed j)
  ones_bit j l = masks.ones_are j l ∙ agrees_one w j

  pub zeros_bit : (j : ℕ) → j < w.count → bit_of 64 zeros j ≡ max (1 - bit_at w.bytes j) (1 - bit_at w.fixed j)
  zeros_bit j l = masks.zeros_are j l ∙ agrees_zero w j

  -- they leave the second run's
  pub care_bit : (j : ℕ) → j < w.count → j < 64 → bit_of 64 (care_of zeros ones) j ≡ bit_at w.fixed j
  care_bit j l few =
      let b = bit_lt w.bytes j in
      let f = bit_lt w.fixed j in
      omega (arith, not_bit (bit_and zeros ones) (63 - j) (omega arith), weight_and zeros ones (63 - j), ones_bit j l, zeros_bit j l)

  -- a bit agrees with the pattern just if it is that of the mask of ones, or that is wild
  pub agrees_masked : (j b : ℕ) → j < w.count → j < 64 → (agrees w j b ≡ true) ↔ (bit_of 64 (care_of zeros ones) j ≡ 1 → bit_of 64 ones j ≡ b)
  agrees_masked j b l few = (
    λ a e. let f : bit_at w.fixed j ≡ 1 = sym (care_bit j l few) ∙ e in own f ∙ sym ((agrees_by w j b).0 a f),
    λ h. (agrees_by w j b).1 (λ f. sym (h (care_bit j l few ∙ f)) ∙ own f),
  )
    where
      own : bit_at w.fixed j ≡ 1 → bit_of 64 ones j ≡ bit_at w.bytes j
      own f = omega (arith, ones_bit j l)

  -- the pattern's first bits are the window's last just where the mask's are
  pub ends_fits : (x r : ℕ) → r ≤ w.count → r ≤ 64 → ends_in w x r ≡ true → Fits ones (care_of zeros ones) x r
  unfolding ends_in
  ends_fits x r few short h i l = (agrees_masked i (weight x (r - suc i)) (omega arith) (omega arith)).0 (every_at r _ h i l)

  pub fits_ends : (x r : ℕ) → r ≤ w.count → r ≤ 64 → Fits ones (care_of zeros ones) x r → ends_in w x r ≡ true
  unfolding ends_in
  fits_ends x r few short h = to_every r _ (λ j l. (agrees_masked j (weight x (r - suc j)) (omega arith) (omega arith)).1 (h j l))

-- the cells of the table are the pattern's masks
pub masks_of_tables : (w : Pattern) (cells : List ℕ) → w.count ≤ 64 → TailTables w cells → MasksOf w (get_or cells 0 0) (get_or cells 1 0)
masks_of_tables w cells few t = record { zeros_are = at 0 (omega arith); ones_are = at 1 (omega arith) }
  where
    at : (c : ℕ) → c < 2 → (j : ℕ) → j < w.count → bit_of 64 (get_or cells c 0) j ≡ cond (agrees w j c) 1 0
    at c h j l = t.mask_is c j h (omega arith) ∙ rw (lt-ltb j w.count l)

-- ---- a bit of the pattern, spread

module _ (zeros j r : ℕ) (few : r < 64) where
  -- where the pattern's bit is 0 every bit is set
  spread_zero : bit_of 64 zeros j ≡ 1 → weight (spread_of zeros j) r ≡ 1
  unfolding spread_of
  spread_zero e = rw (eq-eqb (bit_of 64 zeros j) 1 e) (weight_ones 64 r few)

  -- up to j every bit is set
  spread_low : r ≤ j → weight (spread_of zeros j) r ≡ 1
  unfolding spread_of
  spread_low l = go (eqb (bit_of 64 zeros j) 1)
    where
      go : (b : Bool) → weight (cond b 18446744073709551615 (18446744073709551615 / 2 ^ (63 - j))) r ≡ 1
      go true = weight_ones 64 r few
      go false = weight_shr 18446744073709551615 (63 - j) r ∙ weight_ones 64 (63 - j + r) (omega arith)

  -- and where the pattern's bit is 1 none after that
  spread_high : bit_of 64 zeros j ≡ 0 → j < r → weight (spread_of zeros j) r ≡ 0
  unfolding spread_of
  spread_high e l =
      let other : (bit_of 64 zeros j ≡ 1 → ⊥) = λ f. omega arith in
      rw (ne_eqb (bit_of 64 zeros j) 1 other)
      (weight_shr 18446744073709551615 (63 - j) r ∙ weight_out {x = 18446744073709551615} {w = 64} {i = 63 - j + r} (omega arith) (omega arith))

-- from 63 on that is all bits
pub spread_last : (zeros j : ℕ) → 63 ≤ j → spread_of zeros j ≡ 18446744073709551615
unfolding spread_of
spread_last zeros j h = let none : 63 - j ≡ 0 = omega arith in rw none (go (eqb (weight zeros 0) 1))
  where
    go : (b : Bool) → ◌≡◌ {A = ℕ} (cond b 18446744073709551615 (18446744073709551615 / 2 ^ 0)) 18446744073709551615
    go true = refl
    go false = refl

-- Length r, at which the pattern's first bits are the window's last, is left by the pattern's bit j, which is not wild: v is the window
-- moved up by j + 1.
left_by : (w : Pattern) (zeros ones : ℕ) → MasksOf w zeros ones → (x r j v : ℕ) → r < w.count → r < 64 → ends_in w x r ≡ true
    → (r ≤ j → weight v r ≡ 0) → (j < r → weight v r ≡ weight x (r - suc j)) → (j < r → bit_of 64 (care_of zeros ones) j ≡ 1)
    → weight (bit_xor v (spread_of zeros j)) r ≡ 1
left_by w zeros ones masks x r j v below few h low high solid = xor_other v (spread_of zeros j) r (λ same. go same (dec_le r j))
  where
    -- the pattern's bit is the window's, and turned over in the mask of zeros
    bit_there : j < r → bit_of 64 zeros j ≡ 1 - weight x (r - suc j)
    bit_there l =
        let b = bit_lt w.bytes j in
        omega (arith, solid l, ends_fits w zeros ones masks x r (omega arith) (omega arith) h j l (solid l), zeros_bit w zeros ones masks j (omega arith), ones_bit w zeros ones masks j (omega arith), care_bit w zeros ones masks j (omega arith) (omega arith))

    by_bit : j < r → weight v r ≡ weight (spread_of zeros j) r → (bit_of 64 zeros j ≡ 0) ⊎ (bit_of 64 zeros j ≡ 1) → ⊥
    by_bit l same (inl z) = omega (arith, same, high l, bit_there l, spread_high zeros j r few z l)
    by_bit l same (inr z) = omega (arith, same, high l, bit_there l, spread_zero zeros j r few z)

    go : weight v r ≡ weight (spread_of zeros j) r → Dec (r ≤ j) → ⊥
    go same (yes l) = omega (arith, same, low l, spread_low zeros j r few l)
    go same (no n) = by_bit (omega arith) same (bit_or_bit (bit_of 64 zeros j) (weight_lt zeros (63 - j)))

-- ---- the first run

-- every bit of `every_bit` is that bit
pub every_bit_is : (word j i : ℕ) → i < 64 → weight (every_bit word j) i ≡ bit_of 64 word j
unfolding every_bit
every_bit_is word j i l = go (bit_or_bit (bit_of 64 word j) (weight_lt word (63 - j)))
  where
    go : (bit_of 64 word j ≡ 0) ⊎ (bit_of 64 word j ≡ 1) → weight (cond (eqb (bit_of 64 word j) 1) 18446744073709551615 0) i ≡ bit_of 64 word j
    go (inl e) = rw e (weight_zero i)
    go (inr e) = rw e (weight_ones 64 i l)

-- the window's end with a bit above it is not 0
pub end_some : (x flip : ℕ) → 0 < bit_or (bit_xor x flip) 9223372036854775808
end_some x flip = go (dec_le 1 (bit_or (bit_xor x flip) 9223372036854775808))
  where
    set : weight (bit_or (bit_xor x flip) 9223372036854775808) 63 ≡ 1
    set = or_right (bit_xor x flip) 9223372036854775808 63 (omega arith)

    go : Dec (1 ≤ bit_or (bit_xor x flip) 9223372036854775808) → 0 < bit_or (bit_xor x flip) 9223372036854775808
    go (yes l) = l
    go (no n) =
        let z : bit_or (bit_xor x flip) 9223372036854775808 ≡ 0 = omega arith in
        absurd (omega (arith, sym set ∙ ap (λ (y : ℕ). weight y 63) z ∙ weight_zero 63))

-- what the first run leaves
abbrev pub left_by_run : Masks → ℕ → ℕ
left_by_run k x =
    bit_or k.past (bit_xor (bit_or (bit_xor x k.flip) 9223372036854775808) (bit_or (bit_xor x k.flip) 9223372036854775808 - 1))

-- A word leaves each length below m at which the pattern's first bits are the last of the window x.
abbrev pub Leaves : Masks → ℕ → ℕ → Type 0
Leaves k x d =
    (w : Pattern) → w.count ≡ k.m → MasksOf w k.zeros k.ones → (r : ℕ) → r < k.m → ends_in w x r ≡ true → weight d r ≡ 1

pub both_leave : (k : Masks) (x a b : ℕ) → Leaves k x a → Leaves k x b → Leaves k x (bit_and a b)
both_leave k x a b h g w c masks r l e = and_one a b r (h w c masks r l e) (g w c masks r l e)

module _ (k : Masks) (few_bits : k.m ≤ 64) (made : Made k) (x : ℕ) where
  -- The first run does: a length lies after the run, or the window ends with so many bits like the pattern's first.
  pub run_leaves : Leaves k x (left_by_run k x)
  run_leaves w c masks r l h = go (dec_le r made.run)
    where
      end : ℕ
      end = bit_or (bit_xor x k.flip) 9223372036854775808

      -- a bit inside the run
      bit_like : r ≤ made.run → (i : ℕ) → i < r → weight x i ≡ weight k.flip i
      bit_like u i v =
          let j : ℕ = r - suc i in
          let there : r - suc (r - suc i) ≡ i = omega arith in
          let all : (n : ℕ) → n < 64 → weight k.flip n ≡ bit_of 64 k.ones 0 = λ n few. rw made.flip_is (every_bit_is k.ones 0 n few) in
          sym (ap (weight x) there)
          ∙ sym (ends_fits w k.zeros k.ones masks x r (omega arith) (omega arith) h j (omega arith) (rw made.care_is at (made.run_is.solid j (omega arith))))
          ∙ made.run_is.like j (omega arith)
          ∙ all (63 - j) (omega arith)
          ∙ sym (all i (omega arith))

      end_none : r ≤ made.run → (i : ℕ) → i < r → weight end i ≡ 0
      end_none u i v =
          let first = xor_same x k.flip i (bit_like u i v) in
          let second : weight 9223372036854775808 i ≡ 0 = weight_shl_low 1 {s = 63} {i = i} (omega arith) in
          weight_or (bit_xor x k.flip) 9223372036854775808 i ∙ omega (arith, first, second)

      go : Dec (r ≤ made.run) → weight (left_by_run k x) r ≡ 1
      go (yes u) = or_right k.past (bit_xor end (end - 1)) r (below_lowest end r (end_some x k.flip) (end_none u))
      go (no n) =
          or_left k.past (bit_xor end (end - 1)) r
          (rw made.past_is (shl_twice_high 18446744073709551615 made.run 1 r (omega arith) (omega arith) ∙ weight_ones 64 (r - (made.run + 1)) (omega arith)))

  -- And so does each of four bits that are not wild, spread over b: the window is moved up by as many bits.
  pub bit_leaves : (f c j b : ℕ) → Four k.care f → 1 ≤ c → c ≤ 4 → suc j ≡ f + c → b ≡ spread_of k.zeros j
      → Leaves k x (left_by_bit x f c b)
  bit_leaves f c j b four some few at is w count masks r l h =
      rw is
      (left_by w k.zeros k.ones masks x r j (x * 2 ^ f % 2 ^ 64 * 2 ^ c % 2 ^ 64) (omega arith) (omega arith) h
      (λ u. shl_twice_low x f c r (omega arith) (omega arith))
      (λ u.
      let there : r - (f + c) ≡ r - suc j = omega arith in
      shl_twice_high x f c r (omega arith) (omega arith) ∙ ap (weight x) there)
      (λ u.
      let there : f + (c - 1) ≡ j = omega arith in
      rw (there, made.care_is) at (four.solid (c - 1) (omega arith) (omega arith))))

  four_leave : (f : FourBits) → Four k.care f.from → Spread k.zeros f → Leaves k x (left_by_four f x)
  four_leave f four is =
      both_leave k x _ _
      (both_leave k x _ _
      (both_leave k x _ _
      (bit_leaves f.from 1 f.from f.b0 four (omega arith) (omega arith) (omega arith) is.is0)
      (bit_leaves f.from 2 (f.from + 1) f.b1 four (omega arith) (omega arith) (omega arith) is.is1))
      (bit_leaves f.from 3 (f.from + 2) f.b2 four (omega arith) (omega arith) (omega arith) is.is2))
      (bit_leaves f.from 4 (f.from + 3) f.b3 four (omega arith) (omega arith) (omega arith) is.is3)

  -- all of them, and no length from m on
  pub keeps_left : Keeps k.m k.zeros k.ones x (bit_and (bit_and (bit_and (left_by_four k.first x) (left_by_four k.second x)) (left_by_run k x)) k.below)
  keeps_left = within _ all
    where
      all : Leaves k x (bit_and (bit_and (left_by_four k.first x) (left_by_four k.second x)) (left_by_run k x))
      all =
          both_leave k x _ _
          (both_leave k x _ _ (four_leave k.first made.first made.first_spread) (four_leave k.second made.second made.second_spread))
          run_leaves

      within : (d : ℕ) → Leaves k x d → Keeps k.m k.zeros k.ones x (bit_and d k.below)
      within d h =
          rw made.below_is
          record {
            none_from = λ i l. and_none d (18446744073709551615 / 2 ^ (64 - k.m)) i (low_none k.m i l);
            kept = λ w c masks r l e. and_one d (18446744073709551615 / 2 ^ (64 - k.m)) r (h w c masks r l e) (low_ones k.m r few_bits l);
          }
