-- The bit of weight 2^i in a number: of a shift, of a remainder, of `and`, `or` and `xor`, of 0 and of ones; and that a number is its
-- bits.
-- Assumes nothing.
use mathlib.Core.Path.{◌≡◌, refl, sym, ◌∙◌, ap}
use mathlib.Core.Logic.{◌⊎◌, inl, inr}
use mathlib.Core.Bool.{Bool, true, false, cond}
use Prim.Native.Nat.{ℕ, zero, suc, ◌+◌, ◌-◌, ◌*◌, ◌/◌, ◌%◌, ◌^◌, ◌≤◌, ◌<◌, min, max}
use native.Mathlib.Omega.{arith}
use native.Mathlib.Nat.{div-one, div-eq_of_lt, zero-div, lt_of_lt_of_le}
use native.Mathlib.Numerals.{add-one}
use lib.Bits.{bit_and, bit_or, bit_xor, differ, and_step, or_step, xor_step, and_shr, or_shr, xor_shr}
use lib.Dec.{ltb, eqb}
use borrow.Author.Tests.{ltb-true, ltb-false}
use lib.Pow.{pow_mono, pow-add, shr-shr, shl-shr, shr_lt, field, mod-mod-pow, high, ones_lt, ones_split}
use Rattle.bits.specs.Packed.{weight, bit_of}

-- a bit is 0 or 1
pub weight_lt : (x i : ℕ) → weight x i < 2
weight_lt x i = omega arith

pub bit_or_bit : (c : ℕ) → c < 2 → (c ≡ 0) ⊎ (c ≡ 1)
bit_or_bit zero l = inl refl
bit_or_bit (suc c) l = inr (omega arith)

-- a number below 2^w has no bit from w on
pub weight_out : {x w i : ℕ} → x < 2 ^ w → w ≤ i → weight x i ≡ 0
weight_out {x} {w} {i} h l = ap (λ (y : ℕ). y % 2) (div-eq_of_lt (lt_of_lt_of_le h (pow_mono l)))

-- the bits of a shift to the right
pub weight_shr : (x s i : ℕ) → weight (x / 2 ^ s) i ≡ weight x (s + i)
weight_shr x s i = ap (λ (y : ℕ). y % 2) (shr-shr x s i)

-- the bits of a shift to the left, from the shift on
pub weight_shl : (x s i : ℕ) → weight (x * 2 ^ s) (s + i) ≡ weight x i
weight_shl x s i = sym (weight_shr (x * 2 ^ s) s i) ∙ ap (λ (y : ℕ). y / 2 ^ i % 2) (shl-shr x s)

even : (q : ℕ) → q * 2 % 2 ≡ 0
even q = omega arith

-- and below the shift
pub weight_shl_low : (x : ℕ) {s i : ℕ} → i < s → weight (x * 2 ^ s) i ≡ 0
weight_shl_low x {s} {i} h =
    ap (λ (p : ℕ). x * 2 ^ p / 2 ^ i % 2) apart
    ∙ ap (λ (y : ℕ). y / 2 ^ i % 2) shifted
    ∙ ap (λ (y : ℕ). y % 2) (shl-shr (x * 2 ^ (s - suc i) * 2) i)
    ∙ even (x * 2 ^ (s - suc i))
  where
    apart : s ≡ (s - suc i) + (1 + i)
    apart = omega arith

    shifted : x * 2 ^ ((s - suc i) + (1 + i)) ≡ x * 2 ^ (s - suc i) * 2 * 2 ^ i
    shifted = rw (pow-add 2 (s - suc i) (1 + i), pow-add 2 1 i) (omega arith)

-- the bits of a remainder by 2^w, below w
pub weight_mod : (x : ℕ) {w i : ℕ} → i < w → weight (x % 2 ^ w) i ≡ weight x i
weight_mod x {w} {i} h =
    ap (λ (v : ℕ). x % 2 ^ v / 2 ^ i % 2) apart
    ∙ ap (λ (y : ℕ). y % 2) (field x ((w - suc i) + 1) i)
    ∙ mod-mod-pow (x / 2 ^ i) (w - suc i) 1
  where
    apart : w ≡ ((w - suc i) + 1) + i
    apart = omega arith

-- within 64 bits: below a shift to the left, and from it on
pub shl_low : (x s n : ℕ) → n < 64 → n < s → weight (x * 2 ^ s % 2 ^ 64) n ≡ 0
shl_low x s n h l = weight_mod (x * 2 ^ s) {w = 64} {i = n} h ∙ weight_shl_low x {s = s} {i = n} l

pub shl_high : (x s n : ℕ) → n < 64 → s ≤ n → weight (x * 2 ^ s % 2 ^ 64) n ≡ weight x (n - s)
shl_high x s n h l =
    let there : n ≡ s + (n - s) = omega arith in
    weight_mod (x * 2 ^ s) {w = 64} {i = n} h
    ∙ ap (λ (i : ℕ). weight (x * 2 ^ s) i) there
    ∙ weight_shl x s (n - s)

-- 0 has no bit
pub weight_zero : (i : ℕ) → weight 0 i ≡ 0
weight_zero i = ap (λ (y : ℕ). y % 2) (zero-div (2 ^ i))

odd_ones : (j : ℕ) → 0 < j → (2 ^ j - 1) % 2 ≡ 1
odd_ones zero h = absurd (omega arith)
odd_ones (suc j) h = ap (λ (y : ℕ). y % 2) (ap (λ (n : ℕ). 2 ^ n - 1) (omega arith) ∙ ones_split j 1) ∙ last (2 ^ j - 1)
  where
    last : (y : ℕ) → (y * 2 + 1) % 2 ≡ 1
    last y = omega arith

-- all of k bits are set
pub weight_ones : (k i : ℕ) → i < k → weight (2 ^ k - 1) i ≡ 1
weight_ones k i h =
    ap (λ (y : ℕ). y / 2 ^ i % 2) (ap (λ (n : ℕ). 2 ^ n - 1) apart ∙ ones_split (k - i) i)
    ∙ ap (λ (y : ℕ). y % 2) (high (2 ^ (k - i) - 1) i (ones_lt i))
    ∙ odd_ones (k - i) (omega arith)
  where
    apart : k ≡ (k - i) + i
    apart = omega arith

-- ones before bit m of the 64 bits from bit a on, and zeros from there
pub ones_shl : (a m : ℕ) → a < m → m ≤ a + 64 → (j : ℕ) → j < 64
    → bit_of 64 (18446744073709551615 * 2 ^ (a + 64 - m) % 2 ^ 64) j ≡ cond (ltb (a + j) m) 1 0
ones_shl a m h g j l = go (ltb (a + j) m) refl
  where
    s : ℕ
    s = a + 64 - m

    go : (b : Bool) → ltb (a + j) m ≡ b → weight (18446744073709551615 * 2 ^ s % 2 ^ 64) (63 - j) ≡ cond b 1 0
    go true e =
        let below = ltb-true (a + j) m e in
        shl_high 18446744073709551615 s (63 - j) (omega arith) (omega arith) ∙ weight_ones 64 (63 - j - s) (omega arith)
    go false e =
        let from = ltb-false (a + j) m e in
        shl_low 18446744073709551615 s (63 - j) (omega arith) (omega arith)

low_bit : (q r : ℕ) {x : ℕ} → x ≡ q * 2 + r → r < 2 → x % 2 ≡ r
low_bit q r e h = omega arith

-- the bits of `and`, `or` and `xor`
pub weight_and : (x y i : ℕ) → weight (bit_and x y) i ≡ min (weight x i) (weight y i)
weight_and x y i = ap (λ (z : ℕ). z % 2) (and_shr x y i) ∙ low_bit _ _ (and_step (x / 2 ^ i) (y / 2 ^ i)) (omega arith)

pub weight_or : (x y i : ℕ) → weight (bit_or x y) i ≡ max (weight x i) (weight y i)
weight_or x y i = ap (λ (z : ℕ). z % 2) (or_shr x y i) ∙ low_bit _ _ (or_step (x / 2 ^ i) (y / 2 ^ i)) (omega arith)

differ_bits : (a b : ℕ) → a < 2 → b < 2 → differ a b ≡ cond (eqb a b) 0 1
differ_bits zero zero h l = refl
differ_bits zero (suc zero) h l = refl
differ_bits (suc zero) zero h l = refl
differ_bits (suc zero) (suc zero) h l = refl
differ_bits zero (suc (suc b)) h l = absurd (omega arith)
differ_bits (suc zero) (suc (suc b)) h l = absurd (omega arith)
differ_bits (suc (suc a)) b h l = absurd (omega arith)

pub weight_xor : (x y i : ℕ) → weight (bit_xor x y) i ≡ cond (eqb (weight x i) (weight y i)) 0 1
weight_xor x y i =
    let is : differ (x / 2 ^ i % 2) (y / 2 ^ i % 2) ≡ cond (eqb (weight x i) (weight y i)) 0 1 = differ_bits (weight x i) (weight y i) (weight_lt x i) (weight_lt y i) in
    ap (λ (z : ℕ). z % 2) (xor_shr x y i)
    ∙ low_bit _ _ (xor_step (x / 2 ^ i) (y / 2 ^ i)) (rw is (bit_of_lem (eqb (weight x i) (weight y i))))
    ∙ is
  where
    bit_of_lem : (b : Bool) → cond b 0 1 < 2
    bit_of_lem true = omega arith
    bit_of_lem false = omega arith

-- two numbers of w bits with the same bits are the same number
pub same_weights : (w x y : ℕ) → x < 2 ^ w → y < 2 ^ w → ((i : ℕ) → i < w → weight x i ≡ weight y i) → x ≡ y
same_weights zero x y hx hy e = omega arith
same_weights (suc w) x y hx hy e = halves (same_weights w (x / 2) (y / 2) (half hx) (half hy) up) last
  where
    half : {z : ℕ} → z < 2 ^ suc w → z / 2 < 2 ^ w
    half {z} h = shr_lt w 1 (rw add-one h)

    up : (i : ℕ) → i < w → weight (x / 2) i ≡ weight (y / 2) i
    up i h = weight_shr x 1 i ∙ e (1 + i) (omega arith) ∙ sym (weight_shr y 1 i)

    last : x % 2 ≡ y % 2
    last = ap (λ (z : ℕ). z % 2) (sym (div-one x)) ∙ e 0 (omega arith) ∙ ap (λ (z : ℕ). z % 2) (div-one y)

    halves : x / 2 ≡ y / 2 → x % 2 ≡ y % 2 → x ≡ y
    halves p q = omega arith
