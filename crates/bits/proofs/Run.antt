-- Bits of a packed run: several bits in parts, each bit of a load, runs that agree.
-- Assumes nothing.
use mathlib.Core.Path.{◌≡◌, refl, sym, ◌∙◌, ap}
use mathlib.Core.List.{List}
use Prim.Native.Nat.{ℕ, zero, suc, ◌+◌, ◌-◌, ◌*◌, ◌/◌, ◌%◌, ◌^◌, ◌≤◌, ◌<◌}
use native.Mathlib.Omega.{arith}
use native.Mathlib.Nat.{add-zero, add-suc, add_assoc, pow-suc, zero-div}
use lib.ListN.{length, get_or, get_or-eq_default}
use lib.Pow.{high, low}
use Rattle.bits.specs.Packed.{weight, bit_of, bit_at, bits_at}
use Rattle.bits.proofs.Weight.{weight_lt}

pub bit_lt : (bytes : List ℕ) (p : ℕ) → bit_at bytes p < 2
unfolding bit_at
bit_lt bytes p = weight_lt (get_or bytes (p / 8) 0) (7 - p % 8)

-- past the last byte a bit reads as 0
pub bit_past : (bytes : List ℕ) (p : ℕ) → length bytes ≤ p / 8 → bit_at bytes p ≡ 0
unfolding bit_at
bit_past bytes p h = rw (get_or-eq_default bytes 0 h, zero-div)

-- k bits are a number below 2^k
pub bits_lt : (bytes : List ℕ) (p k : ℕ) → bits_at bytes p k < 2 ^ k
unfolding bits_at
bits_lt bytes p zero = omega arith
bits_lt bytes p (suc k) = rw pow-suc (omega (arith, bits_lt bytes p k, bit_lt bytes (p + k)))

-- j bits and then k bits
pub bits_add : (bytes : List ℕ) (p j k : ℕ) → bits_at bytes p (j + k) ≡ bits_at bytes p j * 2 ^ k + bits_at bytes (p + j) k
unfolding bits_at
bits_add bytes p j zero = rw (add-zero j) (omega arith)
bits_add bytes p j (suc k) =
    rw (add-suc, bits_add bytes p j k, add_assoc p j k, pow-suc) (omega arith)

-- the first j of k bits, and the others
pub bits_first : (bytes : List ℕ) (p : ℕ) {j k : ℕ} → j ≤ k → bits_at bytes p k / 2 ^ (k - j) ≡ bits_at bytes p j
bits_first bytes p {j} {k} h =
    ap (λ (i : ℕ). bits_at bytes p i / 2 ^ (k - j)) apart
    ∙ ap (λ (x : ℕ). x / 2 ^ (k - j)) (bits_add bytes p j (k - j))
    ∙ high (bits_at bytes p j) (k - j) (bits_lt bytes (p + j) (k - j))
  where
    apart : k ≡ j + (k - j)
    apart = omega arith

pub bits_last : (bytes : List ℕ) (p : ℕ) {j k : ℕ} → j ≤ k → bits_at bytes p k % 2 ^ (k - j) ≡ bits_at bytes (p + j) (k - j)
bits_last bytes p {j} {k} h =
    ap (λ (i : ℕ). bits_at bytes p i % 2 ^ (k - j)) apart
    ∙ ap (λ (x : ℕ). x % 2 ^ (k - j)) (bits_add bytes p j (k - j))
    ∙ low (bits_at bytes p j) (k - j) (bits_lt bytes (p + j) (k - j))
  where
    apart : k ≡ j + (k - j)
    apart = omega arith

last_bit : (bytes : List ℕ) (p j : ℕ) → bits_at bytes p (suc j) % 2 ≡ bit_at bytes (p + j)
unfolding bits_at
last_bit bytes p j = omega (arith, bit_lt bytes (p + j))

-- bit j of a load is bit j from its place on
pub bit_of_bits : (bytes : List ℕ) (p : ℕ) {j k : ℕ} → j < k → bit_of k (bits_at bytes p k) j ≡ bit_at bytes (p + j)
bit_of_bits bytes p {j} {k} h =
    ap (λ (i : ℕ). weight (bits_at bytes p k) i) below
    ∙ ap (λ (x : ℕ). x % 2) (bits_first bytes p h)
    ∙ last_bit bytes p j
  where
    below : k - 1 - j ≡ k - suc j
    below = omega arith

-- the same, counted from the right
pub weight_of_bits : (bytes : List ℕ) (p : ℕ) {i k : ℕ} → i < k → weight (bits_at bytes p k) i ≡ bit_at bytes (p + (k - 1 - i))
weight_of_bits bytes p {i} {k} h =
    ap (λ (n : ℕ). weight (bits_at bytes p k) n) there ∙ bit_of_bits bytes p inside
  where
    there : i ≡ k - 1 - (k - 1 - i)
    there = omega arith

    inside : k - 1 - i < k
    inside = omega arith

-- The loads of two runs that agree on k bits are the same.
pub agree→load : (a b : List ℕ) (p q k : ℕ) → ((j : ℕ) → j < k → bit_at a (p + j) ≡ bit_at b (q + j)) → bits_at a p k ≡ bits_at b q k
unfolding bits_at
agree→load a b p q zero e = refl
agree→load a b p q (suc k) e =
    rw (agree→load a b p q k (λ j h. e j (omega arith)), e k (omega arith))
