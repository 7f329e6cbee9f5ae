-- The byte that is shown: the bits that are there, moved to the left of the byte; each of its bits; and all eight.
-- Assumes nothing.
use mathlib.Core.Path.{◌≡◌, refl, sym, ◌∙◌, ap}
use mathlib.Core.List.{List}
use Prim.Native.Nat.{ℕ, zero, suc, ◌+◌, ◌-◌, ◌*◌, ◌^◌, ◌≤◌, ◌<◌}
use native.Mathlib.Omega.{arith}
use native.Mathlib.Nat.{add-zero, add-suc, mul-one, pow-suc}
use native.Mathlib.Decide.{dec_le}
use borrow.Author.Tests.{lt-ltb, le-ltb}
use Rattle.bits.specs.Packed.{Packed, weight, bit_of, bit_at, bits_at, AgreeBelow}
use Rattle.bits.proofs.Weight.{weight_shl, weight_shl_low}
use Rattle.bits.proofs.Run.{bit_of_bits, agree→load}
use Rattle.eight.specs.Eight.{count_at, shown_at, from_bits, byte_at}

-- bits of a run make its load
from_run : (bit : ℕ → ℕ) (bytes : List ℕ) (p k : ℕ) → ((j : ℕ) → j < k → bit j ≡ bit_at bytes (p + j))
    → from_bits bit k ≡ bits_at bytes p k
unfolding from_bits bits_at
from_run bit bytes p zero e = refl
from_run bit bytes p (suc k) e = rw (from_run bit bytes p k (λ j h. e j (omega arith)), e k (omega arith))

-- zeros after k bits move these to the left
from_zeros : (bit : ℕ → ℕ) (k d : ℕ) → ((j : ℕ) → k ≤ j → bit j ≡ 0) → from_bits bit (k + d) ≡ from_bits bit k * 2 ^ d
unfolding from_bits
from_zeros bit k zero e = rw (add-zero k) (omega arith)
from_zeros bit k (suc d) e =
    rw (add-suc, from_zeros bit k d e, e (k + d) (omega arith), pow-suc) (omega arith)

module _ (t : Packed) (p : ℕ) where
  abbrev c : ℕ
  c = count_at t.count p

  below : (j : ℕ) → j < c → shown_at t p j ≡ bit_at t.bytes (p + j)
  below j h = rw (lt-ltb j c h)

  past : (j : ℕ) → c ≤ j → shown_at t p j ≡ 0
  past j h = rw (le-ltb j c h)

  pub byte_load : byte_at t p ≡ bits_at t.bytes p (count_at t.count p) * 2 ^ (8 - count_at t.count p)
  byte_load =
      ap (from_bits (shown_at t p)) whole
      ∙ from_zeros (shown_at t p) c (8 - c) past
      ∙ ap (λ (x : ℕ). x * 2 ^ (8 - c)) (from_run (shown_at t p) t.bytes p c below)
    where
      whole : 8 ≡ c + (8 - c)
      whole = omega arith

  pub byte_bit : (j : ℕ) → j < 8 → bit_of 8 (byte_at t p) j ≡ shown_at t p j
  byte_bit j h = ap (λ (x : ℕ). weight x (7 - j)) byte_load ∙ go (dec_le (suc j) c)
    where
      go : Dec (suc j ≤ c) → weight (bits_at t.bytes p c * 2 ^ (8 - c)) (7 - j) ≡ shown_at t p j
      go (yes l) =
          let there : 7 - j ≡ (8 - c) + (c - 1 - j) = omega arith in
          ap (λ (i : ℕ). weight (bits_at t.bytes p c * 2 ^ (8 - c)) i) there
          ∙ weight_shl (bits_at t.bytes p c) (8 - c) (c - 1 - j)
          ∙ bit_of_bits t.bytes p {j = j} {k = c} (omega arith)
          ∙ sym (below j (omega arith))
      go (no n) = weight_shl_low (bits_at t.bytes p c) {s = 8 - c} {i = 7 - j} (omega arith) ∙ sym (past j (omega arith))

  -- none of the eight lies before n
  pub byte_none : count_at t.count p ≡ 0 → byte_at t p ≡ 0
  unfolding bits_at
  byte_none none = byte_load ∙ ap (λ (k : ℕ). bits_at t.bytes p k * 2 ^ (8 - k)) none

  -- all eight lie before n
  pub byte_inside : p + 8 ≤ t.count → byte_at t p ≡ bits_at t.bytes p 8
  byte_inside h =
      let eight : count_at t.count p ≡ 8 = omega arith in
      byte_load ∙ ap (λ (k : ℕ). bits_at t.bytes p k * 2 ^ (8 - k)) eight ∙ mul-one _

-- no bit from n on is in it
pub byte_same : (a b : List ℕ) (n p : ℕ) → AgreeBelow n a b
    → byte_at (record { bytes = a; count = n }) p ≡ byte_at (record { bytes = b; count = n }) p
byte_same a b n p e =
    byte_load (record { bytes = a; count = n }) p
    ∙ ap (λ (x : ℕ). x * 2 ^ (8 - count_at n p)) (agree→load a b p p (count_at n p) (λ j l. e (p + j) (omega arith)))
    ∙ sym (byte_load (record { bytes = b; count = n }) p)
