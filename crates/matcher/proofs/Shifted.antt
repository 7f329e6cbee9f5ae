-- A load of 64 bits that is shifted to the left bit by bit: its first eight bits are those of the next place each time.
-- Assumes nothing.
use Prim.Native.Nat.{ℕ, ◌+◌, ◌-◌, ◌*◌, ◌/◌, ◌%◌, ◌^◌, ◌≤◌, ◌<◌}
use mathlib.Core.Path.{◌≡◌, sym, ap, ◌∙◌}
use mathlib.Core.List.{List}
use native.Mathlib.Nat.{add-zero, mul-one}
use native.Mathlib.Omega.{arith}
use lib.Pow.{pow-add, low, shl_lt, shl-shr, shr-shr}
use Rattle.bits.specs.Packed.{bits_at}
use Rattle.bits.proofs.Run.{bits_lt, bits_add, bits_first}

-- the 64 bits from p on without the first r, moved to the front
abbrev pub shifted : List ℕ → ℕ → ℕ → ℕ
shifted bytes p r = bits_at bytes (p + r) (64 - r) * 2 ^ r

module _ (bytes : List ℕ) (p : ℕ) where
  pub shifted_none : bits_at bytes p 64 ≡ shifted bytes p 0
  shifted_none = rw (add-zero p) (sym (mul-one (bits_at bytes p 64)))

  -- its first eight bits
  pub shifted_first : (r : ℕ) → r ≤ 56 → shifted bytes p r / 2 ^ 56 ≡ bits_at bytes (p + r) 8
  shifted_first r h =
      let parts : 56 ≡ r + (56 - r) = omega arith in
      let cut : 64 - r - 8 ≡ 56 - r = omega arith in
      ap (λ (n : ℕ). shifted bytes p r / 2 ^ n) parts
      ∙ sym (shr-shr (shifted bytes p r) r (56 - r))
      ∙ ap (λ (x : ℕ). x / 2 ^ (56 - r)) (shl-shr (bits_at bytes (p + r) (64 - r)) r)
      ∙ rw cut at (bits_first bytes (p + r) {j = 8} {k = 64 - r} (omega arith))

  -- one bit further
  pub shifted_more : (r : ℕ) → r < 64 → (shifted bytes p r * 2 ^ 1) % 2 ^ 64 ≡ shifted bytes p (r + 1)
  shifted_more r h = ap (λ (x : ℕ). x % 2 ^ 64) apart ∙ low (bits_at bytes (p + r) 1) 64 fits
    where
      rest : ℕ
      rest = bits_at bytes (p + (r + 1)) (64 - (r + 1))

      parts : bits_at bytes (p + r) (64 - r) ≡ bits_at bytes (p + r) 1 * 2 ^ (64 - (r + 1)) + rest
      parts =
          let one : 64 - r ≡ 1 + (64 - (r + 1)) = omega arith in
          let there : p + r + 1 ≡ p + (r + 1) = omega arith in
          ap (λ (n : ℕ). bits_at bytes (p + r) n) one
          ∙ rw there at (bits_add bytes (p + r) 1 (64 - (r + 1)))

      power : 2 ^ (64 - (r + 1)) * 2 ^ (r + 1) ≡ 2 ^ 64
      power =
          let all : 64 - (r + 1) + (r + 1) ≡ 64 = omega arith in
          sym (pow-add 2 (64 - (r + 1)) (r + 1)) ∙ ap (λ (n : ℕ). 2 ^ n) all

      apart : shifted bytes p r * 2 ^ 1 ≡ bits_at bytes (p + r) 1 * 2 ^ 64 + rest * 2 ^ (r + 1)
      apart = rw (parts, ← power, pow-add 2 r 1) (omega arith)

      fits : rest * 2 ^ (r + 1) < 2 ^ 64
      fits =
          let all : 64 - (r + 1) + (r + 1) ≡ 64 = omega arith in
          rw all at (shl_lt (64 - (r + 1)) (r + 1) (bits_lt bytes (p + (r + 1)) (64 - (r + 1))))
