-- Up to eight bits from two bytes: that of the first bit and that of the last, which may be the same one.
-- Assumes nothing.
use mathlib.Core.Path.{◌≡◌, sym, ◌∙◌, ap}
use mathlib.Core.List.{List, [], ◌∷◌}
use Prim.Native.Nat.{ℕ, ◌+◌, ◌-◌, ◌*◌, ◌/◌, ◌%◌, ◌^◌, ◌≤◌, ◌<◌}
use native.Mathlib.Omega.{arith}
use native.Mathlib.Nat.{zero-add, mod-eq_of_lt}
use native.Mathlib.Decide.{dec_le}
use lib.ListN.{get_or}
use lib.Pow.{shl_lt, shl_exact, shr-shr, shl-shr}
use Rattle.bits.specs.Packed.{bit_at, bits_at}
use Rattle.bits.proofs.Run.{bits_lt, bits_first, bits_last, agree→load}
use Rattle.bits.proofs.Loads.{bit_in_byte, byte_bits, bytes_more}

-- The two bytes as a run of their own: c bits from bit p mod 8 on are those of the text from p on.
pub two_bytes_first : (bytes : List ℕ) (p c : ℕ) → 0 < c → c ≤ 8 → ((i : ℕ) → get_or bytes i 0 < 256)
    → (get_or bytes (p / 8) 0 * 256 + get_or bytes ((p + (c - 1)) / 8) 0) / 2 ^ (8 - p % 8) % 256 / 2 ^ (8 - c) ≡ bits_at bytes p c
two_bytes_first bytes p c some few h =
    ap (λ (x : ℕ). x % 256 / 2 ^ (8 - c)) first
    ∙ ap (λ (x : ℕ). x / 2 ^ (8 - c)) eight
    ∙ bits_first two r {j = c} {k = 8} few
    ∙ agree→load two bytes r p c each
  where
    r : ℕ
    r = p % 8

    e : ℕ
    e = (p + (c - 1)) / 8

    two : List ℕ
    two = get_or bytes (p / 8) 0 ∷ get_or bytes e 0 ∷ []

    both : get_or bytes (p / 8) 0 * 256 + get_or bytes e 0 ≡ bits_at two 0 16
    both = ap (λ (x : ℕ). x * 256 + get_or bytes e 0) (sym (byte_bits two 0 (h (p / 8)))) ∙ sym (bytes_more two 0 1 (h e))

    first : (get_or bytes (p / 8) 0 * 256 + get_or bytes e 0) / 2 ^ (8 - r) ≡ bits_at two 0 (8 + r)
    first =
        let cut : 8 - r ≡ 16 - (8 + r) = omega arith in
        ap (λ (x : ℕ). x / 2 ^ (8 - r)) both
        ∙ ap (λ (s : ℕ). bits_at two 0 16 / 2 ^ s) cut
        ∙ bits_first two 0 {j = 8 + r} {k = 16} (omega arith)

    eight : bits_at two 0 (8 + r) % 256 ≡ bits_at two r 8
    eight =
        let left : 8 + r - r ≡ 8 = omega arith in
        rw (left, zero-add) at (bits_last two 0 {j = r} {k = 8 + r} (omega arith))

    each : (j : ℕ) → j < c → bit_at two (r + j) ≡ bit_at bytes (p + j)
    each j l = go (dec_le 8 (r + j))
      where
        go : Dec (8 ≤ r + j) → bit_at two (r + j) ≡ bit_at bytes (p + j)
        go (no n) =
            let here : r + j ≡ 0 * 8 + (r + j) = omega arith in
            let there : p + j ≡ p / 8 * 8 + (r + j) = omega arith in
            ap (bit_at two) here
            ∙ bit_in_byte two 0 {j = r + j} (omega arith)
            ∙ sym (ap (bit_at bytes) there ∙ bit_in_byte bytes (p / 8) {j = r + j} (omega arith))
        go (yes g) =
            let here : r + j ≡ 1 * 8 + (r + j - 8) = omega arith in
            let there : p + j ≡ e * 8 + (r + j - 8) = omega arith in
            ap (bit_at two) here
            ∙ bit_in_byte two 1 {j = r + j - 8} (omega arith)
            ∙ sym (ap (bit_at bytes) there ∙ bit_in_byte bytes e {j = r + j - 8} (omega arith))

-- moved to the left they fit a byte
pub moved_fits : (bytes : List ℕ) (p c : ℕ) → c ≤ 8 → bits_at bytes p c * 2 ^ (8 - c) < 256
moved_fits bytes p c few =
    let whole : c + (8 - c) ≡ 8 = omega arith in
    rw whole at (shl_lt c (8 - c) (bits_lt bytes p c))

-- The two bytes moved to the left by p mod 8, and then to the right by 8: in 32 bits none of theirs is lost.
lined_up : (x r : ℕ) → x < 2 ^ 16 → r ≤ 8 → x * 2 ^ r % 2 ^ 32 / 2 ^ 8 ≡ x / 2 ^ (8 - r)
lined_up x r h few =
    let apart : 8 ≡ r + (8 - r) = omega arith in
    ap (λ (y : ℕ). y / 2 ^ 8) (shl_exact 16 r 32 h (omega arith))
    ∙ ap (λ (s : ℕ). x * 2 ^ r / 2 ^ s) apart
    ∙ sym (shr-shr (x * 2 ^ r) r (8 - r))
    ∙ ap (λ (y : ℕ). y / 2 ^ (8 - r)) (shl-shr x r)

-- With the bits after the first c made 0, and cut to a byte: what the code computes.
pub moved_first : (bytes : List ℕ) (p c : ℕ) → 0 < c → c ≤ 8 → ((i : ℕ) → get_or bytes i 0 < 256)
    → (get_or bytes (p / 8) 0 * 256 + get_or bytes ((p + (c - 1)) / 8) 0) * 2 ^ (p % 8) % 2 ^ 32 / 2 ^ 8 % 256 / 2 ^ (8 - c) * 2 ^ (8 - c) % 2 ^ 32 % 256
    ≡ bits_at bytes p c * 2 ^ (8 - c)
moved_first bytes p c some few h =
    ap (λ (x : ℕ). x % 256 / 2 ^ (8 - c) * 2 ^ (8 - c) % 2 ^ 32 % 256) (lined_up both (p % 8) small (omega arith))
    ∙ ap (λ (x : ℕ). x * 2 ^ (8 - c) % 2 ^ 32 % 256) (two_bytes_first bytes p c some few h)
    ∙ ap (λ (x : ℕ). x % 256) (shl_exact c (8 - c) 32 (bits_lt bytes p c) (omega arith))
    ∙ mod-eq_of_lt (moved_fits bytes p c few)
  where
    both : ℕ
    both = get_or bytes (p / 8) 0 * 256 + get_or bytes ((p + (c - 1)) / 8) 0

    small : both < 2 ^ 16
    small = omega (arith, h (p / 8), h ((p + (c - 1)) / 8))
