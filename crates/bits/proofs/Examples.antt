-- Document 01's first recording, R1, read by the definitions.
-- Assumes nothing.
use mathlib.Core.Path.{◌≡◌, refl}
use mathlib.Core.List.{List, [], ◌∷◌}
use Prim.Native.Nat.{ℕ}
use Rattle.bits.specs.Packed.{bit_at, bits_at}

-- 0110 0100 1000 1001 1010 0101 0001 0100 1001, and four bits that do not count
abbrev pub r1 : List ℕ
r1 = 0x64 ∷ 0x89 ∷ 0xa5 ∷ 0x14 ∷ 0x9f ∷ []

pub record Examples : Type 0 where
  pub first_bits : bits_at r1 0 4 ≡ 0b0110
  pub last_bit : bit_at r1 35 ≡ 1

pub examples : Examples
unfolding bit_at bits_at
examples = record { first_bits = refl; last_bit = refl }
