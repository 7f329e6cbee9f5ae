-- Document 01's first recording, R1, read eight bits at a time by the definitions, near its end too; each refusal with its
-- small example.
-- Assumes nothing.
use mathlib.Core.Path.{◌≡◌, refl}
use mathlib.Core.List.{[], ◌∷◌}
use Prim.Native.Nat.{ℕ}
use Rattle.bits.specs.Packed.{Packed, bit_at}
use Rattle.bits.proofs.Examples.{r1}
use Rattle.eight.specs.Eight.{shown, number, from_bits, eight_at}
use Rattle.eight.specs.Claims.{list_of, reads}

-- R1 has 36 bits, and after them four bits of padding, all ones
abbrev pub of : ℕ → Packed
of n = record { bytes = r1; count = n }

pub record Examples : Type 0 where
  pub inside : eight_at (of 36) 11 ≡ shown 0b01001101 8
  pub at_the_end : eight_at (of 36) 28 ≡ shown 0b01001001 8
  -- a program that shows padding has a last 1 here
  pub seven_left : eight_at (of 36) 29 ≡ shown 0b10010010 7
  pub four_left : eight_at (of 36) 32 ≡ shown 0b10010000 4
  pub one_left : eight_at (of 36) 35 ≡ shown 0b10000000 1
  -- inside one byte, with more of the text before and padding after
  pub in_a_byte : eight_at (of 38) 33 ≡ shown 0b00111000 5
  pub none_left : eight_at (of 36) 36 ≡ shown 0 0
  pub past_the_bytes : eight_at (of 36) 40 ≡ shown 0 0
  -- p + 8 is 0 in 32 bits, and 7
  pub wraps_to_zero : eight_at (of 36) 4294967288 ≡ shown 0 0
  pub largest : eight_at (of 36) 4294967295 ≡ shown 0 0
  pub no_bits : eight_at (record { bytes = []; count = 0 }) 0 ≡ shown 0 0
  pub long : eight_at (of 1073741825) 29 ≡ number 1
  pub short : eight_at (of 41) 0 ≡ number 2
  pub nine_bits_one_byte : eight_at (record { bytes = 0 ∷ []; count = 9 }) 0 ≡ number 2
  -- three reads at 24, 32 and 40 give the last twelve bits
  pub last_twelve : reads (of 36) 24 3 ≡ 0 ∷ 0 ∷ 0 ∷ 1 ∷ 0 ∷ 1 ∷ 0 ∷ 0 ∷ 1 ∷ 0 ∷ 0 ∷ 1 ∷ []

pub examples : Examples
unfolding bit_at from_bits eight_at list_of reads
examples =
    record {
      inside = refl;
      at_the_end = refl;
      seven_left = refl;
      four_left = refl;
      one_left = refl;
      in_a_byte = refl;
      none_left = refl;
      past_the_bytes = refl;
      wraps_to_zero = refl;
      largest = refl;
      no_bits = refl;
      long = refl;
      short = refl;
      nine_bits_one_byte = refl;
      last_twelve = refl;
    }
