-- The texts and patterns of "Papers from the course", and what its rows say of a search. The rows themselves are one claim in the
-- crate `papers`, which is above this one and the list file.
use Rattle.std.specs.Prelude.{ℕ, zero, suc, ◌-◌, ◌^◌, List, [], ◌∷◌, replicate}
use Rattle.bits.specs.Packed.{Packed, bytes_for}
use Rattle.rules.specs.declared.Method.{Method}
use Rattle.rules.specs.Pattern.{Pattern}
use Rattle.rules.specs.Occurrence.{places, occurrences}
use Rattle.rules.specs.Machine.{Run, run}

-- so many bits, each fixed
abbrev pub fixed_pattern : List ℕ → ℕ → Pattern
fixed_pattern bytes m = record { bytes = bytes; fixed = replicate (bytes_for m) 255; count = m }

-- "R1 = 011001001000100110100101000101001001"
abbrev pub R1 : Packed
R1 = record { bytes = 0b01100100 ∷ 0b10001001 ∷ 0b10100101 ∷ 0b00010100 ∷ 0b10010000 ∷ []; count = 36 }

-- "V1 = 0100110100"
abbrev pub V1 : Pattern
V1 = fixed_pattern (0b01001101 ∷ 0b00000000 ∷ []) 10

-- "R2 = 110010 five times, then 110"
abbrev pub R2 : Packed
R2 = record { bytes = 0b11001011 ∷ 0b00101100 ∷ 0b10110010 ∷ 0b11001011 ∷ 0b00000000 ∷ []; count = 33 }

-- "V2 = 110010110010110010110"
abbrev pub V2 : Pattern
V2 = fixed_pattern (0b11001011 ∷ 0b00101100 ∷ 0b10110000 ∷ []) 21

-- the empty text, and 11111
abbrev pub empty : Packed
empty = record { bytes = []; count = 0 }

abbrev pub ones5 : Packed
ones5 = record { bytes = 0b11111000 ∷ []; count = 5 }

-- the patterns 1 and 111
abbrev pub one : Pattern
one = fixed_pattern (0b10000000 ∷ []) 1

abbrev pub ones3 : Pattern
ones3 = fixed_pattern (0b11100000 ∷ []) 3

-- a window, 1001, whose r = 3 comes from the prefix 001 of 0011, which does not end the pattern itself
abbrev pub tail_text : Packed
tail_text = record { bytes = 0b10010011 ∷ []; count = 8 }

abbrev pub tail_pattern : Pattern
tail_pattern = fixed_pattern (0b00110000 ∷ []) 4

-- V1 with the field of its bits 4 to 7 wild: 0100????00
abbrev pub V1Wild : Pattern
V1Wild = record { bytes = V1.bytes; fixed = 0b11110000 ∷ 0b11000000 ∷ []; count = 10 }

-- the same with ones in place of its own bits at the wild ones, and in both runs ones from bit 10 on
abbrev pub V1WildOnes : Pattern
V1WildOnes = record { bytes = 0b01001111 ∷ 0b00111111 ∷ []; fixed = 0b11110000 ∷ 0b11111111 ∷ []; count = 10 }

-- V2 with every third bit wild: ?10?10?10?10?10?10?10
abbrev pub V2Wild : Pattern
V2Wild = record { bytes = V2.bytes; fixed = 0b01101101 ∷ 0b10110110 ∷ 0b11011000 ∷ []; count = 21 }

-- three wild bits
abbrev pub wild3 : Pattern
wild3 = record { bytes = 0b01000000 ∷ []; fixed = 0b00000000 ∷ []; count = 3 }

-- ?1, its wild bit having the value 1
abbrev pub wild_one : Pattern
wild_one = record { bytes = 0b11000000 ∷ []; fixed = 0b01000000 ∷ []; count = 2 }

-- 1000000?00000010, which shows the byte 10000001 from index 0 and from index 7, each time through its wild bit, and a text that
-- has it at both places
abbrev pub skip_pattern : Pattern
skip_pattern = record { bytes = 0b10000000 ∷ 0b00000010 ∷ []; fixed = 0b11111110 ∷ 0b11111111 ∷ []; count = 16 }

abbrev pub skip_text : Packed
skip_text = record { bytes = 0b01000000 ∷ 0b10000001 ∷ 0b00000010 ∷ []; count = 24 }

-- 200 zero bits
abbrev pub zeros200 : Packed
zeros200 = record { bytes = replicate 25 0; count = 200 }

-- all occurrences
abbrev pub all_occurrences : Packed → Pattern → List ℕ
all_occurrences t w = occurrences t w 0 (places t w)

-- a whole search from mark 0: budget 2^32 − 1
abbrev pub whole_run : Method → Packed → Pattern → ℕ → Run
whole_run x t w cells = run x t w (2 ^ 32 - 1) 0 cells

-- the marks that budgets i, i + 1, .. leave, k of them, with cells enough
unfoldable pub marks_from : Method → Packed → Pattern → ℕ → ℕ → List ℕ
marks_from x t w i zero = []
marks_from x t w i (suc k) = (run x t w i 0 1000).mark ∷ marks_from x t w (suc i) k

-- the marks before and after each of k steps
abbrev pub marks : Method → Packed → Pattern → ℕ → List ℕ
marks x t w k = marks_from x t w 0 (suc k)
