-- What is printed of each part of the input.
-- Assumes nothing.
use Prim.Native.Nat.{ℕ}
use mathlib.Core.Path.{◌≡◌, ap}
use mathlib.Core.List.{List, [], ◌∷◌, map, append-nil}
use lib.ListN.{length, length-map}
use Rattle.std.specs.List.{flat_map}
use Rattle.bits.specs.Packed.{Packed}
use Rattle.rules.specs.declared.Method.TheVariants.{Plain, Hash, Skip, Wide, Tail}
use Rattle.rules.specs.Pattern.{Pattern}
use Rattle.lines.specs.Input.{bit_of, Parsed, lines, parse}
use Rattle.lines.specs.Packing.{packed}
use Rattle.hits.specs.Printed.{fixed_pattern, search_line, five_lines, printed_of, printed}

-- the five lines, one after another, in the order of the methods
pub five_joined : (t : Packed) (w : Pattern) → flat_map (search_line t w) (Plain ∷ Hash ∷ Skip ∷ Wide ∷ Tail ∷ []) ≡ five_lines t w
unfolding five_lines
five_joined t w = rw (append-nil (search_line t w Tail))

-- the bytes that are packed from the input's two lines, and the characters' numbers, give the lines of the bits
pub packed_printed : (pattern text pattern_bytes text_bytes : List ℕ) → pattern_bytes ≡ packed (map bit_of pattern) → text_bytes ≡ packed (map bit_of text)
    → five_lines (record { bytes = text_bytes; count = length text }) (fixed_pattern pattern_bytes (length pattern)) ≡ printed_of (lines (map bit_of pattern) (map bit_of text))
unfolding printed_of
packed_printed pattern text pattern_bytes text_bytes e f =
    rw (e, f, length-map pattern bit_of, length-map text bit_of)

-- what the code found in the input decides what is printed
pub parsed_printed : (s : List ℕ) (p : Parsed) → p ≡ parse s → printed_of p ≡ printed s
unfolding printed
parsed_printed s p e = ap printed_of e
