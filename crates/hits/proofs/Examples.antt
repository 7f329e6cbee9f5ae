-- What is printed for small inputs.
-- Assumes nothing.
use mathlib.Core.Path.{◌≡◌, refl}
use mathlib.Core.List.{List, [], ◌∷◌, ◌++◌, map}
use Prim.Native.Nat.{ℕ}
use Rattle.bits.specs.Packed.{bit_at, bits_at}
use Rattle.rules.specs.Ranges.{every, among, least, greatest}
use Rattle.rules.specs.Pattern.{is_fixed, agrees}
use Rattle.rules.specs.Occurrence.{matches, occurs, occurrences}
use Rattle.rules.specs.Plain.{from_bits, in_row, fixed_in_row, row_bit, mask_bit, row_byte, row_mask, row_fits, plain_finds}
use Rattle.rules.specs.Hash.{meets, hash_of, hash_again, last_eight, hash_finds, hash_next}
use Rattle.rules.specs.Skip.{shows, shown_at, skip_finds}
use Rattle.rules.specs.Wide.{counts, stands, flagged, wide_finds, last_index, wide_next}
use Rattle.rules.specs.Tail.{prefix_ends, tail_length, tail_finds, tail_next}
use Rattle.rules.specs.Step.{finds, ahead, next}
use Rattle.rules.specs.Machine.{stopped, cut, after, run}
use Rattle.search.specs.Verdict.{rows, judge, machine, verdict}
use Rattle.lines.specs.Input.{char_of, prepend, read_line, second_line, first_line, parse}
use Rattle.lines.specs.Packing.{bits_from, bytes_from, packed}
use Rattle.lines.specs.Line.{digits_of, decimal_of, numbers, accepted_line, refused_line}
use Rattle.hits.specs.Printed.{bad_input, asked, line_of, search_line, five_lines, printed_of, printed}

-- an input of two lines
abbrev two : List ℕ → List ℕ → List ℕ
two w t = map char_of w ++ (10 ∷ (map char_of t ++ (10 ∷ [])))

-- "V1 = 0100110100"
abbrev V1 : List ℕ
V1 = 0 ∷ 1 ∷ 0 ∷ 0 ∷ 1 ∷ 1 ∷ 0 ∷ 1 ∷ 0 ∷ 0 ∷ []

-- "R1 = 011001001000100110100101000101001001"
abbrev R1 : List ℕ
R1 = 0 ∷ 1 ∷ 1 ∷ 0 ∷ 0 ∷ 1 ∷ 0 ∷ 0 ∷ 1 ∷ 0 ∷ 0 ∷ 0 ∷ 1 ∷ 0 ∷ 0 ∷ 1 ∷ 1 ∷ 0 ∷ 1 ∷ 0 ∷ 0 ∷ 1 ∷ 0 ∷ 1 ∷ 0 ∷ 0 ∷ 0 ∷ 1 ∷ 0 ∷ 1 ∷ 0 ∷ 0 ∷ 1 ∷ 0 ∷ 0 ∷ 1 ∷ []

-- "plain 27 1 11", "hash 5 1 11", "skip refused 5", "wide 1 1 11"; and the fifth line, tail 5 1 11
abbrev five_printed : List ℕ
five_printed =
    112 ∷ 108 ∷ 97 ∷ 105 ∷ 110 ∷ 32 ∷ 50 ∷ 55 ∷ 32 ∷ 49 ∷ 32 ∷ 49 ∷ 49 ∷ 10
    ∷ 104 ∷ 97 ∷ 115 ∷ 104 ∷ 32 ∷ 53 ∷ 32 ∷ 49 ∷ 32 ∷ 49 ∷ 49 ∷ 10
    ∷ 115 ∷ 107 ∷ 105 ∷ 112 ∷ 32 ∷ 114 ∷ 101 ∷ 102 ∷ 117 ∷ 115 ∷ 101 ∷ 100 ∷ 32 ∷ 53 ∷ 10
    ∷ 119 ∷ 105 ∷ 100 ∷ 101 ∷ 32 ∷ 49 ∷ 32 ∷ 49 ∷ 32 ∷ 49 ∷ 49 ∷ 10
    ∷ 116 ∷ 97 ∷ 105 ∷ 108 ∷ 32 ∷ 53 ∷ 32 ∷ 49 ∷ 32 ∷ 49 ∷ 49 ∷ 10
    ∷ []

-- "V1 then R1 gives, whole"
paper : printed (two V1 R1) ≡ five_printed
unfolding bit_at bits_at every among least greatest is_fixed agrees matches occurs occurrences from_bits in_row fixed_in_row row_bit mask_bit row_byte row_mask row_fits plain_finds meets hash_of hash_again last_eight hash_finds hash_next shows shown_at skip_finds counts stands flagged wide_finds last_index wide_next prefix_ends tail_length tail_finds tail_next finds ahead next stopped cut after run rows judge machine verdict prepend read_line second_line first_line parse bits_from bytes_from packed digits_of decimal_of numbers accepted_line refused_line asked line_of search_line five_lines printed_of printed
paper = refl

-- a second line that byte 10 does not end
unended : printed (49 ∷ 10 ∷ 48 ∷ []) ≡ bad_input
unfolding prepend read_line second_line first_line parse printed_of printed
unended = refl

-- an empty word
wordless : printed (two [] R1) ≡ bad_input
unfolding prepend read_line second_line first_line parse printed_of printed
wordless = refl
