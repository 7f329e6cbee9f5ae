-- What the program prints, for each input.
use Rattle.std.specs.Prelude.{ℕ, ◌-◌, ◌^◌, List, [], ◌∷◌, ◌++◌, length, replicate}
use Rattle.bits.specs.Packed.{Packed}
use Rattle.rules.specs.declared.Method.{Method}
use Rattle.rules.specs.declared.Method.TheVariants.{Plain, Hash, Skip, Wide, Tail}
use Rattle.rules.specs.Pattern.{Pattern}
use Rattle.rules.specs.Occurrence.{places}
use Rattle.rules.specs.Scratch.{scratch_cells}
use Rattle.rules.specs.Machine.{Run}
use Rattle.search.specs.Verdict.{Request, Verdict, refused, accepted, verdict}
use Rattle.lines.specs.Input.{Parsed, bad, lines, parse}
use Rattle.lines.specs.Packing.{packed}
use Rattle.lines.specs.Line.{accepted_line, refused_line}

-- "Anything else prints the one line `bad input`."
abbrev pub bad_input : List ℕ
bad_input = 98 ∷ 97 ∷ 100 ∷ 32 ∷ 105 ∷ 110 ∷ 112 ∷ 117 ∷ 116 ∷ 10 ∷ []

-- so many bits of these bytes as a pattern, each of them fixed: the program's input has no wild bits
abbrev pub fixed_pattern : List ℕ → ℕ → Pattern
fixed_pattern bytes m = record { bytes = bytes; fixed = replicate 256 255; count = m }

-- the bits of the input's second line as a text, and those of its first line as a pattern
abbrev pub text_in : List ℕ → Packed
text_in bits = record { bytes = packed bits; count = length bits }

abbrev pub pattern_in : List ℕ → Pattern
pattern_in bits = fixed_pattern (packed bits) (length bits)

-- "It searches in each way from 0 with budget 2^32 − 1 and cells for all": a cell for each place. The scratch is the least
-- that the search takes. Of the cells a search asks only how many they are.
unfoldable pub asked : Packed → Pattern → Method → Request
asked t w x =
    record {
      text = t;
      pattern = w;
      method = x;
      mark = 0;
      budget = 2 ^ 32 - 1;
      list = replicate (places t w) 0;
      scratch = replicate (scratch_cells x w.count) 0;
    }

-- "A line .. is the method, steps, hit count and the hits; where the search refuses, it is the method, `refused` and
-- the number." The verdict is that of the definitions to which the search call is equated.
unfoldable pub line_of : Method → Verdict Run → List ℕ
line_of x (accepted r) = accepted_line x r.steps r.written
line_of x (refused number) = refused_line x number

-- the line of one way
unfoldable pub search_line : Packed → Pattern → Method → List ℕ
search_line t w x = line_of x (verdict (asked t w x))

-- "the ways come in the order shown below": plain, hash, skip, wide; and document 02: "`hits` prints it as a fifth line, `tail`"
unfoldable pub five_lines : Packed → Pattern → List ℕ
five_lines t w =
    search_line t w Plain ++ (search_line t w Hash ++ (search_line t w Skip ++ (search_line t w Wide ++ search_line t w Tail)))

-- what is printed for an input that is bad, and for one that holds the pattern w and the text t
unfoldable pub printed_of : Parsed → List ℕ
printed_of bad = bad_input
printed_of (lines w t) = five_lines (text_in t) (pattern_in w)

-- "Program `hits` reads two lines .. from standard input": what it prints for the bytes s
unfoldable pub printed : List ℕ → List ℕ
printed s = printed_of (parse s)
