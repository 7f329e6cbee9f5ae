-- Which input is good, and the two bit strings that it holds.
-- Document 01: the program "reads two lines of characters 0 and 1 from standard input, each ended by byte 10, nothing after: the
-- word (1 to 2,048) and the recording (0 to 4,096). Anything else prints the one line `bad input`."
-- Document 01's word is the pattern, and its recording the text.
use Rattle.std.specs.Prelude.{ℕ, ◌+◌, ◌%◌, ◌≤◌, ◌<◌, ◌≡◌, Bool, ◌&&◌, ◌||◌, cond, List, [], ◌∷◌, ◌++◌, map, leb, eqb, length}

-- "characters 0 and 1" are the bytes 48 and 49
abbrev pub is_digit : ℕ → Bool
is_digit c = eqb c 48 || eqb c 49

-- the bit that a character stands for, and the character of a bit
abbrev pub bit_of : ℕ → ℕ
bit_of c = c % 2

abbrev pub char_of : ℕ → ℕ
char_of b = 48 + b

-- a line's bits and the bytes after its byte 10; or the bytes start with no such line
pub data Split : Type 0 where
  no_line : Split
  line : List ℕ → List ℕ → Split

-- a line with one bit more in front
unfoldable pub prepend : ℕ → Split → Split
prepend b no_line = no_line
prepend b (line bits rest) = line (b ∷ bits) rest

-- "characters 0 and 1 .. ended by byte 10"
unfoldable pub read_line : List ℕ → Split
read_line [] = no_line
read_line (c ∷ s) =
    let more : Split = prepend (bit_of c) (read_line s) in
    cond (eqb c 10) (line [] s) (cond (is_digit c) more no_line)

-- what the input holds: the pattern's bits and the text's
pub data Parsed : Type 0 where
  bad : Parsed
  lines : List ℕ → List ℕ → Parsed

-- "the word (1 to 2,048) and the recording (0 to 4,096)"
abbrev pub fits : ℕ → ℕ → Bool
fits m n = leb 1 m && (leb m 2048 && leb n 4096)

-- the second line, and "nothing after"
unfoldable pub second_line : List ℕ → Split → Parsed
second_line w no_line = bad
second_line w (line t []) = cond (fits (length w) (length t)) (lines w t) bad
second_line w (line t (c ∷ rest)) = bad

unfoldable pub first_line : Split → Parsed
first_line no_line = bad
first_line (line w rest) = second_line w (read_line rest)

unfoldable pub parse : List ℕ → Parsed
parse s = first_line (read_line s)

-- each is 0 or 1
abbrev pub Bits : List ℕ → Type 0
Bits [] = Unit
Bits (b ∷ bs) = (b < 2) × Bits bs

-- the input that holds the pattern w and the text t, as document 01 has it
pub record Good (s w t : List ℕ) : Type 0 where
  pub shape : s ≡ map char_of w ++ (10 ∷ (map char_of t ++ (10 ∷ [])))
  pub pattern_bits : Bits w
  pub text_bits : Bits t
  pub pattern_some : 1 ≤ length w
  pub pattern_most : length w ≤ 2048
  pub text_most : length t ≤ 4096

-- the bytes of the longest good input: longer input is bad, and need not be stored
abbrev pub longest : ℕ
longest = 2048 + 1 + 4096 + 1
