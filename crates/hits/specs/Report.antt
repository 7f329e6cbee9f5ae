-- What the functions of the program promise each other.
use Rattle.std.specs.Prelude.{ℕ, Ok, Err}
use Rattle.search.specs.Verdict.{Outcome, number_of_refusal}

-- how many bytes are read at most: one more than the longest good input has
abbrev pub input_most : ℕ
input_most = 6147

-- how many places there are at most, how many bits a pattern has at most, how many bytes a line takes then (28 and eleven for
-- each place), and five of them
abbrev pub places_most : ℕ
places_most = 4096

abbrev pub pattern_most : ℕ
pattern_most = 2048

abbrev pub line_most : ℕ
line_most = 45084

abbrev pub printed_most : ℕ
printed_most = 225420

-- the number of a refused call; an accepted one has none, which is 0 here
abbrev pub number_in : Outcome → ℕ
number_in (Ok a) = 0
number_in (Err r) = number_of_refusal r
