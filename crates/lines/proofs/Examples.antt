-- The definitions on small inputs.
-- Assumes nothing.
use mathlib.Core.Path.{◌≡◌, refl}
use mathlib.Core.List.{[], ◌∷◌}
use Rattle.rules.specs.declared.Method.TheVariants.{Plain, Skip}
use Rattle.lines.specs.Input.{bad, lines, parse, prepend, read_line, first_line, second_line}
use Rattle.lines.specs.Packing.{bits_from, bytes_from, packed}
use Rattle.lines.specs.Line.{decimal_of, digits_of, numbers, accepted_line, refused_line}

-- 10, 011
good : parse (49 ∷ 48 ∷ 10 ∷ 48 ∷ 49 ∷ 49 ∷ 10 ∷ []) ≡ lines (1 ∷ 0 ∷ []) (0 ∷ 1 ∷ 1 ∷ [])
unfolding parse read_line prepend first_line second_line
good = refl

-- an empty recording is good, an empty word is not
empty_text : parse (49 ∷ 10 ∷ 10 ∷ []) ≡ lines (1 ∷ []) []
unfolding parse read_line prepend first_line second_line
empty_text = refl

empty_word : parse (10 ∷ 49 ∷ 10 ∷ []) ≡ bad
unfolding parse read_line prepend first_line second_line
empty_word = refl

no_end : parse (49 ∷ 10 ∷ 48 ∷ []) ≡ bad
unfolding parse read_line prepend first_line second_line
no_end = refl

carriage_return : parse (49 ∷ 13 ∷ 10 ∷ 48 ∷ 10 ∷ []) ≡ bad
unfolding parse read_line prepend first_line second_line
carriage_return = refl

-- document 01's V1, 0100110100
pattern : packed (0 ∷ 1 ∷ 0 ∷ 0 ∷ 1 ∷ 1 ∷ 0 ∷ 1 ∷ 0 ∷ 0 ∷ []) ≡ 0b01001101 ∷ 0b00000000 ∷ []
unfolding packed bytes_from bits_from
pattern = refl

decimal : decimal_of 4294967295 ≡ 52 ∷ 50 ∷ 57 ∷ 52 ∷ 57 ∷ 54 ∷ 55 ∷ 50 ∷ 57 ∷ 53 ∷ []
unfolding decimal_of digits_of
decimal = refl

-- "plain 27 1 11"
first_line_lem : accepted_line Plain 27 (11 ∷ []) ≡ 112 ∷ 108 ∷ 97 ∷ 105 ∷ 110 ∷ 32 ∷ 50 ∷ 55 ∷ 32 ∷ 49 ∷ 32 ∷ 49 ∷ 49 ∷ 10 ∷ []
unfolding accepted_line numbers decimal_of digits_of
first_line_lem = refl

-- "skip refused 5"
third_line : refused_line Skip 5 ≡ 115 ∷ 107 ∷ 105 ∷ 112 ∷ 32 ∷ 114 ∷ 101 ∷ 102 ∷ 117 ∷ 115 ∷ 101 ∷ 100 ∷ 32 ∷ 53 ∷ 10 ∷ []
unfolding refused_line numbers decimal_of digits_of
third_line = refl
