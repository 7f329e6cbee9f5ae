-- The bytes of a printed line.
-- Document 01: "A line, single spaces between, is the method, steps, hit count and the hits; where the search refuses, it is the
-- method, `refused` and the number." "Each printed line ends with byte 10".
use Rattle.std.specs.Prelude.{ℕ, zero, suc, ◌+◌, ◌/◌, ◌%◌, cond, List, [], ◌∷◌, ◌++◌, ltb, length}
use Rattle.rules.specs.declared.Method.{Method}
use Rattle.rules.specs.declared.Method.TheVariants.{Plain, Hash, Skip, Wide, Tail}

-- plain, hash, skip, wide; and "`hits` prints it as a fifth line, `tail`" (document 02)
abbrev pub name_of : Method → List ℕ
name_of Plain = 112 ∷ 108 ∷ 97 ∷ 105 ∷ 110 ∷ []
name_of Hash = 104 ∷ 97 ∷ 115 ∷ 104 ∷ []
name_of Skip = 115 ∷ 107 ∷ 105 ∷ 112 ∷ []
name_of Wide = 119 ∷ 105 ∷ 100 ∷ 101 ∷ []
name_of Tail = 116 ∷ 97 ∷ 105 ∷ 108 ∷ []

-- "refused", after a space
abbrev pub refused_word : List ℕ
refused_word = 32 ∷ 114 ∷ 101 ∷ 102 ∷ 117 ∷ 115 ∷ 101 ∷ 100 ∷ []

-- the decimal digits of a number; the first argument bounds how many
unfoldable pub digits_of : ℕ → ℕ → List ℕ
digits_of zero n = []
digits_of (suc k) n =
    let more : List ℕ = digits_of k (n / 10) ++ ((48 + n % 10) ∷ []) in
    cond (ltb n 10) ((48 + n) ∷ []) more

-- with a bound that is never reached
unfoldable pub decimal_of : ℕ → List ℕ
decimal_of n = digits_of (suc n) n

-- each number after a single space
unfoldable pub numbers : List ℕ → List ℕ
numbers [] = []
numbers (x ∷ xs) = (32 ∷ decimal_of x) ++ numbers xs

-- "the method, steps, hit count and the hits"
unfoldable pub accepted_line : Method → ℕ → List ℕ → List ℕ
accepted_line x steps hits = name_of x ++ (numbers (steps ∷ length hits ∷ hits) ++ (10 ∷ []))

-- "the method, `refused` and the number"
unfoldable pub refused_line : Method → ℕ → List ℕ
refused_line x number = name_of x ++ (refused_word ++ (numbers (number ∷ []) ++ (10 ∷ [])))
