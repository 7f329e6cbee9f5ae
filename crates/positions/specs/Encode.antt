-- What the writer writes: a number in groups of seven bits (a varint, LEB128), and a list.
use Rattle.std.specs.Prelude.{ℕ, zero, suc, ◌+◌, ◌-◌, ◌/◌, ◌%◌, List, [], ◌∷◌, ◌++◌, length, ltb}
use Rattle.positions.specs.Basics.{pick}

-- Document 01: "groups of seven bits, lowest group first, one byte a group, with 128 added when another follows, in the fewest
-- groups". The first argument bounds how many groups may follow.
unfoldable pub groups : ℕ → ℕ → List ℕ
groups zero n = n ∷ []
groups (suc k) n =
    let more : List ℕ = (n % 128 + 128) ∷ groups k (n / 128) in
    pick (ltb n 128) (n ∷ []) more

-- a number, with a bound that is never reached
unfoldable pub encode_number : ℕ → List ℕ
encode_number n = groups n n

-- Document 01: "the first position, then for each later one its distance from the one before, less 1". `next` is the least
-- position that may come: 0 at first, later one past the one before, so `p - next` is the number that stands for p.
unfoldable pub encode_from : ℕ → List ℕ → List ℕ
encode_from next [] = []
encode_from next (p ∷ ps) = encode_number (p - next) ++ encode_from (p + 1) ps

-- Document 01: "The file holds the count, the first position, .."
unfoldable pub encode : List ℕ → List ℕ
encode l = encode_number (length l) ++ encode_from 0 l
