-- What the reader reads: bytes to a list or the first fault, front to back, and last whether there are cells for the list.
use Rattle.std.specs.Prelude.{ℕ, zero, suc, ◌+◌, ◌-◌, ◌*◌, ◌&&◌, List, [], ◌∷◌, leb, ltb, eqb, length}
use Rattle.positions.specs.Basics.{limit, pick, Result, ok, fault, and_then, is_empty}

-- The last group b of a number, of weight w, which makes the number n.
-- Document 01: "several groups and the last is zero, 11; above 2^30, 12"
unfoldable pub last_group : ℕ → ℕ → ℕ → List ℕ → Result (ℕ × List ℕ)
last_group w b n rest = pick (ltb 1 w && eqb b 0) (fault 11) (pick (leb n limit) (ok (n, rest)) (fault 12))

-- At most k groups more, the next one of weight w, after groups that add up to v.
-- Document 01: "bytes end within its first five groups, 10; the fifth says another follows, 12"
unfoldable pub read_groups : ℕ → ℕ → ℕ → List ℕ → Result (ℕ × List ℕ)
read_groups zero w v bytes = fault 12
read_groups (suc k) w v [] = fault 10
read_groups (suc k) w v (b ∷ bytes) =
    let more : Result (ℕ × List ℕ) = read_groups k (w * 128) (v + (b - 128) * w) bytes in
    pick (ltb b 128) (last_group w b (v + b * w) bytes) more

-- a number, with the bytes that remain
unfoldable pub read_number : List ℕ → Result (ℕ × List ℕ)
read_number bytes = read_groups 5 1 0 bytes

-- A position, with the bytes that remain; `next` is the least position that may come.
-- Document 01: "After each position, 12 if it is 2^30 or more"
unfoldable pub read_position : ℕ → List ℕ → Result (ℕ × List ℕ)
read_position next bytes =
    and_then (read_number bytes) (λ r. pick (ltb (next + r.0) limit) (ok (next + r.0, r.1)) (fault 12))

-- the list's body: so many positions, with the bytes that remain
unfoldable pub read_body : ℕ → ℕ → List ℕ → Result (List ℕ × List ℕ)
read_body zero next bytes = ok ([], bytes)
read_body (suc k) next bytes =
    and_then (read_position next bytes) (λ r. and_then (read_body k (r.0 + 1) r.1) (λ b. ok (r.0 ∷ b.0, b.1)))

-- Document 01: "Last, 13", for bytes left over
unfoldable pub whole : Result (List ℕ × List ℕ) → Result (List ℕ)
whole body = and_then body (λ b. pick (is_empty b.1) (ok b.0) (fault 13))

-- The whole file, judged with no word of cells: its list, or its first fault.
-- Document 01: "The reader goes front to back and gives the first fault"
unfoldable pub contents : List ℕ → Result (List ℕ)
contents file = and_then (read_number file) (λ r. whole (read_body r.0 0 r.1))

-- The reader's result with so many cells. A good file's count is the length of its list.
-- Document 02, A6: "Numbers 14 and 10 to 13 can both apply. From now on 14 comes after all of them"
unfoldable pub decode : List ℕ → ℕ → Result (List ℕ)
decode file cells = and_then (contents file) (λ l. pick (leb (length l) cells) (ok l) (fault 14))
