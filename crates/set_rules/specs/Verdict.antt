-- What a call for a set answers: the first refusal that applies, or what the machine comes to.
use Rattle.std.specs.Prelude.{ℕ, zero, suc, ◌*◌, ◌/◌, ◌||◌, List, [], ◌∷◌, ◌++◌, ltb, eqb, length, drop}
use Rattle.bits.specs.Packed.{Packed}
use Rattle.rules.specs.Pattern.{Pattern}
use Rattle.search.specs.Verdict.{Row, text_too_long, text_bytes_missing, pattern_length, pattern_bytes_missing, fixed_bytes_missing, Verdict, judge}
use Rattle.set_rules.specs.PatternSet.{PatternSet, pattern_at, set_places}
use Rattle.set_rules.specs.Hits.{cells_of}
use Rattle.set_rules.specs.SetMachine.{SetRun, set_run}

-- what a call is asked; "no scratch is lent"
pub record Request : Type 0 where
  pub text : Packed
  pub patterns : PatternSet
  pub mark : ℕ
  pub budget : ℕ
  pub list : List ℕ

-- "18 for no words or more than 64"
abbrev pub set_size : PatternSet → Row
set_size ws = record { number = 18; holds = eqb (length ws.counts) 0 || ltb 64 (length ws.counts) }

-- 3, 4 and 17 of one pattern; for 4 and 17 its runs are those from its first byte on
abbrev pub pattern_rows : Pattern → List Row
pattern_rows w = pattern_length w.count ∷ pattern_bytes_missing w ∷ fixed_bytes_missing w ∷ []

-- "then 3, 4, 17 for each word in turn": for the k patterns from number i on
unfoldable pub rows_from : PatternSet → ℕ → ℕ → List Row
rows_from ws i zero = []
rows_from ws i (suc k) = pattern_rows (pattern_at ws i) ++ rows_from ws (suc i) k

-- "then 6": the mark is above E
abbrev pub mark_beyond : Packed → PatternSet → ℕ → Row
mark_beyond t ws s = record { number = 6; holds = ltb (set_places t ws) s }

-- "Refused: 1, 2, then 18 .., then 3, 4, 17 for each word in turn, then 6."
unfoldable pub rows : Packed → PatternSet → ℕ → List Row
rows t ws s =
    text_too_long t ∷ text_bytes_missing t ∷ set_size ws ∷ rows_from ws 0 (length ws.counts) ++ mark_beyond t ws s ∷ []

-- how many pairs a list has room for: "a pair takes two cells", and an odd cell at the end is no room
abbrev pub room_in : List ℕ → ℕ
room_in list = length list / 2

-- what the machine comes to
unfoldable pub machine : Request → SetRun
machine q = set_run q.text q.patterns q.budget q.mark (room_in q.list)

unfoldable pub verdict : Request → Verdict SetRun
verdict q = judge (rows q.text q.patterns q.mark) (machine q)

-- the list after a run: the pairs written in front, and the cells after them as they were
abbrev pub list_after : SetRun → List ℕ → List ℕ
list_after r before = cells_of r.written ++ drop (2 * length r.written) before
