-- What a pattern's second run is to a call ("Wild bits in a word"): with every bit fixed a call, a search or one for H(B), answers
-- as before there was one, and patterns that are alike get the same answers. The theorems are in proofs/Wild.antt.
use Rattle.std.specs.Prelude.{ℕ, ◌≤◌, List, [], ◌∷◌, ltb, length}
use Rattle.bits.specs.Packed.{bytes_for}
use Rattle.rules.specs.declared.Method.{Method}
use Rattle.rules.specs.declared.Method.TheVariants.{Plain, Hash, Skip, Wide, Tail}
use Rattle.rules.specs.Pattern.{Pattern}
use Rattle.rules.specs.Wild.{AllFixed, Alike}
use Rattle.rules.specs.Scratch.{scratch_cells}
use Rattle.rules.specs.Machine.{Run}
use Rattle.rules.specs.Before
use Rattle.search.specs.Verdict.{Request, Row, text_too_long, text_bytes_missing, pattern_length, pattern_bytes_missing, pattern_unfit, mark_beyond, Verdict, judge}
use Rattle.search.specs.Scratch.{Enough}

-- ---- a pattern with every bit fixed

-- the cells that a method took before: "Hash should run in 256 cells"
abbrev pub cells_before : Method → ℕ → ℕ
cells_before Plain m = scratch_cells Plain m
cells_before Hash m = 256
cells_before Skip m = scratch_cells Skip m
cells_before Wide m = scratch_cells Wide m
cells_before Tail m = scratch_cells Tail m

-- the table of refusals before, 1 to 7
abbrev pub rows_before : Request → List Row
rows_before q =
    text_too_long q.text
    ∷ text_bytes_missing q.text
    ∷ pattern_length q.pattern.count
    ∷ pattern_bytes_missing q.pattern
    ∷ pattern_unfit q.method q.pattern.count
    ∷ mark_beyond q.text q.pattern q.mark
    ∷ record { number = 7; holds = ltb (length q.scratch) (cells_before q.method q.pattern.count) }
    ∷ []

-- what a call came to before, by the rules as they were, which look at no second run
unfoldable pub verdict_before : Request → Verdict Run
verdict_before q = judge (rows_before q) (Before.run q.method q.text q.pattern q.budget q.mark (length q.list))

-- H(B) by itself before: "with refusals 3, 4, 5"
unfoldable pub hash_verdict_before : Pattern → ℕ → Verdict ℕ
hash_verdict_before w B =
    judge (pattern_length w.count ∷ pattern_bytes_missing w ∷ pattern_unfit Hash w.count ∷ []) (Before.hash_of w B)

-- "Given the scratch now needed, a word with every bit fixed answers as today": its second run is there and has a 1 for each bit
pub record EveryBitFixed (q : Request) : Type 0 where
  pub fixed_there : bytes_for q.pattern.count ≤ length q.pattern.fixed
  pub all_fixed : AllFixed q.pattern
  pub enough : Enough q

-- ---- patterns that are alike

-- the request with another pattern
abbrev pub with_pattern : Request → Pattern → Request
with_pattern q w =
    record {
      text = q.text;
      pattern = w;
      method = q.method;
      mark = q.mark;
      budget = q.budget;
      list = q.list;
      scratch = q.scratch;
    }

-- Two patterns are alike, and both have the bytes for either run.
pub record BothThere (w v : Pattern) : Type 0 where
  pub alike : Alike w v
  pub bytes_there : bytes_for w.count ≤ length w.bytes
  pub bytes_there' : bytes_for v.count ≤ length v.bytes
  pub fixed_there : bytes_for w.count ≤ length w.fixed
  pub fixed_there' : bytes_for v.count ≤ length v.fixed
