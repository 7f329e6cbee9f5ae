-- A set of patterns (document 02, "A set of words in one pass"), and where each of them lies.
use Rattle.std.specs.Prelude.{ℕ, zero, suc, ◌+◌, max, List, length, get_or, drop}
use Rattle.bits.specs.Packed.{Packed, bytes_for}
use Rattle.rules.specs.Pattern.{Pattern}
use Rattle.rules.specs.Occurrence.{places}

-- "1 to 64 words in one run of bytes, .. with a bit count for each, and a second run laid out alike"
pub record PatternSet : Type 0 where
  pub bytes : List ℕ
  pub fixed : List ℕ
  pub counts : List ℕ

-- "each beginning on the byte after the one before": the byte at which pattern i begins, in either run
unfoldable pub start_of : List ℕ → ℕ → ℕ
start_of counts zero = 0
start_of counts (suc i) = start_of counts i + bytes_for (get_or counts i 0)

-- the pattern of m bits that begins at a byte of the two runs
abbrev pub pattern_from : List ℕ → List ℕ → ℕ → ℕ → Pattern
pattern_from bytes fixed start m = record { bytes = drop start bytes; fixed = drop start fixed; count = m }

-- pattern i of the set
abbrev pub pattern_at : PatternSet → ℕ → Pattern
pattern_at ws i = pattern_from ws.bytes ws.fixed (start_of ws.counts i) (get_or ws.counts i 0)

-- the largest of the first k values; of none it is 0
unfoldable pub largest : (ℕ → ℕ) → ℕ → ℕ
largest f zero = 0
largest f (suc k) = max (largest f k) (f k)

-- "E is the largest E of any word"
unfoldable pub set_places : Packed → PatternSet → ℕ
set_places t ws = largest (λ i. places t (pattern_at ws i)) (length ws.counts)
