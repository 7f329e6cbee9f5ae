-- What the functions promise each other: what they found in the input, and what they stored.
use Rattle.std.specs.Prelude.{ℕ, ◌+◌, ◌≤◌, ◌≡◌, List, ◌++◌, map, length, take, None, Some}
use Rattle.std.specs.declared.option.Option.{Option}
use Rattle.lines.specs.Input.{bit_of, Parsed, bad, lines}
use Rattle.lines.specs.declared.parse.Lines.{Lines}

-- what the code found in the input: the two lines
abbrev pub input_in : Option Lines → Parsed
input_in (Some l) = lines (map bit_of l.pattern.now) (map bit_of l.text.now)
input_in None = bad

-- the lengths of good lines
abbrev pub Sized : List ℕ → Option Lines → Type 0
Sized s (Some l) = (1 ≤ length l.pattern.now) × ((length l.pattern.now ≤ 2048) × ((length l.text.now ≤ 4096) × (length l.pattern.now + length l.text.now + 2 ≡ length s)))
Sized s None = Unit

-- Bytes stored into a buffer from an index on: the index after them, and the buffer up to there.
pub record Puts (before : List ℕ) (at : ℕ) (bytes : List ℕ) (r : ℕ) (after : List ℕ) : Type 0 where
  pub next : r ≡ at + length bytes
  pub front : take r after ≡ take at before ++ bytes
