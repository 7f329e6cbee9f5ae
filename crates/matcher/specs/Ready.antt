-- What a step may rely on: what text and pattern have passed, and what the tables hold.
use Rattle.std.specs.Prelude.{ℕ, ◌^◌, ◌≤◌, ◌<◌, min, ◌≡◌, false, List, eqb, length}
use Rattle.std.specs.Int.Bits.{bit_and}
use Rattle.std.proofs.Props.{props}
use Rattle.bits.specs.Packed.{Packed, bytes_for, bit_of}
use Rattle.rules.specs.declared.Method.{Method}
use Rattle.rules.specs.declared.Method.TheVariants.{Plain, Hash, Skip, Wide, Tail}
use Rattle.rules.specs.Ranges.{every}
use Rattle.rules.specs.Pattern.{Pattern, agrees}
use Rattle.rules.specs.Step.{unfit}
use Rattle.rules.specs.Scratch.{scratch_cells}
use Rattle.matcher.specs.Tables.{Tables}

-- bytes and a bit count as the text
abbrev pub text_of : List ℕ → ℕ → Packed
text_of bytes n = record { bytes = bytes; count = n }

-- bytes, those of the second run and a bit count as the pattern
abbrev pub pattern_of : List ℕ → List ℕ → ℕ → Pattern
pattern_of bytes fixed m = record { bytes = bytes; fixed = fixed; count = m }

-- A word of 64 bits, under the mask, is the head just if its first 57 bits, or as many as the pattern has, agree with the
-- pattern: what one load of eight bytes shows, wherever in its byte a place lies.
abbrev pub HeadOf : Pattern → ℕ → ℕ → Type 0
HeadOf w head mask = (x : ℕ) → eqb (bit_and x mask) head ≡ every (min w.count 57) (λ j. agrees w j (bit_of 64 x j))

-- What a pattern is when it has passed the refusals, and the scratch.
pub record GoodPattern (x : Method) (w : Pattern) : Type 0 where
  pub some_bits : 0 < w.count
  pub few_bits : w.count ≤ 2048
  pub bytes_there : bytes_for w.count ≤ length w.bytes
  pub fixed_there : bytes_for w.count ≤ length w.fixed
  pub fit : unfit x w.count ≡ false

-- What a step may rely on: text and pattern have passed the refusals, the pattern fits into the text, the tables are made.
pub record Ready (x : Method) (t : Packed) (w : Pattern) (cells : List ℕ) : Type 0 where
  pub few_bits : t.count ≤ 2 ^ 30
  pub bytes_there : bytes_for t.count ≤ length t.bytes
  pub pattern : GoodPattern x w
  pub inside : w.count ≤ t.count
  pub tables : Tables x w cells
  pub room : scratch_cells x w.count ≤ length cells

-- These facts have one proof at most, so that a value of the code may carry them.
pub tables_prop : (x : Method) (w : Pattern) (cells : List ℕ) → IsProp (Tables x w cells)
tables_prop Plain w cells = Prim.hlevel props
tables_prop Hash w cells = Prim.hlevel props
tables_prop Skip w cells = Prim.hlevel props
tables_prop Wide w cells = Prim.hlevel props
tables_prop Tail w cells = Prim.hlevel props

pub ready_prop : (x : Method) (t : Packed) (w : Pattern) (cells : List ℕ) → IsProp (Ready x t w cells)
ready_prop x t w cells = let tables = tables_prop x w cells in Prim.hlevel (tables, props)
