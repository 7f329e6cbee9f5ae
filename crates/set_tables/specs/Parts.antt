-- A set that has passed the refusals, and what the functions that make and ask its tables promise.
use Rattle.std.specs.Prelude.{ℕ, ◌+◌, ◌-◌, ◌*◌, ◌/◌, ◌%◌, ◌^◌, ◌≤◌, ◌<◌, ◌≡◌, cond, List, length, get_or}
use Rattle.std.specs.Int.Bits.{bit_and, bit_or}
use Rattle.bits.specs.Packed.{weight}
use Rattle.rules.specs.declared.Method.TheVariants.{Plain}
use Rattle.matcher.specs.Words.{same_where}
use Rattle.matcher.specs.Lined.{Only}
use Rattle.matcher.specs.Ready.{GoodPattern}
use Rattle.set_rules.specs.PatternSet.{PatternSet, pattern_at}
use Rattle.set_tables.specs.declared.Patterns.{Patterns}
use Rattle.set_tables.specs.Fronts.{front}

-- the runs and the counts as the set
abbrev pub set_of : List ℕ → List ℕ → List ℕ → PatternSet
set_of bytes fixed counts = record { bytes = bytes; fixed = fixed; counts = counts }

-- a set as it is lent
abbrev pub lent : Patterns → PatternSet
lent p = set_of p.bytes.now p.fixed.now p.counts.now

-- What a set is when it has passed the refusals. `GoodPattern` names a method; plain takes patterns of every length, so naming it
-- asks nothing more.
pub record GoodSet (ws : PatternSet) : Type 0 where
  pub some : 0 < length ws.counts
  pub few : length ws.counts ≤ 64
  pub each : (i : ℕ) → i < length ws.counts → GoodPattern Plain (pattern_at ws i)

-- a pattern is entered into the words of four bits from bit 4 g on: its flag is set in those that agree with it
pub record HalfEntered (at value care flag : ℕ) (before cells : List ℕ) : Type 0 where
  pub entered : (x : ℕ) → x < 16
      → get_or cells (at + x) 0 ≡ bit_or (get_or before (at + x) 0) (cond (same_where (x * 2 ^ 60 % 2 ^ 64) value care 4) flag 0)
  pub only : Only at (at + 16) before cells

-- and into those of all 32 bits
pub record Entered (value care flag : ℕ) (before cells : List ℕ) : Type 0 where
  pub entered : (g x : ℕ) → g < 8 → x < 16
      → get_or cells (16 * g + x) 0
      ≡ bit_or (get_or before (16 * g + x) 0)
      (cond (same_where (x * 2 ^ 60 % 2 ^ 64) (value * 2 ^ (4 * g) % 2 ^ 64) (care * 2 ^ (4 * g) % 2 ^ 64) 4) flag 0)
  pub size : length cells ≡ length before

-- the words of one value of the first four bits, whose own word is `first`, are made
pub record RowPaired (from at first : ℕ) (halves before cells : List ℕ) : Type 0 where
  pub paired : (x : ℕ) → x < 16 → get_or cells (at + x) 0 ≡ bit_and first (get_or halves (from + x) 0)
  pub only : Only at (at + 16) before cells

-- the words of eight bits are made of those of four
abbrev pub PairedUp : List ℕ → List ℕ → Type 0
PairedUp halves cells = (c x : ℕ) → c < 4 → x < 256
    → get_or cells (256 * c + x) 0 ≡ bit_and (get_or halves (32 * c + x / 16) 0) (get_or halves (32 * c + 16 + x % 16) 0)

-- The flags of the four places at an offset i below 8 in four bytes, by the 57 bits of y: in the cells i, 8 + i, 16 + i and 24 +
-- i of `found`. The answer is 0 only if they all are.
pub record FourFound (tables : List ℕ) (y i : ℕ) (before found : List ℕ) (any : ℕ) : Type 0 where
  pub are : (j : ℕ) → j < 4 → get_or found (8 * j + i) 0 ≡ front tables (y / 2 ^ (32 - 8 * j) % 2 ^ 32)
  pub others : (z : ℕ) → (z % 8 ≡ i → ⊥) → get_or found z 0 ≡ get_or before z 0
  pub size : length found ≡ length before
  pub none : any ≡ 0 → (j : ℕ) → j < 4 → get_or found (8 * j + i) 0 ≡ 0

-- the flags of the 32 places from the first bit of 64 on
pub record Looked (tables : List ℕ) (word : ℕ) (before found : List ℕ) (any : ℕ) : Type 0 where
  pub are : (e : ℕ) → e < 32 → get_or found e 0 ≡ front tables (word / 2 ^ (32 - e) % 2 ^ 32)
  pub size : length found ≡ length before
  pub none : any ≡ 0 → (e : ℕ) → e < 32 → get_or found e 0 ≡ 0

-- a bit for each place with some flag
pub record Marked (found : List ℕ) (marks : ℕ) : Type 0 where
  pub small : marks < 2 ^ 32
  pub unset : (e : ℕ) → e < 32 → weight marks e ≡ 0 → get_or found e 0 ≡ 0
