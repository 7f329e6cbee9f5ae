-- The tables of a set: which patterns begin with given bits, a flag for each pattern.
use Rattle.std.specs.Prelude.{ℕ, ◌+◌, ◌*◌, ◌/◌, ◌%◌, ◌^◌, ◌<◌, ◌≡◌, Bool, ◌&&◌, cond, List, ltb, length, get_or}
use Rattle.std.specs.Int.Bits.{bit_and}
use Rattle.bits.specs.Packed.{weight, bit_of}
use Rattle.rules.specs.Ranges.{implies, every}
use Rattle.rules.specs.Pattern.{Pattern, agrees}
use Rattle.matcher.specs.Ready.{HeadOf}
use Rattle.set_rules.specs.PatternSet.{PatternSet, start_of, pattern_at}

-- the pattern's bits from bit `from` on agree with the k bits of x, as far as the pattern goes
unfoldable pub begins : Pattern → ℕ → ℕ → ℕ → Bool
begins w from k x = every k (λ j. implies (ltb (from + j) w.count) (agrees w (from + j) (bit_of k x j)))

-- a word whose bit of weight 2^i is the flag of pattern i: 1 where it is one of the first k, and the test passes for it
abbrev pub Flags : PatternSet → ℕ → (Pattern → Bool) → ℕ → Type 0
Flags ws k test word = (i : ℕ) → weight word i ≡ cond (ltb i k && test (pattern_at ws i)) 1 0

-- words for four bits each: cell 16 g + x for the bits x from bit 4 g on, g below 8; the first k patterns are entered
abbrev pub Halves : PatternSet → ℕ → List ℕ → Type 0
Halves ws k cells = (g x : ℕ) → g < 8 → x < 16 → Flags ws k (λ w. begins w (4 * g) 4 x) (get_or cells (16 * g + x) 0)

-- words for eight bits each: cell 256 c + x for the bits x from bit 8 c on, c below 4
abbrev pub Tables : PatternSet → List ℕ → Type 0
Tables ws cells = (c x : ℕ) → c < 4 → x < 256 → Flags ws (length ws.counts) (λ w. begins w (8 * c) 8 x) (get_or cells (256 * c + x) 0)

-- the flags that 32 bits leave standing in all four tables
unfoldable pub front : List ℕ → ℕ → ℕ
front tables v =
    bit_and (bit_and (get_or tables (v / 2 ^ 24) 0) (get_or tables (256 + v / 2 ^ 16 % 256) 0))
    (bit_and (get_or tables (512 + v / 2 ^ 8 % 256) 0) (get_or tables (768 + v % 256) 0))

-- What is kept of each pattern, in three times 64 cells: the byte at which it begins, its head and the head's mask. The first
-- k patterns have theirs.
pub record Kept (ws : PatternSet) (k : ℕ) (rows : List ℕ) : Type 0 where
  pub starts_are : (i : ℕ) → i < k → get_or rows i 0 ≡ start_of ws.counts i
  pub heads_are : (i : ℕ) → i < k → HeadOf (pattern_at ws i) (get_or rows (64 + i) 0) (get_or rows (128 + i) 0)
