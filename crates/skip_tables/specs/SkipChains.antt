-- The skip method's tables on the way, the indices below a number being entered; and a walk over the indices that show a byte,
-- along a chain or by the flags of words.
use Rattle.std.specs.Prelude.{ℕ, ◌+◌, ◌-◌, ◌*◌, ◌≤◌, ◌<◌, ◌≡◌, Bool, false, ◌&&◌, cond, List, leb, ltb, length, get_or, drop}
use Rattle.bits.specs.Packed.{bits_at, weight}
use Rattle.rules.specs.Pattern.{Pattern}
use Rattle.matcher.specs.Tables.{last_below, shows_byte, in_chain, chained, ChainTables, WordTables}
use Rattle.std.proofs.Props.{props}

-- the indices below k are entered, and the cells after the chains are as they were
pub record Filled (w : Pattern) (before : List ℕ) (k : ℕ) (cells : List ℕ) : Type 0 where
  pub heads : (B : ℕ) → B < 256 → get_or cells B 0 ≡ last_below (in_chain w B) k
  pub links : (j : ℕ) → j < k → get_or cells (256 + j) 0 ≡ last_below (in_chain w (bits_at w.bytes j 8)) j
  pub size : length cells ≡ length before
  pub rest : drop (255 + w.count) cells ≡ drop (255 + w.count) before

-- one more than the last index below k that shows B, or 0
abbrev pub last_shown : Pattern → ℕ → ℕ → ℕ
last_shown w B k = last_below (shows_byte w B) k

-- a link that, once its index is one of those chained, is one of B's chain
abbrev pub OnChain : Pattern → ℕ → ℕ → Type 0
OnChain w B j = j ≤ chained w.count → last_below (in_chain w B) j ≡ j

-- The index of the move d, m − 8 − d, is one of the pattern's, lies below k, and shows B.
unfoldable pub shown_by : Pattern → ℕ → ℕ → ℕ → Bool
shown_by w B k d = leb (d + 8) w.count && (ltb (w.count - 8 - d) k && shows_byte w B (w.count - 8 - d))

-- the flags of 57 moves from d on: bit e tells whether the index of the move d + e lies below k and shows B
abbrev pub Flags : Pattern → ℕ → ℕ → ℕ → ℕ → Type 0
Flags w B k d left = (e : ℕ) → weight left e ≡ cond (ltb e 57 && shown_by w B k (d + e)) 1 0

-- A walk by words that has the indices below k before it: no index among them that shows B has a move before 57 c, the flags are
-- those of the 57 moves from there on, and the index of a later move lies below k.
pub record Flagging (w : Pattern) (B k c left : ℕ) : Type 0 where
  pub inside : 57 * c + 8 ≤ w.count
  pub near : w.count ≤ k + 57 * c + 64
  pub none : (d : ℕ) → d < 57 * c → shown_by w B k d ≡ false
  pub flags : Flags w B k (57 * c) left

-- after a link the flags are those of the indices below it
abbrev pub FlagsAfter : Pattern → ℕ → ℕ → ℕ → ℕ → Type 0
FlagsAfter w B first c left = 0 < first → Flagging w B (first - 1) c left

-- What a kind of tables holds has one proof at most, so that a value of the code may carry it.
pub chain_tables_prop : (w : Pattern) (cells : List ℕ) → IsProp (ChainTables w cells)
chain_tables_prop w cells = Prim.hlevel props

pub word_tables_prop : (w : Pattern) (cells : List ℕ) → IsProp (WordTables w cells)
word_tables_prop w cells = Prim.hlevel props
