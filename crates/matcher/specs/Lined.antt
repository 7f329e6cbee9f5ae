-- Words whose bits stand for moves of the pattern: bit e of a word for a move by d + e, at which the pattern's bit
-- m - 1 - (d + e) lies where its last bit lay. Hash asks for the least move at which the pattern
-- agrees with a value, and skip for the indices that show a byte.
use Rattle.std.specs.Prelude.{ℕ, ◌+◌, ◌-◌, ◌*◌, ◌^◌, ◌≤◌, ◌<◌, ◌≡◌, Bool, ◌&&◌, cond, List, leb, ltb, length, get_or}
use Rattle.bits.specs.Packed.{bit_at, weight}
use Rattle.rules.specs.Ranges.{implies, every}
use Rattle.rules.specs.Pattern.{Pattern, agrees}

-- a word of the 64 bits of a run that end d bits before bit m; where it has no bit, a 0
abbrev pub Ending : List ℕ → ℕ → ℕ → ℕ → Type 0
Ending run m d word = (e : ℕ) → weight word e ≡ cond (ltb e 64 && ltb (d + e) m) (bit_at run (m - 1 - (d + e))) 0

-- The condition on d ("w[m−8−d+j] = B[j] for each j .. with m−8−d+j ≥ 0") asked of the last k bits of B alone: for each i
-- below k the pattern's bit m − 1 − (d + i), where there is one, agrees with the bit of weight 2^i in B.
unfoldable pub meets_last : Pattern → ℕ → ℕ → ℕ → Bool
meets_last w k B d = every k (λ i. implies (ltb (d + i) w.count) (agrees w (w.count - 1 - (d + i)) (weight B i)))

-- Bit e of the word stands for the move d + e: it is 1 where the condition holds there for the last k bits of B, as far as
-- 64 bits of the pattern show it.
abbrev pub Lined : Pattern → ℕ → ℕ → ℕ → ℕ → Type 0
Lined w d k B word = (e : ℕ) → weight word e ≡ cond (leb (e + k) 64 && meets_last w k B (d + e)) 1 0

-- the words of all values of k bits, in the cells from `from` on
abbrev pub Words : Pattern → ℕ → ℕ → ℕ → List ℕ → Type 0
Words w d k from cells = (x : ℕ) → x < 2 ^ k → Lined w d k x (get_or cells (from + x) 0)

-- only cells from `from` on and before `to` may be changed
pub record Only (from to : ℕ) (before cells : List ℕ) : Type 0 where
  pub size : length cells ≡ length before
  pub low : (i : ℕ) → i < from → get_or cells i 0 ≡ get_or before i 0
  pub high : (i : ℕ) → to ≤ i → get_or cells i 0 ≡ get_or before i 0

-- from the words of k bits those of 2 k are made
pub record Paired (k from to : ℕ) (before cells : List ℕ) : Type 0 where
  pub words : (w : Pattern) (d : ℕ) → Words w d k from before → Words w d (k + k) to cells
  pub only : Only to (to + 2 ^ k * 2 ^ k) before cells
