-- The hash method's table on the way: the moves above a number are entered.
use Rattle.std.specs.Prelude.{ℕ, suc, ◌-◌, ◌<◌, ◌≡◌, List, length, get_or, drop}
use Rattle.rules.specs.Ranges.{least}
use Rattle.rules.specs.Pattern.{Pattern}
use Rattle.rules.specs.Hash.{meets}

-- the cells below `size` hold the least of the k moves from d on that meets the condition for the cell's number
abbrev pub Moves : Pattern → ℕ → ℕ → ℕ → List ℕ → Type 0
Moves w size d k cells = (B : ℕ) → B < size → get_or cells B 0 ≡ least (meets w B) d k

-- the moves d + 1 to m are entered in all 256 cells, and the cells after them are as they were
pub record Entered (w : Pattern) (before cells : List ℕ) (d : ℕ) : Type 0 where
  pub moves : Moves w 256 (suc d) (w.count - d) cells
  pub size : length cells ≡ length before
  pub rest : drop 256 cells ≡ drop 256 before
