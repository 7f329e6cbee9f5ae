-- Tests over numbers that follow one another: all of them pass, those that pass, the least and the greatest that passes.
use Rattle.std.specs.Prelude.{ℕ, zero, suc, ◌<◌, Bool, true, false, ◌&&◌, cond, List, [], ◌∷◌, length, get_or}
use Rattle.std.proofs.Math.Option.{Option, none, some}

-- where a holds, b holds
abbrev pub implies : Bool → Bool → Bool
implies true b = b
implies false b = true

-- f passes at each number below k
unfoldable pub every : ℕ → (ℕ → Bool) → Bool
every zero f = true
every (suc k) f = every k f && f k

-- the number in front of the list, where the test passed
abbrev pub keep : Bool → ℕ → List ℕ → List ℕ
keep true i l = i ∷ l
keep false i l = l

-- those of the k numbers from i on at which f passes, rising
unfoldable pub among : (ℕ → Bool) → ℕ → ℕ → List ℕ
among f i zero = []
among f i (suc k) = keep (f i) i (among f (suc i) k)

-- the numbers of a list rise strictly
abbrev pub Rising : List ℕ → Type 0
Rising l = (i j : ℕ) → i < j → j < length l → get_or l i 0 < get_or l j 0

-- the least of the k numbers from i on at which f passes; where there is none, the number after them
unfoldable pub least : (ℕ → Bool) → ℕ → ℕ → ℕ
least f i zero = i
least f i (suc k) = let later = least f (suc i) k in cond (f i) i later

-- the greatest number below k at which f passes, if there is one
unfoldable pub greatest : (ℕ → Bool) → ℕ → Option ℕ
greatest f zero = none
greatest f (suc k) = let lower = greatest f k in cond (f k) (some k) lower
