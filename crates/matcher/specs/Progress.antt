-- What a method and the loop over it promise each other: a part of the machine's run, and one step with its list.
use Rattle.std.specs.Prelude.{ℕ, ◌+◌, ◌-◌, ◌≤◌, ◌≡◌, Bool, true, false, cond, List, ltb, length, get_or, take}
use Rattle.std.proofs.lemmas.List.Edits.{sets}
use Rattle.bits.specs.Packed.{Packed}
use Rattle.rules.specs.declared.Method.{Method}
use Rattle.rules.specs.Pattern.{Pattern}
use Rattle.rules.specs.Occurrence.{places}
use Rattle.rules.specs.Step.{finds, next}
use Rattle.rules.specs.Machine.{full, run, after}

-- k steps from the mark s find these places, each with a cell, and leave the mark at: whatever budget and cells are left
unfoldable pub Reaches : Method → Packed → Pattern → ℕ → ℕ → List ℕ → ℕ → Type 0
Reaches x t w s k found at =
    (b cells : ℕ) → length found ≤ cells → run x t w (k + b) s cells ≡ after k found (run x t w b at (cells - length found))

-- places written to a list one after the other: those found stand in it from cell `had` on, and `hits` cells are written
pub record Writing (before : List ℕ) (had : ℕ) (found list : List ℕ) (hits : ℕ) : Type 0 where
  pub cells : list ≡ sets before had found
  pub count : hits ≡ had + length found
  pub fits : hits ≤ length before

-- One step at s, with the list's cells from `had` on free: the places that found a cell stand there, and the mark is the
-- next one, or the first place without a cell.
pub record Stepped (x : Method) (t : Packed) (w : Pattern) (s : ℕ) (before : List ℕ) (had at hits : ℕ) (full : Bool) (list : List ℕ) : Type 0 where
  pub is_full : full ≡ ltb (length before - had) (length (finds x t w s))
  pub mark : at ≡ cond full (get_or (finds x t w s) (length before - had) 0) (next x t w s)
  pub count : hits ≡ had + length (take (length before - had) (finds x t w s))
  pub cells : list ≡ sets before had (take (length before - had) (finds x t w s))

-- Steps from the mark s, at most so many, with the list's cells from `had` on free: the places found stand there. Either
-- each has a cell, and the machine goes on from the mark that the steps leave; or one step more, which is not counted,
-- found one that has none, and the machine's run ends at it.
pub record Advanced (x : Method) (t : Packed) (w : Pattern) (s budget : ℕ) (before : List ℕ) (had at steps hits : ℕ) (no_cell : Bool) (list : List ℕ) : Type 0 where
  pub found : List ℕ
  pub writing : Writing before had found list hits
  pub within : steps ≤ budget
  pub inside : no_cell ≡ false → at ≤ places t w
  pub goes : no_cell ≡ false → Reaches x t w s steps found at
  pub stops : no_cell ≡ true → run x t w budget s (length before - had) ≡ record { steps = steps; written = found; mark = at; ending = full at }
