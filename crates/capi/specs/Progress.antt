-- When a search from C goes on, in what C sees. Of an accepted call answer cell 0 has the steps, 2 the mark and 3 how it stopped.
use Rattle.std.specs.Prelude.{ℕ, ◌<◌, ◌≡◌, List, [], ◌∷◌, length}
use Rattle.bits.specs.Packed.{Packed}
use Rattle.rules.specs.Pattern.{Pattern}
use Rattle.rules.specs.Occurrence.{places, Occurs}
use Rattle.capi.specs.CallList.{Made, cell, last_mark, all_steps}

-- Where places are left and the budget has a step, the call moves the mark s, if there is a cell for an occurrence at s; with no
-- cell it stays there, makes no step and stops with 1, full.
pub record Progress (t : Packed) (w : Pattern) (s : ℕ) (c : Made) : Type 0 where
  pub moves : s < places t w → 0 < c.asked.budget → (Occurs t w s → 0 < length c.asked.list) → s < cell 2 c
  pub stays : Occurs t w s → 0 < c.asked.budget → length c.asked.list ≡ 0 → (cell 0 c ≡ 0) × (cell 2 c ≡ s) × (cell 3 c ≡ 1)

-- no call was lent a cell
abbrev pub NoCells : List Made → Type 0
NoCells [] = Unit
NoCells (c ∷ cs) = (length c.asked.list ≡ 0) × NoCells cs

-- the calls from the mark s left it there, and made no step
pub record Stuck (s : ℕ) (calls : List Made) : Type 0 where
  pub mark : last_mark s calls ≡ s
  pub steps : all_steps calls ≡ 0
