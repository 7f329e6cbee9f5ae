-- When a search goes on. A step that a full list cuts is not counted, so a call can stop with full, no step made and the mark
-- where it was: when no cell is free and the pattern stands at the mark. Going on with an empty list would never end.
use Rattle.std.specs.Prelude.{ℕ, ◌<◌, ◌≡◌, List, [], ◌∷◌, length}
use Rattle.search.specs.declared.Answer.{Answer}
use Rattle.rules.specs.Occurrence.{places, Occurs}
use Rattle.rules.specs.Machine.{full}
use Rattle.search.specs.Verdict.{Request, ending_of}
use Rattle.search.specs.Calls.{Call, last_mark, all_steps}

-- What an accepted call does to the mark, where places are left and its budget has a step: it moves the mark, if there is a cell
-- for an occurrence at the mark; with no cell it stays there, makes no step and stops with full.
pub record Progress (q : Request) (a : Answer) : Type 0 where
  pub moves : q.mark < places q.text q.pattern → 0 < q.budget → (Occurs q.text q.pattern q.mark → 0 < length q.list)
      → q.mark < a.mark.at.0
  pub stays : Occurs q.text q.pattern q.mark → 0 < q.budget → length q.list ≡ 0
      → (a.steps ≡ 0) × (a.mark.at.0 ≡ q.mark) × (ending_of a.stop ≡ full q.mark)

-- no call was lent a cell
abbrev pub NoCells : List Call → Type 0
NoCells [] = Unit
NoCells (c ∷ cs) = (length c.asked.list ≡ 0) × NoCells cs

-- the calls from the mark s left it there, and made no step
pub record Stuck (s : ℕ) (calls : List Call) : Type 0 where
  pub mark : last_mark s calls ≡ s
  pub steps : all_steps calls ≡ 0
