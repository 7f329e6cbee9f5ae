-- The machine of a call for a set: "mark, budget, loop and the three ways to stop are otherwise those of 01's machine".
use Rattle.std.specs.Prelude.{ℕ, zero, suc, ◌+◌, ◌-◌, ◌≤◌, ◌<◌, ◌≡◌, ◌↔◌, cond, List, [], ◌++◌, leb, ltb, length}
use Rattle.bits.specs.Packed.{Packed}
use Rattle.rules.specs.Machine.{Ending, done, spent, full, stopped, cut_steps}
use Rattle.set_rules.specs.PatternSet.{PatternSet, set_places}
use Rattle.set_rules.specs.Hits.{Hit, hits_at, all_hits}

-- what a call comes to: as `Run`, with the hits written as pairs
pub record SetRun : Type 0 where
  pub steps : ℕ
  pub written : List Hit
  pub mark : ℕ
  pub ending : Ending

-- after the loop it stops as the first machine does: with done if the mark is E, else with spent
unfoldable pub halted : ℕ → ℕ → SetRun
halted E s = record { steps = 0; written = []; mark = s; ending = (stopped E s).ending }

-- "If a place's hits don't all fit, none of them is written and the call stops full there. Such a step isn't counted."
unfoldable pub no_room : ℕ → SetRun
no_room s = record { steps = cut_steps; written = []; mark = s; ending = full s }

-- steps made and hits written before a run
unfoldable pub onward : ℕ → List Hit → SetRun → SetRun
onward k found r = record { steps = k + r.steps; written = found ++ r.written; mark = r.mark; ending = r.ending }

-- "While mark < E and fewer steps than the budget are made, the call makes one step", which decides one place for all
-- patterns. Budget, mark and the room for pairs are what is left of them.
unfoldable pub set_run : Packed → PatternSet → ℕ → ℕ → ℕ → SetRun
set_run t ws zero s room = halted (set_places t ws) s
set_run t ws (suc b) s room =
    let rest = set_run t ws b (suc s) (room - length (hits_at t ws s)) in
    let step = cond (leb (length (hits_at t ws s)) room) (onward 1 (hits_at t ws s) rest) (no_room s) in
    cond (ltb s (set_places t ws)) step (halted (set_places t ws) s)

-- What is proved of the machine, from any mark s with any budget and room, in the shape of the first machine's `Left`: it wrote
-- all hits from s to the mark left; it says done just if that mark is E; a spent run made the whole budget; a full one stopped
-- at a place below E whose hits did not fit, with budget left; and each step that is counted moved the mark by one place.
pub record SetLeft (t : Packed) (ws : PatternSet) (s budget room : ℕ) (r : SetRun) : Type 0 where
  pub written_are : r.written ≡ all_hits t ws s r.mark
  pub low : s ≤ r.mark
  pub high : r.mark ≤ set_places t ws
  pub done_iff : (r.ending ≡ done) ↔ (r.mark ≡ set_places t ws)
  pub spent_all : r.ending ≡ spent → r.steps ≡ budget
  pub within : r.steps ≤ budget
  pub fits : length r.written ≤ room
  pub full_at : (p : ℕ) → r.ending ≡ full p → (r.mark ≡ p) × (p < set_places t ws) × (room < length r.written + length (hits_at t ws p))
  pub full_tried : (p : ℕ) → r.ending ≡ full p → r.steps < budget
  pub moved : r.steps + s ≡ r.mark
