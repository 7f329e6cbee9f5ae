-- The machine of a search call: steps from a mark, until the places, the budget or the free cells end ("The call and the mark").
use Rattle.std.specs.Prelude.{ℕ, zero, suc, ◌+◌, ◌-◌, ◌≤◌, ◌<◌, ◌≡◌, ◌↔◌, cond, List, [], ◌++◌, leb, ltb, eqb, length, get_or, take}
use Rattle.bits.specs.Packed.{Packed}
use Rattle.rules.specs.declared.Method.{Method}
use Rattle.rules.specs.Pattern.{Pattern}
use Rattle.rules.specs.Occurrence.{places, Occurs, occurrences}
use Rattle.rules.specs.Step.{finds, next}

-- how a call stops; `full p` is "full" at the occurrence p
pub data Ending : Type 0 where
  done spent : Ending
  full : ℕ → Ending

-- what a call comes to: the steps made, the places written, the mark left and how it stopped
pub record Run : Type 0 where
  pub steps : ℕ
  pub written : List ℕ
  pub mark : ℕ
  pub ending : Ending

-- "After the loop it stops with done if mark = E, else with spent."
unfoldable pub stopped : ℕ → ℕ → Run
stopped E s = record { steps = 0; written = []; mark = s; ending = cond (eqb s E) done spent }

-- how much a step counts that a full list cuts: "the cut step isn't counted, and the next call's step from that hit
-- counts as usual" (document 02, which changes document 01's "the step is counted")
abbrev pub cut_steps : ℕ
cut_steps = 0

-- "If a hit finds no free cell, the mark becomes that hit .. and the call stops with full": of the places found, the
-- first take the free cells, and the one after them is that occurrence
unfoldable pub cut : ℕ → List ℕ → Run
cut cells found =
    record { steps = cut_steps; written = take cells found; mark = get_or found cells 0; ending = full (get_or found cells 0) }

-- steps made and places written before a run
unfoldable pub after : ℕ → List ℕ → Run → Run
after k found r = record { steps = k + r.steps; written = found ++ r.written; mark = r.mark; ending = r.ending }

-- "While mark < E and fewer steps than the budget are made, the call makes one step", which "writes each hit to the next
-- free cell"; "otherwise the mark becomes the next mark". Budget, mark and free cells are what is left of them.
unfoldable pub run : Method → Packed → Pattern → ℕ → ℕ → ℕ → Run
run x t w zero s cells = stopped (places t w) s
run x t w (suc b) s cells =
    let rest = run x t w b (next x t w s) (cells - length (finds x t w s)) in
    let whole = after 1 (finds x t w s) rest in
    let step = cond (leb (length (finds x t w s)) cells) whole (cut cells (finds x t w s)) in
    cond (ltb s (places t w)) step (stopped (places t w) s)

-- What is proved of the machine, from any mark s with any budget and free cells: it wrote all occurrences from s to the
-- mark left; it says done just if that mark is E; a spent run made the whole budget; a full one stopped at an occurrence,
-- with every cell written and budget left ("while .. fewer steps than the budget are made" holds of the step that was cut
-- too); and each step that is counted moved the mark.
pub record Left (t : Packed) (w : Pattern) (s budget cells : ℕ) (r : Run) : Type 0 where
  pub written_are : r.written ≡ occurrences t w s r.mark
  pub low : s ≤ r.mark
  pub high : r.mark ≤ places t w
  pub done_iff : (r.ending ≡ done) ↔ (r.mark ≡ places t w)
  pub spent_all : r.ending ≡ spent → r.steps ≡ budget
  pub within : r.steps ≤ budget
  pub fits : length r.written ≤ cells
  pub full_at : (p : ℕ) → r.ending ≡ full p → (r.mark ≡ p) × Occurs t w p × (length r.written ≡ cells)
  pub full_tried : (p : ℕ) → r.ending ≡ full p → r.steps < budget
  pub bounded : r.steps + s ≤ r.mark
