-- An accepted call with a step and a cell to use moves the mark or is done; calls with no cell never leave an occurrence.
-- Assumes nothing.
use Rattle.std.specs.Prelude.{Ok, Err}
use Prim.Native.Nat.{ℕ, zero, suc, ◌<◌}
use mathlib.Core.Path.{◌≡◌, refl, ◌∙◌, ap}
use mathlib.Core.Bool.{false}
use mathlib.Core.List.{List, [], ◌∷◌}
use native.Mathlib.Omega.{arith}
use lib.ListN.{length}
use Rattle.bits.specs.Packed.{Packed}
use Rattle.rules.specs.Pattern.{Pattern}
use Rattle.rules.specs.Occurrence.{places, Occurs}
use Rattle.rules.specs.Step.{unfit}
use Rattle.rules.specs.Machine.{full, Run, stopped}
use Rattle.rules.proofs.Machine.{run_spent, moves, stays}
use Rattle.search.specs.declared.Answer.{Answer}
use Rattle.search.specs.Verdict.{Outcome, Request, rows, machine, Searched}
use Rattle.search.specs.Calls.{request_of, Call, mark_of, steps_of, Made, last_mark, all_steps}
use Rattle.search.specs.Progress.{Progress, NoCells, Stuck}
use Rattle.search.proofs.Verdict.{accepted_iff}
use Rattle.search.proofs.Calls.{accepted_left}

module _ (q : Request) (a : Answer) (list scratch : List ℕ) (made : Searched q (Ok a) list scratch) where
  -- the method takes the pattern
  fit : unfit q.method q.pattern.count ≡ false
  unfolding rows
  fit = ((accepted_iff q).0 made.verdict_is).1.1.1.1.1.0

  -- with no cell the machine stays at an occurrence
  stays_here : Occurs q.text q.pattern q.mark → 0 < q.budget → length q.list ≡ 0
      → machine q ≡ record { steps = 0; written = []; mark = q.mark; ending = full q.mark }
  unfolding machine
  stays_here o b e = rw e (stays q.method q.text q.pattern q.mark q.budget fit o b)

  pub progress : Progress q a
  progress =
      let is = made.answer in
      record {
        moves = λ inside b c.
            let far = moves q.text q.pattern q.mark q.budget (length q.list) (machine q) (accepted_left q made.verdict_is) inside b c in
            omega (arith, is.mark);
        stays = λ o b e.
            let stop = stays_here o b e in (
              is.steps ∙ ap (λ (r : Run). r.steps) stop,
              is.mark ∙ ap (λ (r : Run). r.mark) stop,
              is.ending ∙ ap (λ (r : Run). r.ending) stop,
            );
      }

-- a call with no cell, from a mark at which the pattern stands
pub one_stuck : (q : Request) (o : Outcome) (list scratch : List ℕ) → Searched q o list scratch → Occurs q.text q.pattern q.mark → length q.list ≡ 0
    → (mark_of q.mark o ≡ q.mark) × (steps_of o ≡ 0)
unfolding machine stopped
one_stuck q (Err r) list scratch made here none = (refl, refl)
one_stuck q (Ok a) list scratch made here none = go q.budget refl
  where
    idle : q.budget ≡ 0 → machine q ≡ stopped (places q.text q.pattern) q.mark
    idle e = rw e (run_spent q.method q.text q.pattern q.mark (length q.list))

    go : (b : ℕ) → q.budget ≡ b → (a.mark.at.0 ≡ q.mark) × (a.steps ≡ 0)
    go zero e =
        let stop = idle e in
        (made.answer.mark ∙ ap (λ (r : Run). r.mark) stop, made.answer.steps ∙ ap (λ (r : Run). r.steps) stop)
    go (suc b) e =
        let stop = (progress q a list scratch made).stays here (omega arith) none in
        (stop.1, stop.0)

-- Going on with no cell never ends: every list of such calls leaves the mark at the occurrence, and makes no step.
pub stuck : (t : Packed) (w : Pattern) (s : ℕ) → Occurs t w s → (calls : List Call) → Made t w s calls → NoCells calls → Stuck s calls
unfolding last_mark all_steps
stuck t w s here [] made none = record { mark = refl; steps = refl }
stuck t w s here (c ∷ cs) made none =
    let first = one_stuck (request_of t w s c.asked) c.outcome c.list_after c.scratch_after made.0 here none.0 in
    let rest = stuck t w s here cs (rw first.0 at made.1) none.1 in
    record { mark = rw first.0 rest.mark; steps = omega (arith, first.1, rest.steps) }
