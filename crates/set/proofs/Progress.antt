-- An accepted call with a step to make and room for the hits at the mark moves it; without that room it stays.
-- Assumes nothing.
use Rattle.std.specs.Prelude.{Ok}
use Prim.Native.Nat.{ℕ, zero, suc, ◌≤◌, ◌<◌}
use mathlib.Core.Path.{◌≡◌, refl, sym, ap, ◌∙◌}
use mathlib.Core.Logic.{◌⊎◌, inl, inr}
use mathlib.Core.List.{List}
use native.Mathlib.Omega.{arith}
use lib.ListN.{length}
use Rattle.rules.specs.Machine.{Ending, done, spent, full}
use Rattle.rules.specs.Occurrence.{occurs}
use Rattle.rules.proofs.Ranges.{eq_or_below, among_length}
use Rattle.set.specs.declared.Answer.{Answer}
use Rattle.set_rules.specs.PatternSet.{pattern_at, set_places}
use Rattle.set_rules.specs.Hits.{standing, hits_at}
use Rattle.set_rules.specs.SetMachine.{SetRun, no_room}
use Rattle.set_rules.specs.Verdict.{Request, room_in, machine}
use Rattle.set.specs.Promise.{Searched}
use Rattle.set.specs.Progress.{Progress}
use Rattle.set_rules.proofs.Hits.{all_none, length_at}
use Rattle.set_rules.proofs.SetMachine.{run_full}
use Rattle.set.proofs.Calls.{accepted_left}

-- at most one hit for each pattern
hits_few : (q : Request) → length (hits_at q.text q.patterns q.mark) ≤ length q.patterns.counts
unfolding standing
hits_few q = omega (arith, length_at q.text q.patterns q.mark, among_length (λ i. occurs q.text (pattern_at q.patterns i) q.mark) 0 (length q.patterns.counts))

module _ (q : Request) (a : Answer) (list : List ℕ) (made : Searched q (Ok a) list) where
  moves : q.mark < set_places q.text q.patterns → 0 < q.budget → length (hits_at q.text q.patterns q.mark) ≤ room_in q.list
      → q.mark < (machine q).mark
  moves inside some room = go (machine q).ending refl
    where
      at_full : (p : ℕ) → (machine q).ending ≡ full p → (q.mark ≡ (machine q).mark) ⊎ (q.mark < (machine q).mark) → q.mark < (machine q).mark
      at_full p e (inr h) = h
      at_full p e (inl h) =
          let l = accepted_left q made.verdict_is in
          let f = l.full_at p e in
          let same : p ≡ q.mark = sym f.0 ∙ sym h in
          let none : length (machine q).written ≡ 0 =
          ap length (rw (← h) at l.written_are) ∙ ap length (all_none q.text q.patterns q.mark) in
          absurd (omega (arith, rw same at f.2))

      go : (e : Ending) → (machine q).ending ≡ e → q.mark < (machine q).mark
      go done e = let l = accepted_left q made.verdict_is in omega (arith, l.done_iff.0 e)
      go spent e = let l = accepted_left q made.verdict_is in omega (arith, l.spent_all e, l.moved)
      go (full p) e = at_full p e (eq_or_below (accepted_left q made.verdict_is).low)

  stuck : (b : ℕ) → q.budget ≡ b → q.mark < set_places q.text q.patterns → 0 < b
      → room_in q.list < length (hits_at q.text q.patterns q.mark) → machine q ≡ no_room q.mark
  unfolding machine
  stuck zero e inside some room = absurd (omega arith)
  stuck (suc b) e inside some room = rw e (run_full q.text q.patterns q.mark (room_in q.list) b inside room)

  pub progress : Progress q a
  unfolding no_room
  progress =
      let is = made.answer in
      record {
        moves = λ inside some room. omega (arith, is.mark, moves inside some room);
        stays = λ inside some room.
            let stop = stuck q.budget refl inside some room in (
              is.steps ∙ ap (λ (r : SetRun). r.steps) stop,
              is.mark ∙ ap (λ (r : SetRun). r.mark) stop,
              is.ending ∙ ap (λ (r : SetRun). r.ending) stop,
            );
        enough = λ h. omega (arith, hits_few q);
      }
