-- What the machine of a set leaves from any mark with any budget and room, and what it comes to where the hits up to a mark
-- are known.
-- Assumes nothing.
use Prim.Native.Nat.{ℕ, zero, suc, ◌+◌, ◌-◌, ◌≤◌, ◌<◌, min}
use mathlib.Core.Path.{◌≡◌, refl, sym, ap, ap₂, ◌∙◌}
use mathlib.Core.Logic.{◌⊎◌, inl, inr}
use mathlib.Core.Bool.{Bool, true, false, cond}
use mathlib.Core.List.{List, [], ◌++◌, append_assoc}
use native.Mathlib.Nat.{add-zero, zero-add, suc-add, add_assoc, sub-zero}
use native.Mathlib.Decide.{dec_le}
use native.Mathlib.Omega.{arith}
use lib.Dec.{eqb}
use lib.ListN.{length, length-append}
use borrow.Author.Tests.{eqb-true, eqb-false, lt-ltb, le-ltb, le-leb, lt-leb}
use Rattle.bits.specs.Packed.{Packed}
use Rattle.rules.specs.Machine.{done, spent, stopped}
use Rattle.rules.proofs.Ranges.{eq_or_below}
use Rattle.rules.proofs.Machine.{done_not_spent, done_not_full, spent_not_full}
use Rattle.set_rules.specs.PatternSet.{PatternSet, set_places}
use Rattle.set_rules.specs.Hits.{Hit, hits_at, all_hits}
use Rattle.set_rules.specs.SetMachine.{SetRun, halted, no_room, onward, set_run, SetLeft}
use Rattle.set_rules.proofs.Hits.{all_append, all_none, all_one}

module _ (t : Packed) (ws : PatternSet) (s room : ℕ) where
  -- the loop, turn by turn

  pub run_spent : set_run t ws 0 s room ≡ halted (set_places t ws) s
  unfolding set_run
  run_spent = refl

  pub run_ended : (b : ℕ) → set_places t ws ≤ s → set_run t ws b s room ≡ halted (set_places t ws) s
  unfolding set_run
  run_ended zero h = refl
  run_ended (suc b) h = rw (le-ltb _ _ h)

  pub run_step : (b : ℕ) → s < set_places t ws → length (hits_at t ws s) ≤ room
      → set_run t ws (suc b) s room ≡ onward 1 (hits_at t ws s) (set_run t ws b (suc s) (room - length (hits_at t ws s)))
  unfolding set_run
  run_step b h l = rw (lt-ltb _ _ h, le-leb _ _ l)

  pub run_full : (b : ℕ) → s < set_places t ws → room < length (hits_at t ws s) → set_run t ws (suc b) s room ≡ no_room s
  unfolding set_run
  run_full b h l = rw (lt-ltb _ _ h, lt-leb _ _ l)

-- what each turn leaves

module _ (t : Packed) (ws : PatternSet) (s : ℕ) where
  halted_left : (b room : ℕ) → s ≤ set_places t ws → (s < set_places t ws → b ≡ 0) → SetLeft t ws s b room (halted (set_places t ws) s)
  unfolding halted stopped
  halted_left b room h none = go (eqb s (set_places t ws)) refl
    where
      go : (e : Bool) → eqb s (set_places t ws) ≡ e → SetLeft t ws s b room (record { steps = 0; written = []; mark = s; ending = cond e done spent })
      go true e =
          record {
            written_are = sym (all_none t ws s);
            low = omega arith;
            high = h;
            done_iff = (λ q. eqb-true _ _ e, λ q. refl);
            spent_all = λ q. absurd (done_not_spent done refl q);
            within = omega arith;
            fits = omega arith;
            full_at = λ p q. absurd (done_not_full done p refl q);
            full_tried = λ p q. absurd (done_not_full done p refl q);
            moved = omega arith;
          }
      go false e =
          let ne = eqb-false _ _ e in
          record {
            written_are = sym (all_none t ws s);
            low = omega arith;
            high = h;
            done_iff = (λ q. absurd (done_not_spent spent q refl), λ q. absurd (ne q));
            spent_all = λ q. sym (none (omega arith));
            within = omega arith;
            fits = omega arith;
            full_at = λ p q. absurd (spent_not_full spent p refl q);
            full_tried = λ p q. absurd (spent_not_full spent p refl q);
            moved = omega arith;
          }

  -- a step whose hits all found room
  onward_left : (b room : ℕ) (r : SetRun) → length (hits_at t ws s) ≤ room → SetLeft t ws (suc s) b (room - length (hits_at t ws s)) r
      → SetLeft t ws s (suc b) room (onward 1 (hits_at t ws s) r)
  unfolding onward
  onward_left b room r l rest =
      let size = length-append (hits_at t ws s) r.written in
      record {
        written_are =
            ap₂ (λ (u v : List Hit). u ++ v) (sym (all_one t ws s)) rest.written_are
            ∙ sym (all_append t ws s (suc s) r.mark (omega arith) rest.low);
        low = omega (arith, rest.low);
        high = rest.high;
        done_iff = rest.done_iff;
        spent_all = λ q. omega (arith, rest.spent_all q);
        within = omega (arith, rest.within);
        fits = omega (arith, rest.fits);
        full_at = λ p q. let f = rest.full_at p q in (f.0, f.1, omega (arith, f.2));
        full_tried = λ p q. omega (arith, rest.full_tried p q);
        moved = omega (arith, rest.moved);
      }

  -- a step whose hits did not
  full_left : (b room : ℕ) → s < set_places t ws → room < length (hits_at t ws s) → SetLeft t ws s (suc b) room (no_room s)
  unfolding no_room
  full_left b room h l =
      record {
        written_are = sym (all_none t ws s);
        low = omega arith;
        high = omega arith;
        done_iff = (λ q. absurd (done_not_full _ _ q refl), λ q. absurd (omega arith));
        spent_all = λ q. absurd (spent_not_full _ _ q refl);
        within = omega arith;
        fits = omega arith;
        full_at = λ p q. let same : s ≡ p = cc in (same, rw (← same) h, rw (← same) (omega arith));
        full_tried = λ p q. omega arith;
        moved = omega arith;
      }

-- the machine, from any mark with any budget and room
pub left : (t : Packed) (ws : PatternSet) (b s room : ℕ) → s ≤ set_places t ws → SetLeft t ws s b room (set_run t ws b s room)
left t ws zero s room h = rw (run_spent t ws s room) (halted_left t ws s 0 room h (λ _. refl))
left t ws (suc b) s room h = go (λ i. left t ws b (suc s) (room - length (hits_at t ws s)) i) (eq_or_below h)
  where
    rest : SetRun
    rest = set_run t ws b (suc s) (room - length (hits_at t ws s))

    step : s < set_places t ws → SetLeft t ws (suc s) b (room - length (hits_at t ws s)) rest → Dec (length (hits_at t ws s) ≤ room)
        → SetLeft t ws s (suc b) room (set_run t ws (suc b) s room)
    step inside ih (yes l) = rw (run_step t ws s room b inside l) (onward_left t ws s b room rest l ih)
    step inside ih (no n) = rw (run_full t ws s room b inside (omega arith)) (full_left t ws s b room inside (omega arith))

    go : (suc s ≤ set_places t ws → SetLeft t ws (suc s) b (room - length (hits_at t ws s)) rest) → (s ≡ set_places t ws) ⊎ (s < set_places t ws)
        → SetLeft t ws s (suc b) room (set_run t ws (suc b) s room)
    go ih (inl e) = rw (run_ended t ws s room (suc b) (omega arith)) (halted_left t ws s (suc b) room h (λ l. absurd (omega arith)))
    go ih (inr inside) = step inside (ih inside) (dec_le _ _)

-- what the machine comes to

onward_onward : (j k : ℕ) (a b : List Hit) (r : SetRun) → onward j a (onward k b r) ≡ onward (j + k) (a ++ b) r
unfolding onward
onward_onward j k a b r = simp (add_assoc, append_assoc)

onward_nothing : (r : SetRun) → onward 0 [] r ≡ r
unfolding onward
onward_nothing r = rw (zero-add r.steps)

-- k steps, all of whose hits found room, and then the rest of the run
run_on : (t : Packed) (ws : PatternSet) (k b s room : ℕ) → s + k ≤ set_places t ws → length (all_hits t ws s (s + k)) ≤ room
    → set_run t ws (k + b) s room ≡ onward k (all_hits t ws s (s + k)) (set_run t ws b (s + k) (room - length (all_hits t ws s (s + k))))
run_on t ws zero b s room h l =
    rw (zero-add b, add-zero s, all_none t ws s)
    (sym (onward_nothing (set_run t ws b s (room - 0)) ∙ ap (set_run t ws b s) (sub-zero room)))
run_on t ws (suc k) b s room h l =
    let there : suc s + k ≡ s + suc k = omega arith in
    let split : all_hits t ws s (s + suc k) ≡ hits_at t ws s ++ all_hits t ws (suc s) (s + suc k) =
    all_append t ws s (suc s) (s + suc k) (omega arith) (omega arith) ∙ ap (λ (a : List Hit). a ++ all_hits t ws (suc s) (s + suc k)) (all_one t ws s) in
    let size : length (all_hits t ws s (s + suc k)) ≡ length (hits_at t ws s) + length (all_hits t ws (suc s) (s + suc k)) =
    ap length split ∙ length-append (hits_at t ws s) (all_hits t ws (suc s) (s + suc k)) in
    let left : room - length (hits_at t ws s) - length (all_hits t ws (suc s) (s + suc k)) ≡ room - length (all_hits t ws s (s + suc k)) = omega arith in
    let one : 1 + k ≡ suc k = omega arith in
    let rest = rw there at (run_on t ws k b (suc s) (room - length (hits_at t ws s)) (omega arith) (rw there (omega arith))) in
    rw (suc-add k b)
    (run_step t ws s room (k + b) (omega arith) (omega arith)
    ∙ ap (onward 1 (hits_at t ws s)) rest
    ∙ onward_onward 1 k (hits_at t ws s) (all_hits t ws (suc s) (s + suc k)) _
    ∙ (λ i. onward (one i) (sym split i) (set_run t ws b (s + suc k) (left i))))

module _ (t : Packed) (ws : PatternSet) (b s room : ℕ) where
  -- all hits before the budget's end, and E, find room
  pub run_to_limit : (e : ℕ) → s ≤ set_places t ws → e ≡ min (s + b) (set_places t ws) → length (all_hits t ws s e) ≤ room
      → set_run t ws b s room ≡ onward (e - s) (all_hits t ws s e) (halted (set_places t ws) e)
  run_to_limit e h is l =
      let there : s + (e - s) ≡ e = omega arith in
      let budget : (e - s) + (b - (e - s)) ≡ b = omega arith in
      let run = rw (there, budget) at (run_on t ws (e - s) (b - (e - s)) s room (omega arith) (rw there l)) in
      run ∙ ap (onward (e - s) (all_hits t ws s e)) (rest (dec_le (set_places t ws) e))
    where
      rest : Dec (set_places t ws ≤ e) → set_run t ws (b - (e - s)) e (room - length (all_hits t ws s e)) ≡ halted (set_places t ws) e
      rest (yes u) = run_ended t ws e (room - length (all_hits t ws s e)) (b - (e - s)) u
      rest (no u) =
          let none : b - (e - s) ≡ 0 = omega arith in
          rw none (run_spent t ws e (room - length (all_hits t ws s e)))

  -- those before p do, and those at p do not
  pub run_to_full : (p : ℕ) → s ≤ p → p < min (s + b) (set_places t ws) → length (all_hits t ws s p) ≤ room
      → room - length (all_hits t ws s p) < length (hits_at t ws p)
      → set_run t ws b s room ≡ onward (p - s) (all_hits t ws s p) (no_room p)
  run_to_full p h u l f =
      let there : s + (p - s) ≡ p = omega arith in
      let budget : (p - s) + suc (b - suc (p - s)) ≡ b = omega arith in
      let run = rw (there, budget) at (run_on t ws (p - s) (suc (b - suc (p - s))) s room (omega arith) (rw there l)) in
      run ∙ ap (onward (p - s) (all_hits t ws s p)) (run_full t ws p (room - length (all_hits t ws s p)) (b - suc (p - s)) (omega arith) f)
