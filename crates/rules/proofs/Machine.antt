-- What the machine leaves from any mark with any budget and free cells.
use Prim.Native.Nat.{ℕ, zero, suc, ◌+◌, ◌-◌, ◌≤◌, ◌<◌}
use mathlib.Core.Path.{◌≡◌, refl, sym, ap, ap₂, ◌∙◌}
use mathlib.Core.Logic.{◌⊎◌, inl, inr}
use mathlib.Core.Bool.{Bool, true, false, cond}
use mathlib.Core.List.{List, [], ◌∷◌, ◌++◌, append_assoc}
use native.Mathlib.Nat.{zero-add, add_assoc}
use native.Mathlib.Decide.{dec_le}
use native.Mathlib.Omega.{arith}
use lib.Dec.{eqb}
use lib.ListN.{length, get_or, length-append}
use lib.Seq.{length-take-le}
use borrow.Author.Tests.{eqb-true, eqb-false, lt-ltb, le-ltb, le-leb, lt-leb}
use Rattle.bits.specs.Packed.{Packed}
use Rattle.rules.specs.declared.Method.{Method}
use Rattle.rules.specs.Ranges.{among}
use Rattle.rules.specs.Pattern.{Pattern}
use Rattle.rules.specs.Occurrence.{places, Occurs, occurs, occurrences}
use Rattle.rules.specs.Step.{unfit, finds, next}
use Rattle.rules.specs.Machine.{Ending, done, spent, full, Run, stopped, cut, after, run, Left}
use Rattle.rules.proofs.Ranges.{eq_or_below, among_cut}
use Rattle.rules.proofs.Occurrence.{occurs_iff, occurrences_append, occurrences_none, occurrences_one, occurrences_length}
use Rattle.rules.proofs.Step.{next_le}
use Rattle.rules.proofs.Methods.{sound}

-- endings are told apart
pub done_not_spent : (e : Ending) → e ≡ done → e ≡ spent → ⊥
done_not_spent e p q = let z : ◌≡◌ {A = ℕ} 0 1 = cc in omega arith

pub done_not_full : (e : Ending) (n : ℕ) → e ≡ done → e ≡ full n → ⊥
done_not_full e n p q = let z : ◌≡◌ {A = ℕ} 0 1 = cc in omega arith

pub spent_not_full : (e : Ending) (n : ℕ) → e ≡ spent → e ≡ full n → ⊥
spent_not_full e n p q = let z : ◌≡◌ {A = ℕ} 0 1 = cc in omega arith

-- what was before a run, in two parts: a loop carries the first part along
pub after_after : (j k : ℕ) (a b : List ℕ) (r : Run) → after j a (after k b r) ≡ after (j + k) (a ++ b) r
unfolding after
after_after j k a b r = simp (add_assoc, append_assoc)

pub after_nothing : (r : Run) → after 0 [] r ≡ r
unfolding after
after_nothing r = rw (zero-add r.steps)

-- the loop, turn by turn

module _ (x : Method) (t : Packed) (w : Pattern) (s cells : ℕ) where
  pub run_spent : run x t w 0 s cells ≡ stopped (places t w) s
  unfolding run
  run_spent = refl

  pub run_ended : (b : ℕ) → places t w ≤ s → run x t w b s cells ≡ stopped (places t w) s
  unfolding run
  run_ended zero h = refl
  run_ended (suc b) h = rw (le-ltb _ _ h)

  pub run_step : (b : ℕ) → s < places t w → length (finds x t w s) ≤ cells
      → run x t w (suc b) s cells ≡ after 1 (finds x t w s) (run x t w b (next x t w s) (cells - length (finds x t w s)))
  unfolding run
  run_step b h l = rw (lt-ltb _ _ h, le-leb _ _ l)

  pub run_cut : (b : ℕ) → s < places t w → cells < length (finds x t w s) → run x t w (suc b) s cells ≡ cut cells (finds x t w s)
  unfolding run
  run_cut b h l = rw (lt-ltb _ _ h, lt-leb _ _ l)

  -- "the cut step isn't counted"
  pub cut_uncounted : (b : ℕ) → s < places t w → cells < length (finds x t w s) → (run x t w (suc b) s cells).steps ≡ 0
  unfolding cut
  cut_uncounted b h l = ap (λ (r : Run). r.steps) (run_cut b h l)

  -- "and the next call's step from that hit counts as usual": a step from any mark whose places have cells counts 1
  pub step_counted : (b : ℕ) → s < places t w → length (finds x t w s) ≤ cells
      → (run x t w (suc b) s cells).steps ≡ 1 + (run x t w b (next x t w s) (cells - length (finds x t w s))).steps
  unfolding after
  step_counted b h l = ap (λ (r : Run). r.steps) (run_step b h l)

-- what each turn leaves

module _ (t : Packed) (w : Pattern) (s : ℕ) where
  stopped_left : (b cells : ℕ) → s ≤ places t w → (s < places t w → b ≡ 0) → Left t w s b cells (stopped (places t w) s)
  unfolding stopped
  stopped_left b cells h none = go (eqb s (places t w)) refl
    where
      nothing : [] ≡ occurrences t w s s
      nothing = sym (occurrences_none t w s s (λ p l u. absurd (omega arith)))

      go : (e : Bool) → eqb s (places t w) ≡ e → Left t w s b cells (record { steps = 0; written = []; mark = s; ending = cond e done spent })
      go true e =
          record {
            written_are = nothing;
            low = omega arith;
            high = h;
            done_iff = (λ q. eqb-true _ _ e, λ q. refl);
            spent_all = λ q. absurd (done_not_spent done refl q);
            within = omega arith;
            fits = omega arith;
            full_at = λ p q. absurd (done_not_full done p refl q);
            full_tried = λ p q. absurd (done_not_full done p refl q);
            bounded = omega arith;
          }
      go false e =
          let ne = eqb-false _ _ e in
          record {
            written_are = nothing;
            low = omega arith;
            high = h;
            done_iff = (λ q. absurd (done_not_spent spent q refl), λ q. absurd (ne q));
            spent_all = λ q. sym (none (omega arith));
            within = omega arith;
            fits = omega arith;
            full_at = λ p q. absurd (spent_not_full spent p refl q);
            full_tried = λ p q. absurd (spent_not_full spent p refl q);
            bounded = omega arith;
          }

  -- a step whose places all found a cell
  after_left : (b cells n : ℕ) (found : List ℕ) (r : Run) → s < n → found ≡ occurrences t w s n → length found ≤ cells
      → Left t w n b (cells - length found) r → Left t w s (suc b) cells (after 1 found r)
  unfolding after
  after_left b cells n found r up all l rest =
      let size = length-append found r.written in
      record {
        written_are = ap₂ (λ (u v : List ℕ). u ++ v) all rest.written_are ∙ sym (occurrences_append t w s n r.mark (omega arith) rest.low);
        low = omega (arith, rest.low);
        high = rest.high;
        done_iff = rest.done_iff;
        spent_all = λ q. omega (arith, rest.spent_all q);
        within = omega (arith, rest.within);
        fits = omega (arith, rest.fits);
        full_at = λ p q. let f = rest.full_at p q in (f.0, f.1, omega (arith, f.2));
        full_tried = λ p q. omega (arith, rest.full_tried p q);
        bounded = omega (arith, rest.bounded);
      }

  -- a step that a full list cuts, after k places
  cut_left : (b cells k : ℕ) → s + k ≤ places t w → cells < length (among (occurs t w) s k)
      → Left t w s (suc b) cells (cut cells (among (occurs t w) s k))
  unfolding cut occurrences
  cut_left b cells k top l =
      let c = among_cut (occurs t w) s k cells l in
      let size = length-take-le cells (among (occurs t w) s k) (omega arith) in
      record {
        written_are = c.front;
        low = c.kept.low;
        high = omega (arith, c.kept.high);
        done_iff = (λ q. absurd (done_not_full _ _ q refl), λ q. absurd (omega (arith, c.kept.high)));
        spent_all = λ q. absurd (spent_not_full _ _ q refl);
        within = omega arith;
        fits = omega arith;
        full_at = λ p q.
            let same : get_or (among (occurs t w) s k) cells 0 ≡ p = cc in
            (same, rw same at ((occurs_iff t w _).0 c.kept.passes), size);
        full_tried = λ p q. omega arith;
        bounded = omega (arith, c.kept.low);
      }

  cut_found : (b cells n : ℕ) (found : List ℕ) → n ≤ places t w → s < n → found ≡ occurrences t w s n → cells < length found
      → Left t w s (suc b) cells (cut cells found)
  unfolding occurrences
  cut_found b cells n found top up all l = rw all (cut_left b cells (n - s) (omega arith) (rw all at l))

-- the machine, from any mark with any budget and cells
pub left : (x : Method) (t : Packed) (w : Pattern) → unfit x w.count ≡ false → (b s cells : ℕ) → s ≤ places t w
    → Left t w s b cells (run x t w b s cells)
left x t w fit zero s cells h = rw (run_spent x t w s cells) (stopped_left t w s 0 cells h (λ _. refl))
left x t w fit (suc b) s cells h =
    go (left x t w fit b (next x t w s) (cells - length (finds x t w s)) (next_le x t w s)) (eq_or_below h)
  where
    rest : Run
    rest = run x t w b (next x t w s) (cells - length (finds x t w s))

    step : s < places t w → Left t w (next x t w s) b (cells - length (finds x t w s)) rest → Dec (length (finds x t w s) ≤ cells)
        → Left t w s (suc b) cells (run x t w (suc b) s cells)
    step inside ih (yes l) =
        let r = sound x t w s fit inside in
        rw (run_step x t w s cells b inside l) (after_left t w s b cells (next x t w s) (finds x t w s) rest r.up r.all l ih)
    step inside ih (no n) =
        let r = sound x t w s fit inside in
        rw (run_cut x t w s cells b inside (omega arith))
        (cut_found t w s b cells (next x t w s) (finds x t w s) (next_le x t w s) r.up r.all (omega arith))

    go : Left t w (next x t w s) b (cells - length (finds x t w s)) rest → (s ≡ places t w) ⊎ (s < places t w)
        → Left t w s (suc b) cells (run x t w (suc b) s cells)
    go ih (inl e) = rw (run_ended x t w s cells (suc b) (omega arith)) (stopped_left t w s (suc b) cells h (λ l. absurd (omega arith)))
    go ih (inr inside) = step inside ih (dec_le _ _)

-- when the mark moves

-- where places are left and there is a step to make, it does, if there is a cell for an occurrence at the mark
pub moves : (t : Packed) (w : Pattern) (s b cells : ℕ) (r : Run) → Left t w s b cells r → s < places t w → 0 < b → (Occurs t w s → 0 < cells) → s < r.mark
moves t w s b cells r l inside some_steps some_cells = go r.ending refl
  where
    at_hit : (p : ℕ) → r.ending ≡ full p → (s ≡ r.mark) ⊎ (s < r.mark) → s < r.mark
    at_hit p e (inr h) = h
    at_hit p e (inl h) =
        let f = l.full_at p e in
        let same : p ≡ s = sym f.0 ∙ sym h in
        let cell = some_cells (rw same at f.1) in
        absurd (omega (arith, f.2, ap length l.written_are, occurrences_length t w s r.mark))

    go : (e : Ending) → r.ending ≡ e → s < r.mark
    go done e = omega (arith, l.done_iff.0 e)
    go spent e = omega (arith, l.spent_all e, l.bounded)
    go (full p) e = at_hit p e (eq_or_below l.low)

-- with no cell it stays at an occurrence, and no step is made
pub stays : (x : Method) (t : Packed) (w : Pattern) (s b : ℕ) → unfit x w.count ≡ false → Occurs t w s → 0 < b
    → run x t w b s 0 ≡ record { steps = 0; written = []; mark = s; ending = full s }
unfolding cut
stays x t w s zero fit o some_steps = absurd (omega arith)
stays x t w s (suc b) fit o some_steps = cut_here
  where
    first : finds x t w s ≡ s ∷ occurrences t w (s + 1) (next x t w s)
    first =
        let r = sound x t w s fit o.inside in
        let here : occurrences t w s (s + 1) ≡ s ∷ [] = rw (occurrences_one t w s, (occurs_iff t w s).1 o) refl in
        r.all ∙ occurrences_append t w s (s + 1) (next x t w s) (omega arith) (omega (arith, r.up)) ∙ rw here refl

    cut_here : run x t w (suc b) s 0 ≡ record { steps = 0; written = []; mark = s; ending = full s }
    cut_here = run_cut x t w s 0 b o.inside (rw first (omega arith)) ∙ rw first refl
