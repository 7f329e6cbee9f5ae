-- A set of one pattern and the plain search for that pattern do the same: turn by turn of the two machines, and row by row of the
-- two tables of refusals.
-- Assumes nothing.
use Rattle.std.specs.Prelude.{Ok, Err}
use Prim.Native.Nat.{ℕ, zero, suc, ◌+◌, ◌-◌, ◌/◌, ◌%◌, ◌≤◌, ◌<◌}
use mathlib.Core.Path.{◌≡◌, refl, sym, ap, ◌∙◌}
use mathlib.Core.Bool.{Bool, true, false}
use mathlib.Core.List.{List, [], ◌∷◌, ◌++◌, map, map-append}
use native.Mathlib.Decide.{dec_le}
use native.Mathlib.Omega.{arith}
use borrow.Author.Tests.{le-ltb}
use lib.ListN.{length, take, length-map}
use lib.Seq.{take-append_seam}
use Rattle.bits.specs.Packed.{Packed}
use Rattle.rules.specs.declared.Method.TheVariants.{Plain}
use Rattle.rules.specs.Ranges.{keep, among}
use Rattle.rules.specs.Pattern.{Pattern}
use Rattle.rules.specs.Occurrence.{places, occurs}
use Rattle.rules.specs.Plain.{row_fits, plain_finds}
use Rattle.rules.specs.Step.{finds, ahead, next}
use Rattle.rules.specs.Machine.{Run, stopped, cut, after, run}
use Rattle.rules.proofs.Plain.{rows_occur}
use Rattle.rules.proofs.Machine as machine_laws
use Rattle.search.specs.Verdict as search
use Rattle.search.specs.Verdict.{Row, refused, accepted, judge, text_too_long, text_bytes_missing, pattern_length, pattern_bytes_missing, fixed_bytes_missing}
use Rattle.search.proofs.Verdict.{judge_accepted, accepted_judge}
use Rattle.set_rules.specs.PatternSet.{PatternSet, start_of, pattern_at, largest, set_places}
use Rattle.set_rules.specs.Hits.{hit_at, standing, hits_at}
use Rattle.set_rules.specs.SetMachine.{SetRun, halted, no_room, onward, set_run}
use Rattle.set_rules.specs.Verdict.{Request, rows_from, rows, machine, verdict}
use Rattle.set.specs.Promise.{Outcome, number_of_refusal, Searched}
use Rattle.set.specs.Single.{OnePattern, with_zero, OneMachine, SameAsked, SameOutcome, Single}
use Rattle.set_rules.proofs.Hits.{pairs_cells}
use Rattle.set_rules.proofs.SetMachine.{run_spent, run_ended, run_step, run_full}
use Rattle.set.proofs.Rows.{judge_again}

-- ---- the two machines

-- what a plain run is as a run of a set
abbrev as_pairs : Run → SetRun
as_pairs r = record { steps = r.steps; written = with_zero r.written; mark = r.mark; ending = r.ending }

module _ (t : Packed) (ws : PatternSet) (one : OnePattern ws) where
  one_places : set_places t ws ≡ places t (pattern_at ws 0)
  unfolding set_places largest
  one_places = rw one (omega arith)

  one_standing : (s : ℕ) → standing t ws s ≡ keep (occurs t (pattern_at ws 0) s) 0 []
  unfolding standing among
  one_standing s = rw one

  -- the hits at a place are what plain finds there
  one_hits : (s : ℕ) → s < places t (pattern_at ws 0) → hits_at t ws s ≡ with_zero (finds Plain t (pattern_at ws 0) s)
  unfolding hits_at finds plain_finds
  one_hits s inside =
      ap (map (hit_at s)) (one_standing s)
      ∙ go (occurs t (pattern_at ws 0) s)
      ∙ ap (λ (b : Bool). with_zero (keep b s [])) (sym (rows_occur t (pattern_at ws 0) s inside))
    where
      go : (b : Bool) → map (hit_at s) (keep b 0 []) ≡ with_zero (keep b s [])
      go true = refl
      go false = refl

  one_length : (s : ℕ) → s < places t (pattern_at ws 0) → length (hits_at t ws s) ≡ length (finds Plain t (pattern_at ws 0) s)
  one_length s inside = ap length (one_hits s inside) ∙ length-map (finds Plain t (pattern_at ws 0) s) (λ p. hit_at p 0)

  one_next : (s : ℕ) → s < places t (pattern_at ws 0) → next Plain t (pattern_at ws 0) s ≡ suc s
  unfolding next ahead
  one_next s inside = omega arith

  -- how each turn reads in pairs

  as_stopped : (s : ℕ) → halted (set_places t ws) s ≡ as_pairs (stopped (places t (pattern_at ws 0)) s)
  unfolding halted stopped
  as_stopped s = rw one_places

  as_after : (s : ℕ) (r : Run) → s < places t (pattern_at ws 0)
      → onward 1 (hits_at t ws s) (as_pairs r) ≡ as_pairs (after 1 (finds Plain t (pattern_at ws 0) s) r)
  unfolding onward after
  as_after s r inside =
      let e : hits_at t ws s ++ with_zero r.written ≡ with_zero (finds Plain t (pattern_at ws 0) s ++ r.written) =
      rw (one_hits s inside) (sym (map-append (λ p. hit_at p 0) (finds Plain t (pattern_at ws 0) s) r.written)) in
      λ i. record { steps = 1 + r.steps; written = e i; mark = r.mark; ending = r.ending }

  -- a step is cut only at a place where plain finds its own place and has no cell
  as_cut : (s room : ℕ) → room < length (finds Plain t (pattern_at ws 0) s) → no_room s ≡ as_pairs (cut room (finds Plain t (pattern_at ws 0) s))
  unfolding no_room cut finds plain_finds
  as_cut s room l = go (row_fits t (pattern_at ws 0) (s % 8) (s / 8)) room l
    where
      go : (b : Bool) (k : ℕ) → k < length (keep b s [])
          → no_room s ≡ as_pairs (cut k (keep b s []))
      go true zero h = refl
      go true (suc k) h = absurd (omega arith)
      go false k h = absurd (omega arith)

  one_run : (b s room : ℕ) → set_run t ws b s room ≡ as_pairs (run Plain t (pattern_at ws 0) b s room)
  one_run zero s room = run_spent t ws s room ∙ as_stopped s ∙ ap as_pairs (sym (machine_laws.run_spent Plain t (pattern_at ws 0) s room))
  one_run (suc b) s room = go (one_run b (suc s) (room - length (hits_at t ws s))) (dec_le (places t (pattern_at ws 0)) s)
    where
      Rest : Type 0
      Rest =
          set_run t ws b (suc s) (room - length (hits_at t ws s))
          ≡ as_pairs (run Plain t (pattern_at ws 0) b (suc s) (room - length (hits_at t ws s)))

      step : Rest → s < places t (pattern_at ws 0) → Dec (length (finds Plain t (pattern_at ws 0) s) ≤ room)
          → set_run t ws (suc b) s room ≡ as_pairs (run Plain t (pattern_at ws 0) (suc b) s room)
      step ih inside (yes l) =
          run_step t ws s room b (rw one_places inside) (rw (one_length s inside) l)
          ∙ ap (onward 1 (hits_at t ws s)) ih
          ∙ as_after s (run Plain t (pattern_at ws 0) b (suc s) (room - length (hits_at t ws s))) inside
          ∙ rw (one_length s inside, ← (one_next s inside)) (ap as_pairs (sym (machine_laws.run_step Plain t (pattern_at ws 0) s room b inside l)))
      step ih inside (no n) =
          run_full t ws s room b (rw one_places inside) (rw (one_length s inside) (omega arith))
          ∙ as_cut s room (omega arith)
          ∙ ap as_pairs (sym (machine_laws.run_cut Plain t (pattern_at ws 0) s room b inside (omega arith)))

      go : Rest → Dec (places t (pattern_at ws 0) ≤ s) → set_run t ws (suc b) s room ≡ as_pairs (run Plain t (pattern_at ws 0) (suc b) s room)
      go ih (yes h) =
          run_ended t ws s room (suc b) (rw one_places h)
          ∙ as_stopped s
          ∙ ap as_pairs (sym (machine_laws.run_ended Plain t (pattern_at ws 0) s room (suc b) h))
      go ih (no n) = step ih (omega arith) (dec_le _ _)

  one_machine : (budget s room : ℕ) → OneMachine t ws budget s room
  unfolding start_of
  one_machine budget s room =
      let same = one_run budget s room in
      record {
        pattern_is = refl;
        steps = ap (λ (r : SetRun). r.steps) same;
        written = ap (λ (r : SetRun). r.written) same;
        mark = ap (λ (r : SetRun). r.mark) same;
        ending = ap (λ (r : SetRun). r.ending) same;
      }

-- ---- the two tables of refusals

-- the rows that can refuse either call: 1, 2, 3, 4, 17 and 6
one_rows : Packed → Pattern → ℕ → List Row
one_rows t w s =
    text_too_long t
    ∷ text_bytes_missing t
    ∷ pattern_length w.count
    ∷ pattern_bytes_missing w
    ∷ fixed_bytes_missing w
    ∷ search.mark_beyond t w s
    ∷ []

-- of the set's rows 18 fails
set_rows : {A : Type 0} (a : A) (t : Packed) (ws : PatternSet) (s : ℕ) → OnePattern ws → judge (rows t ws s) a ≡ judge (one_rows t (pattern_at ws 0) s) a
unfolding rows rows_from judge one_rows
set_rows a t ws s one = rw (one_places t ws one, one) refl

-- of the plain search's 5 and 7 fail
plain_rows : {A : Type 0} (a : A) (q : Request) (p : search.Request) → SameAsked q p
    → judge (search.rows p) a ≡ judge (one_rows q.text (pattern_at q.patterns 0) q.mark) a
unfolding search.rows judge one_rows
plain_rows a q p same =
    rw (same.method, le-ltb _ _ same.enough, same.text, same.pattern, same.mark) refl

-- what the machine of either call comes to
machines : (q : Request) (p : search.Request) → SameAsked q p → machine q ≡ as_pairs (search.machine p)
unfolding machine search.machine
machines q p same =
    rw (same.text, same.pattern, same.method, same.mark, same.budget, same.half)
    (one_run q.text q.patterns same.one q.budget q.mark (length q.list / 2))

-- ---- two calls

module _ (q : Request) (p : search.Request) (same : SameAsked q p) where
  abbrev table : List Row
  table = one_rows q.text (pattern_at q.patterns 0) q.mark

  -- either verdict is that of the common rows
  set_verdict : verdict q ≡ judge table (machine q)
  unfolding verdict
  set_verdict = set_rows (machine q) q.text q.patterns q.mark same.one

  plain_verdict : search.verdict p ≡ judge table (search.machine p)
  unfolding search.verdict
  plain_verdict = plain_rows (search.machine p) q p same

  -- where no row holds both are accepted, and the row that refuses one refuses the other
  one_call : (o : Outcome) (list : List ℕ) (u : search.Outcome) (found scratch : List ℕ)
      → Searched q o list → search.Searched p u found scratch → SameOutcome o list u found
  one_call (Ok a) list (Ok b) found scratch c d =
      let is = machines q p same in
      let written_is : (machine q).written ≡ with_zero (search.machine p).written = ap (λ (r : SetRun). r.written) is in
      let x = c.answer in
      let y = d.answer in
      let many : length (machine q).written ≡ length (search.machine p).written =
      ap length written_is ∙ length-map (search.machine p).written (λ k. hit_at k 0) in
      let found_are : take b.occurrences found ≡ (search.machine p).written =
      rw (y.occurrences, d.list_is) (take-append_seam (search.machine p).written _) in
      record {
        steps = x.steps ∙ ap (λ (r : SetRun). r.steps) is ∙ sym y.steps;
        occurrences = x.occurrences ∙ many ∙ sym y.occurrences;
        mark = x.mark ∙ ap (λ (r : SetRun). r.mark) is ∙ sym y.mark;
        ending = x.ending ∙ ap (λ (r : SetRun). r.ending) is ∙ sym y.ending;
        pairs =
            rw (x.occurrences, c.list_is) (pairs_cells (machine q).written _)
            ∙ written_is
            ∙ ap with_zero (sym found_are);
      }
  one_call (Ok a) list (Err r) found scratch c d =
      let fail = (judge_accepted (machine q) table (machine q) (sym set_verdict ∙ c.verdict_is)).0 in
      let e : judge table (search.machine p) ≡ accepted (search.machine p) = accepted_judge (search.machine p) table fail in
      let f : judge table (search.machine p) ≡ refused (search.number_of_refusal r) = sym plain_verdict ∙ d.verdict_is in
      let z : ◌≡◌ {A = ℕ} 0 1 = cc in
      omega arith
  one_call (Err r) list (Ok b) found scratch c d =
      let fail = (judge_accepted (search.machine p) table (search.machine p) (sym plain_verdict ∙ d.verdict_is)).0 in
      let e : judge table (machine q) ≡ accepted (machine q) = accepted_judge (machine q) table fail in
      let f : judge table (machine q) ≡ refused (number_of_refusal r) = sym set_verdict ∙ c.verdict_is in
      let z : ◌≡◌ {A = ℕ} 0 1 = cc in
      omega arith
  one_call (Err r) list (Err k) found scratch c d =
      let e : judge table (search.machine p) ≡ refused (number_of_refusal r) =
      judge_again (machine q) (search.machine p) table (number_of_refusal r) (sym set_verdict ∙ c.verdict_is) in
      let f : judge table (search.machine p) ≡ refused (search.number_of_refusal k) = sym plain_verdict ∙ d.verdict_is in
      cc

-- The theorem.
pub single : Single
single =
    record {
      machines = one_machine;
      calls = λ q p same o list c u found scratch d. one_call q p same o list u found scratch c d;
    }
