-- Laws of a part of the machine's run: parts join, one step is a part, and how a run ends after a part.
-- Assumes nothing.
use mathlib.Core.Path.{◌≡◌, sym, ap, ◌∙◌}
use mathlib.Core.List.{List, [], ◌++◌}
use Prim.Native.Nat.{ℕ, suc, ◌+◌, ◌-◌, ◌≤◌, ◌<◌}
use native.Mathlib.Nat.{zero-add, add_assoc, sub-zero}
use native.Mathlib.Numerals.{one-add}
use native.Mathlib.Omega.{arith}
use lib.ListN.{length, length-append}
use Rattle.bits.specs.Packed.{Packed}
use Rattle.rules.specs.declared.Method.{Method}
use Rattle.rules.specs.Pattern.{Pattern}
use Rattle.rules.specs.Occurrence.{places}
use Rattle.rules.specs.Step.{finds, next}
use Rattle.rules.specs.Machine.{run, after, stopped, cut}
use Rattle.matcher.specs.Progress.{Reaches}
use Rattle.rules.proofs.Machine.{after_after, after_nothing, run_spent, run_ended, run_step, run_cut}

module _ (x : Method) (t : Packed) (w : Pattern) where
  -- no step
  pub reaches_none : (s : ℕ) → Reaches x t w s 0 [] s
  unfolding Reaches
  reaches_none s b cells l = rw (zero-add b, sub-zero cells) (sym (after_nothing (run x t w b s cells)))

  -- one step, whose places all have cells
  pub reaches_step : (s : ℕ) → s < places t w → Reaches x t w s 1 (finds x t w s) (next x t w s)
  unfolding Reaches
  reaches_step s h b cells l = rw one-add (run_step x t w s cells b h l)

  -- one part and then another
  pub reaches_join : (s p q j k : ℕ) (a b : List ℕ) → Reaches x t w s j a p → Reaches x t w p k b q → Reaches x t w s (j + k) (a ++ b) q
  unfolding Reaches
  reaches_join s p q j k a b f g r cells l =
      let size : length (a ++ b) ≡ length a + length b = length-append a b in
      let left : cells - length (a ++ b) ≡ cells - length a - length b = omega arith in
      ap (λ (n : ℕ). run x t w n s cells) (add_assoc j k r)
      ∙ f (k + r) cells (omega arith)
      ∙ ap (after j a) (g r (cells - length a) (omega arith))
      ∙ after_after j k a b (run x t w r q (cells - length a - length b))
      ∙ ap (λ (n : ℕ). after (j + k) (a ++ b) (run x t w r q n)) (sym left)

  -- a step more that finds nothing
  pub reaches_quiet : (s p k : ℕ) → Reaches x t w s k [] p → p < places t w → finds x t w p ≡ [] → Reaches x t w s (k + 1) [] (next x t w p)
  reaches_quiet s p k f h e =
      reaches_join s p (next x t w p) k 1 [] [] f (rw e at (reaches_step p h))

  module _ (s k at : ℕ) (found : List ℕ) (part : Reaches x t w s k found at) (budget cells : ℕ) (fits : length found ≤ cells) where
    -- the rest of the run goes on from the part's end
    pub whole : (r : ℕ) → budget ≡ k + r → run x t w budget s cells ≡ after k found (run x t w r at (cells - length found))
    unfolding Reaches
    whole r e = ap (λ (n : ℕ). run x t w n s cells) e ∙ part r cells fits

    -- the budget is gone
    pub run_to_budget : k ≡ budget → run x t w budget s cells ≡ after k found (stopped (places t w) at)
    run_to_budget e = whole 0 (omega arith) ∙ ap (after k found) (run_spent x t w at (cells - length found))

    -- the places are at an end
    pub run_to_end : k ≤ budget → places t w ≤ at → run x t w budget s cells ≡ after k found (stopped (places t w) at)
    run_to_end h e = whole (budget - k) (omega arith) ∙ ap (after k found) (run_ended x t w at (cells - length found) (budget - k) e)

    -- the next step's places do not all have cells
    pub run_to_cut : k < budget → at < places t w → cells - length found < length (finds x t w at)
        → run x t w budget s cells ≡ after k found (cut (cells - length found) (finds x t w at))
    run_to_cut h e l =
        whole (suc (budget - suc k)) (omega arith)
        ∙ ap (after k found) (run_cut x t w at (cells - length found) (budget - suc k) e l)
