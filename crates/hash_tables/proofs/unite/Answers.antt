use mathlib.Core.Path.{◌≡◌}
use mathlib.Core.List.{List}
use mathlib.Core.Logic.{◌⊎◌, inl, inr}
use Prim.Native.Nat.{ℕ, ◌+◌, ◌*◌, ◌<◌}
use native.Mathlib.Omega.{arith}
use lib.ListN.{length, get_or, set}
use lib.Seq.{get_or-set_same, get_or-set_other}
use Rattle.rules.proofs.Ranges.{eq_or_below}
use Rattle.hash_tables.specs.HashWords.{HasAll}
use Rattle.matcher.proofs.LinedCells.{only_none, only_set}
use Rattle.hash_tables.proofs.HashWords.{union_has}
use Rattle.hash_tables.proofs.unite.Goals as goal

abbrev Passed : List ℕ → ℕ → List ℕ → ℕ → Type 0
Passed words g cells n = (s : ℕ) → s < n → HasAll words (262 + 4 * g) s (get_or cells (278 + 16 * g + s) 0)

passed_more : (words : List ℕ) (g : ℕ) (cells : List ℕ) (n v : ℕ) → Passed words g cells n → 278 + 16 * g + n < length cells
    → HasAll words (262 + 4 * g) n v → Passed words g (set cells (278 + 16 * g + n) v) (n + 1)
passed_more words g cells n v p room this s l = go (eq_or_below (omega arith))
  where
    go : (s ≡ n) ⊎ (s < n) → HasAll words (262 + 4 * g) s (get_or (set cells (278 + 16 * g + n) v) (278 + 16 * g + s) 0)
    go (inl e) = rw e (rw (get_or-set_same cells (278 + 16 * g + n) v 0 room) this)
    go (inr h) = rw (get_or-set_other cells (278 + 16 * g + n) (278 + 16 * g + s) v 0 (λ e. absurd (omega arith))) (p s h)

pub loop-set-init : goal.loop-set-init
loop-set-init c = record { only = only_none; united = λ s l. absurd (omega arith) }

pub loop-set-preserved : goal.loop-set-preserved
loop-set-preserved c =
    let a = c.args in
    let l = c.loop-set in
    record {
      only = only_set (278 + 16 * a.g + l.set) _ l.invariant.only (omega arith) (omega arith);
      united = passed_more a.cells.now a.g l.cells l.set _ l.invariant.united (omega (arith, l.invariant.only.size))
          (union_has a.cells.now (262 + 4 * a.g) l.set _ _ _ _ c.if_in.ensures c.if_in-in-loop-set.ensures
          c.if_in-in-loop-set-2.ensures c.if_in-in-loop-set-3.ensures);
    }

pub returns : goal.returns
returns c =
    let a = c.args in
    let l = c.loop-set in
    record {
      union = λ s small j e inside one.
          rw (l.invariant.only.low (262 + 4 * a.g + j) (omega arith)) (l.invariant.united s (omega arith) j e inside one);
      only = l.invariant.only;
    }
