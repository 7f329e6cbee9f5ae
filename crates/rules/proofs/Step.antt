-- From a rule's own next mark to the one cut at E: what is left to show of each method is what it finds up to there; and for a
-- step that decides its own place alone, that no occurrence lies strictly inside its move.
use Prim.Native.Nat.{ℕ, ◌+◌, ◌≤◌, ◌<◌, min}
use mathlib.Core.Path.{◌≡◌, sym, ◌∙◌}
use mathlib.Core.Bool.{false}
use mathlib.Core.List.{[]}
use native.Mathlib.Omega.{arith}
use Rattle.bits.specs.Packed.{Packed}
use Rattle.rules.specs.declared.Method.{Method}
use Rattle.rules.specs.Pattern.{Pattern}
use Rattle.rules.specs.Ranges.{keep}
use Rattle.rules.specs.Occurrence.{places, occurs, occurrences}
use Rattle.rules.specs.Step.{finds, ahead, next, Sound}
use Rattle.rules.proofs.Occurrence.{occurrences_one, occurrences_further, none_from_places}

pub next_le : (x : Method) (t : Packed) (w : Pattern) (s : ℕ) → next x t w s ≤ places t w
unfolding next
next_le x t w s = omega arith

-- A move from s to e is forward, and no occurrence lies strictly inside it.
pub record Moved (t : Packed) (w : Pattern) (s e : ℕ) : Type 0 where
  pub up : s < e
  pub none_strictly : (p : ℕ) → s + 1 ≤ p → p < e → occurs t w p ≡ false

module _ (x : Method) (t : Packed) (w : Pattern) (s : ℕ) (inside : s < places t w) where
  pub cut_at_places : s < ahead x t w s → finds x t w s ≡ occurrences t w s (ahead x t w s) → Sound x t w s
  unfolding next
  cut_at_places up all =
      record {
        all =
            all
            ∙ sym (occurrences_further t w s (min (ahead x t w s) (places t w)) (ahead x t w s) (omega arith) (omega arith)
            (λ p l u. none_from_places t w p (omega arith)));
        up = omega arith;
      }

  -- a step that finds its own place just if it is an occurrence
  pub one_place : finds x t w s ≡ keep (occurs t w s) s [] → Moved t w s (ahead x t w s) → Sound x t w s
  one_place alone r =
      cut_at_places r.up
      (alone
      ∙ sym (occurrences_one t w s)
      ∙ occurrences_further t w s (s + 1) (ahead x t w s) (omega arith) (omega (arith, r.up)) r.none_strictly)
