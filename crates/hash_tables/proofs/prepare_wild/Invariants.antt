-- `hash_tables::prepare_wild` meets its contract. The loop's invariant: the moves up to d are entered.
-- Assumes nothing.
use mathlib.Core.Path.{◌≡◌}
use Prim.Native.Nat.{◌-◌}
use Rattle.matcher.specs.Asked.{lent}
use Rattle.matcher.specs.Lined.{Only}
use Rattle.hash_tables.specs.HashWords.{Settled, AllEntered}
use Rattle.hash_tables.proofs.prepare_wild.Given as goal

abbrev pub invariant-loop-d : goal.invariant-loop-d
invariant-loop-d l = Settled (lent l.pattern) l.d l.cells × (l.unset ≡ 0 → AllEntered l.cells) × Only 0 358 l.initial.cells l.cells

abbrev pub decreases-loop-d : goal.decreases-loop-d
decreases-loop-d l = l.pattern.m - l.d
