-- `hash_tables::line_up` meets its contract. The loop's invariant: the unions of the words before g are made.
-- Assumes nothing.
use Prim.Native.Nat.{ℕ, ◌<◌}
use Rattle.matcher.specs.Lined.{Only}
use Rattle.hash_tables.specs.HashWords.{Union}
use Rattle.hash_tables.proofs.line_up.Given as goal

abbrev pub invariant-loop-g : goal.invariant-loop-g
invariant-loop-g l = record { only : Only 278 342 l.initial.cells l.cells; united : (h : ℕ) → h < l.g → Union h l.cells }
