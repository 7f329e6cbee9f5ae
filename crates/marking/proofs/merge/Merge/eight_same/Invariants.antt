-- `marking::merge::Merge::eight_same` meets its contract. The loop's invariant: where all so far were the same, so are as many positions of
-- both lists.
-- Assumes nothing.
use mathlib.Core.Path.{◌≡◌}
use mathlib.Core.Bool.{true}
use lib.ListN.{take, drop}
use Rattle.marking.proofs.merge.Merge.eight_same.Given as goal

abbrev pub invariant-loop-k : goal.invariant-loop-k
invariant-loop-k l = l.same ≡ true → take l.k (drop l.self.i l.key) ≡ take l.k (drop l.self.j l.sheet)
