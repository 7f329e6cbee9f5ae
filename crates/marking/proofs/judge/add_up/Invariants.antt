-- `marking::judge::add_up` meets its contract. The loop's invariant: the counts add up to the cells if those that are left add up to what
-- is left of the cells.
-- Assumes nothing.
use mathlib.Core.Path.{◌≡◌}
use lib.Dec.{eqb}
use lib.ListN.{drop}
use Rattle.marking.specs.Sitting.{sum}
use Rattle.marking.proofs.judge.add_up.Given as goal

abbrev pub invariant-loop-count : goal.invariant-loop-count
invariant-loop-count l = eqb (sum (drop l.count-index l.counts)) l.left ≡ eqb (sum l.counts) l.cells
