-- `plain::row_fits` meets its contract. The loop's invariant: the cells passed agree.
-- Assumes nothing.
use mathlib.Core.Path.{◌≡◌}
use mathlib.Core.Bool.{true}
use Rattle.plain.specs.RowCells.{cell_fits}
use Rattle.plain.proofs.Between.{Between}
use Rattle.plain.proofs.row_fits.Given as goal

abbrev pub invariant-loop-k : goal.invariant-loop-k
invariant-loop-k l = Between (λ y. cell_fits l.text l.cells l.s.0 y ≡ true) l.from l.k
