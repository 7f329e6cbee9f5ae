-- `hash_tables::prepare` meets its contract, whichever way is taken.
-- Assumes nothing.
use native.Mathlib.Omega.{arith}
use Rattle.hash_tables.proofs.HashTables.{entered_all}
use Rattle.hash_tables.proofs.prepare.Goals as goal

pub prepare_fixed-requires : goal.prepare_fixed-requires
prepare_fixed-requires c =
    record { good_pattern = c.requires.good_pattern; all_fixed = c.all_fixed.ensures.0 c.if-all_fixed.true; in_bounds = omega arith }

pub shape_of-cells-then-all_fixed : goal.shape_of-cells-then-all_fixed
shape_of-cells-then-all_fixed c = c.prepare_fixed.ensures.size

pub returns-then-all_fixed : goal.returns-then-all_fixed
returns-then-all_fixed c = entered_all _ _ _ c.prepare_fixed.ensures

pub shape_of-cells-else-all_fixed : goal.shape_of-cells-else-all_fixed
shape_of-cells-else-all_fixed c = c.prepare_wild.ensures.size
