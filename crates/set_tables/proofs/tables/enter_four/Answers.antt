-- `set_tables::tables::enter_four` meets its contract: by one store where the four bits are fixed, and else as `enter_half` does.
-- Assumes nothing.
use native.Mathlib.Omega.{arith}
use Rattle.set_tables.proofs.Entering.{half_one}
use Rattle.set_tables.proofs.tables.enter_four.Goals as goal

pub returns-then-care-eq-ALL_FIXED : goal.returns-then-care-eq-ALL_FIXED
returns-then-care-eq-ALL_FIXED c =
    let a = c.args in
    half_one a.value a.care (omega arith) c.if-care-eq-ALL_FIXED.true a.at a.flag a.cells.now c.requires
