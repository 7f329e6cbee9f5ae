-- `set_tables::scan::four` meets its contract: the bytes that it takes are those of the 32 bits at each of the four places.
-- Assumes nothing.
use native.Mathlib.Omega.{arith}
use lib.ListN.{length-set}
use Rattle.set_tables.proofs.Scanning.{four_found}
use Rattle.set_tables.proofs.scan.four.Goals as goal

pub bounds-found-i-2 : goal.bounds-found-i-2
bounds-found-i-2 c = simp length-set (omega arith)

pub bounds-found-i-3 : goal.bounds-found-i-3
bounds-found-i-3 c = simp length-set (omega arith)

pub bounds-found-i-4 : goal.bounds-found-i-4
bounds-found-i-4 c = simp length-set (omega arith)

pub returns : goal.returns
returns c =
    let a = c.args in
    four_found a.tables.now a.y a.i a.found.now c.ranges.y.fits c.requires.1 c.requires.2
