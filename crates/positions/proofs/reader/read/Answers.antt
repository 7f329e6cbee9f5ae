-- `positions::reader::read` meets its contract: each way to return is one way that `decode` goes, and the cells are written only
-- where the first pass found no fault and there are enough of them.
-- Assumes nothing.
use Prim.Native.Nat.{◌≤◌}
use mathlib.Core.Path.{◌≡◌, sym}
use native.Mathlib.Omega.{arith}
use lib.ListN.{length}
use borrow.Author.Tests.{eqb-true, eqb-false}
use Rattle.std.proofs.lemmas.List.{length-take-le}
use Rattle.std.proofs.lemmas.Result.{err_from_is_err_and}
use Rattle.positions.specs.declared.ReadRefusal.TheVariants.{BytesLeftOver, CellsMissing}
use Rattle.positions.proofs.Decoded.{contents_fault, decode_bad, decode_few, decode_good, judged_fault, judged_left, judged_good, reads_fault, reads_list}
use Rattle.positions.proofs.reader.read.Goals as goal

-- the count has a fault
pub returns-in_err-count : goal.returns-in_err-count
returns-in_err-count c =
    let p = err_from_is_err_and c.from_residual.result c.from_residual.ensures.1 in
    rw (p.1, p.2) (reads_fault _ _ _ (decode_bad _ _ _ (contents_fault _ _ (sym c.in_err-count.ensures))))

-- a position has one
pub returns-in_err-left : goal.returns-in_err-left
returns-in_err-left c =
    let p = err_from_is_err_and c.from_residual-in_err-left.result c.from_residual-in_err-left.ensures.1 in
    rw (p.1, p.2) (reads_fault _ _ _ (decode_bad _ _ _ (judged_fault _ _ _ _ (sym c.in_ok-count.ensures) c.in_err-left.ensures)))

-- bytes are left over
pub returns-then-not-is_empty : goal.returns-then-not-is_empty
returns-then-not-is_empty c =
    let some = eqb-false _ _ (sym c.if-not-is_empty.ensures) in
    reads_fault _ _ BytesLeftOver (decode_bad _ _ _ (judged_left _ _ _ _ (sym c.in_ok-count.ensures) c.in_ok-left.ensures (omega arith)))

-- the file is good and has too few cells
pub returns-then-cells-needed : goal.returns-then-cells-needed
returns-then-cells-needed c =
    let left = eqb-true _ _ (sym c.if-not-is_empty.ensures) in
    let none : length c.in_ok-left.left.now ≡ 0 = omega arith in
    let held = judged_good _ _ _ _ (sym c.in_ok-count.ensures) c.in_ok-left.ensures none in
    reads_fault _ _ CellsMissing (decode_few _ _ held.0 held.1 (omega (arith, held.2.length_is, c.if-cells-needed.true)))

pub store-requires : goal.store-requires
store-requires c =
    let left = eqb-true _ _ (sym c.if-not-is_empty.ensures) in
    let none : length c.in_ok-left.left.now ≡ 0 = omega arith in
    let held = judged_good _ _ _ _ (sym c.in_ok-count.ensures) c.in_ok-left.ensures none in
    let fits : c.in_ok-count.count ≤ length c.args.cells.now = omega arith in
    rw (length-take-le c.in_ok-count.count c.args.cells.now fits) held.2.accepted

-- the list is stored
pub returns : goal.returns
returns c =
    let left = eqb-true _ _ (sym c.if-not-is_empty.ensures) in
    let none : length c.in_ok-left.left.now ≡ 0 = omega arith in
    let held = judged_good _ _ _ _ (sym c.in_ok-count.ensures) c.in_ok-left.ensures none in
    let fits : c.in_ok-count.count ≤ length c.args.cells.now = omega arith in
    let room : length held.0 ≤ length c.args.cells.now = omega (arith, held.2.length_is) in
    rw (c.store.ensures, length-take-le c.in_ok-count.count c.args.cells.now fits, held.2.list_is)
    (reads_list _ _ _ held.0 (decode_good _ _ held.0 held.1 room) held.2.length_is)
