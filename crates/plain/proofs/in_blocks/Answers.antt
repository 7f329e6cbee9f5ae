use Rattle.std.proofs.Common.{◌*◌, arith}
use Rattle.plain.proofs.Between.{between_none, between_join}
use Rattle.plain.proofs.RowCells.{block_passed, block_fits}
use Rattle.plain.proofs.in_blocks.Goals as goal

pub loop-byte-init : goal.loop-byte-init
loop-byte-init c = between_none _ _

pub returns-in-Some : goal.returns-in-Some
returns-in-Some c =
    let a = c.args in
    let l = c.loop-byte in
    let row = c.in-Some.ensures in
    let load = c.word_at_byte.ensures in
    let there = c.place_at.ensures in
    record {
      from = omega arith;
      passes = rw there (block_fits a.text.now a.cells.now l.byte _ _ row.0 load row.1.passes);
      none_sooner = between_join _ _ (8 * l.byte) _ l.invariant
          (λ p g u. block_passed a.text.now a.cells.now l.byte 0 _ _ (omega arith) load row.1.none_sooner p (omega arith) (omega arith));
    }

pub loop-byte-preserved : goal.loop-byte-preserved
loop-byte-preserved c =
    let a = c.args in
    let l = c.loop-byte in
    between_join _ _ (8 * l.byte) _ l.invariant
    (λ p g u. block_passed a.text.now a.cells.now l.byte 0 8 _ (omega arith) c.word_at_byte.ensures (rw c.in_default.is at c.first_row.ensures) p (omega arith) (omega arith))

pub returns : goal.returns
returns c = λ p g u. c.loop-byte.invariant p g (omega arith)
