-- `plain::in_blocks` meets its contract. The loop's invariant: the first cells rule out the places passed.
-- Assumes nothing.
use Prim.Native.Nat.{◌*◌}
use Rattle.plain.specs.RowCells.{cell_fits, NonePass}
use Rattle.plain.proofs.in_blocks.Given as goal

abbrev pub invariant-loop-byte : goal.invariant-loop-byte
invariant-loop-byte l = NonePass (λ p. cell_fits l.text l.cells p 0) (8 * l.fn.from.0) (8 * l.byte)
