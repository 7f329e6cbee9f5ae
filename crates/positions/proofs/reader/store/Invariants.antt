-- `positions::reader::store` meets its contract. The loop's invariant: the positions of the bytes that are left come after those
-- stored, and no fault is found in them, since the body was judged good.
-- Assumes nothing.
use Prim.Native.Nat.{◌-◌, ◌≤◌}
use mathlib.Core.Path.{◌≡◌}
use mathlib.Core.Bool.{true}
use mathlib.Core.List.{◌++◌}
use lib.ListN.{length, take}
use Rattle.positions.specs.Basics.{limit}
use Rattle.positions.specs.Decode.{read_body}
use Rattle.positions.specs.Inner.{accepts, positions_of}
use Rattle.positions.proofs.reader.store.Given as goal

abbrev pub invariant-loop-cell : goal.invariant-loop-cell
invariant-loop-cell l = (accepts (read_body (length l.cells - l.cell-index) l.next l.rest) ≡ true)
    × (take l.cell-index l.cells ++ positions_of (read_body (length l.cells - l.cell-index) l.next l.rest) ≡ positions_of (read_body (length l.cells) 0 l.body))
    × (l.next ≤ limit)
