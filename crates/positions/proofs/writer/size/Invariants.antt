-- `positions::writer::size` meets its contract. The loop's invariant: the list rises if what is left of it does, and the bytes counted
-- with those of what is left are those of all gaps.
-- Assumes nothing.
use Prim.Native.Nat.{◌+◌, ◌*◌, ◌≤◌}
use mathlib.Core.Path.{◌≡◌}
use lib.ListN.{length, drop}
use Rattle.positions.specs.Basics.{limit}
use Rattle.positions.specs.Rising.{rises_from, rising}
use Rattle.positions.specs.Encode.{encode_from}
use Rattle.positions.proofs.writer.size.Given as goal

abbrev pub invariant-loop-p : goal.invariant-loop-p
invariant-loop-p l = (rises_from l.next (drop l.p-index l.list) ≡ rising l.list)
    × (l.bytes + length (encode_from l.next (drop l.p-index l.list)) ≡ length (encode_from 0 l.list))
    × (l.bytes ≤ 5 * l.p-index)
    × (l.p-index ≤ l.next)
    × (l.next ≤ limit)
