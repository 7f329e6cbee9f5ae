-- `positions::writer::rises` meets its contract. The loop's invariant: the list rises if the positions so far do, the last of them is
-- below the limit and the positions after it rise above it.
-- Assumes nothing.
use Prim.Native.Nat.{◌+◌, ◌<◌}
use mathlib.Core.Path.{◌≡◌}
use mathlib.Core.Bool.{◌&&◌}
use lib.Dec.{ltb}
use lib.ListN.{length, get_or, drop}
use Rattle.positions.specs.Basics.{limit}
use Rattle.positions.specs.Rising.{rises_from, rising}
use Rattle.positions.proofs.writer.rises.Given as goal

abbrev pub invariant-loop-p : goal.invariant-loop-p
invariant-loop-p l = (length l.yielded < length l.list)
    × (l.p-iterator.a.rest.now ≡ drop (length l.yielded) l.list)
    × (l.p-iterator.b.rest.now ≡ drop (length l.yielded + 1) l.list)
    × ((l.good && (ltb (get_or l.list (length l.yielded) 0) limit && rises_from (get_or l.list (length l.yielded) 0 + 1) (drop (length l.yielded + 1) l.list))) ≡ rising l.list)
