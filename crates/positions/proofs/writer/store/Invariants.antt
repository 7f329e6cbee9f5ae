-- `positions::writer::store` meets its contract. The loop's invariant: the gaps of what is left of the list, stored at the index
-- reached, give what all gaps stored after the count give.
-- Assumes nothing.
use Prim.Native.Nat.{◌+◌, ◌≤◌}
use mathlib.Core.Path.{◌≡◌}
use mathlib.Core.Bool.{true}
use lib.ListN.{length, drop}
use lib.Seq.{sets}
use Rattle.positions.specs.Rising.{rises_from}
use Rattle.positions.specs.Encode.{encode_from}
use Rattle.positions.proofs.writer.store.Given as goal

abbrev pub invariant-loop-p : goal.invariant-loop-p
invariant-loop-p l = (rises_from l.next (drop l.p-index l.list) ≡ true)
    × (sets l.target l.at (encode_from l.next (drop l.p-index l.list)) ≡ sets l.initial.target l.initial.at (encode_from 0 l.list))
    × (l.at + length (encode_from l.next (drop l.p-index l.list)) ≤ length l.target)
