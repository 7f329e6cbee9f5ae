-- `positions::number::put` meets its contract. The loop's invariant: to store the groups of what is left of the number at the index
-- reached gives what storing all of them at the start gives. The measure is what is left of the number.
-- Assumes nothing.
use Prim.Native.Nat.{◌+◌}
use mathlib.Core.Path.{◌≡◌}
use lib.ListN.{length}
use lib.Seq.{sets}
use Rattle.positions.specs.Encode.{encode_number}
use Rattle.positions.proofs.number.put.Given as goal

abbrev pub invariant-loop-rest : goal.invariant-loop-rest
invariant-loop-rest l = (length l.target ≡ length l.initial.target)
    × (l.at + length (encode_number l.rest) ≡ l.start + length (encode_number l.n))
    × (sets l.target l.at (encode_number l.rest) ≡ sets l.initial.target l.start (encode_number l.n))

abbrev pub decreases-loop-rest : goal.decreases-loop-rest
decreases-loop-rest l = l.rest
