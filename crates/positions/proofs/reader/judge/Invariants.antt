-- `positions::reader::judge` meets its contract. The loop's invariant: the body from the bytes that are left on ends where the whole body
-- does, or has its fault. The measure is how many bytes are left, not how many positions: so the loop goes
-- round at most once for each byte after the count, whatever the count claims.
-- Assumes nothing.
use Prim.Native.Nat.{◌≤◌}
use mathlib.Core.Path.{◌≡◌}
use lib.ListN.{length}
use Rattle.positions.specs.Basics.{limit}
use Rattle.positions.specs.Decode.{read_body}
use Rattle.positions.specs.Inner.{rest_of}
use Rattle.positions.proofs.reader.judge.Given as goal

abbrev pub invariant-loop-left : goal.invariant-loop-left
invariant-loop-left l = (rest_of (read_body l.left l.next l.rest) ≡ rest_of (read_body l.count 0 l.body)) × (l.next ≤ limit)

abbrev pub decreases-loop-left : goal.decreases-loop-left
decreases-loop-left l = length l.rest
