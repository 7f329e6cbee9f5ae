-- `wide::entering` meets its contract: the pattern's bits, or their opposites, and ones at its wild bits and after it.
-- Assumes nothing.
use Prim.Native.Nat.{◌<◌}
use native.Mathlib.Omega.{arith}
use lib.ListN.{get_or}
use Rattle.matcher.specs.Asked.{lent}
use Rattle.wide.proofs.WideBytes.{Free, free_none, free_some, enters_past, enters_zero, enters_one}
use Rattle.wide.proofs.entering.Goals as goal
use Rattle.wide.proofs.entering.Goals.{then-m-q-2, else-m-q-2}

pub returns-then-m-q : goal.returns-then-m-q
returns-then-m-q c =
    let w = lent c.args.pattern.now in
    (enters_past w 0 c.args.q (omega arith), enters_past w 1 c.args.q (omega arith))

pub returns : goal.returns
returns c =
    let q = c.args.q in
    let w = lent c.args.pattern.now in
    let k = c.byte-at.result.0 in
    let small : get_or w.bytes k 0 < 256 = omega arith in
    let few : get_or w.fixed k 0 < 256 = omega arith in
    let free : Free w q c.if-m-q-2.free
    = elim c.if-m-q-2.branch [
      | then-m-q-2 e ↦ rw (e.free-is, c.from-free.ensures) (free_some w q k (omega arith) c.byte-at.ensures few (omega arith))
      | else-m-q-2 e ↦ rw (e.free-is, c.from-free.ensures) (free_none w q k (omega arith) c.byte-at.ensures few (omega arith))
    ] in
    rw c.from-b.ensures (enters_zero w q _ free (omega arith) k c.byte-at.ensures small, enters_one w q _ free (omega arith) k c.byte-at.ensures small)
