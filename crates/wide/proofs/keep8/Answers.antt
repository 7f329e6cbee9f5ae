use Prim.Native.Nat.{◌+◌}
use native.Mathlib.Omega.{arith}
use Rattle.wide.proofs.WideScan.{applies_start, applies_bit}
use Rattle.wide.proofs.keep8.Goals as goal

pub loop-j-init : goal.loop-j-init
loop-j-init c = let a = c.args in applies_start a.search.now.query.text.now a.search.now.cells.now a.s.0 a.q (a.q + 0) a.flags (omega arith)

pub loop-j-preserved : goal.loop-j-preserved
loop-j-preserved c =
    let a = c.args in
    let l = c.loop-j in
    let byte = c.byte_inside-x in
    applies_bit a.search.now.query.text.now a.search.now.cells.now a.s.0 a.q l.j byte.result a.flags l.f byte.ensures (omega arith) l.invariant
