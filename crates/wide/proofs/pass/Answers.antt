use mathlib.Core.Path.{◌≡◌}
use Prim.Native.Nat.{◌+◌, ◌*◌}
use native.Mathlib.Omega.{arith}
use Rattle.wide.proofs.WideScan.{pass_start, pass_more, pass_end}
use Rattle.wide.proofs.pass.Goals as goal

pub loop-round-init : goal.loop-round-init
loop-round-init c =
    let a = c.args in
    let start : a.from + 0 ≡ a.from = omega arith in
    rw start (pass_start a.search.now.query.text.now a.search.now.cells.now a.s.0 a.search.now.query.pattern.m a.from (omega arith) (omega arith) a.flags)

pub loop-round-preserved : goal.loop-round-preserved
loop-round-preserved c =
    let l = c.loop-round in
    let a = c.args in
    let next : a.from + 16 * l.round + 16 ≡ a.from + 16 * (l.round + 1) = omega arith in
    rw next at
    (pass_more a.search.now.query.text.now a.search.now.cells.now a.s.0 a.search.now.query.pattern.m a.from (omega arith) (omega arith) (a.from + 16 * l.round) (omega arith)
    a.flags l.f c.keep8-f.result (omega arith) (omega arith) l.invariant c.keep8-f.ensures)

-- no byte is left
pub returns-after-loop-round : goal.returns-after-loop-round
returns-after-loop-round c =
    let l = c.loop-round in
    let a = c.args in
    pass_end a.search.now.query.text.now a.search.now.cells.now a.s.0 a.search.now.query.pattern.m a.from (omega arith) (omega arith) (a.from + 16 * l.round) (omega arith)
    a.flags l.f (λ low whole. omega arith) l.invariant

pub returns-then-m-q : goal.returns-then-m-q
returns-then-m-q c =
    let l = c.loop-round in
    let a = c.args in
    pass_end a.search.now.query.text.now a.search.now.cells.now a.s.0 a.search.now.query.pattern.m a.from (omega arith) (omega arith) (a.from + 16 * l.round) (omega arith)
    a.flags l.f (λ low whole. omega arith) l.invariant
