use mathlib.Core.Path.{◌≡◌}
use Prim.Native.Nat.{◌+◌, ◌*◌}
use native.Mathlib.Omega.{arith}
use lib.Count.{ones-ones}
use Rattle.wide.specs.Flags.{within, Applies}
use Rattle.wide.proofs.WideScan.{all_flags, applies_start, applies_round, scanned_end, scanned_one, scanned_two, scanned_long}
use Rattle.wide.proofs.scan.Goals as goal
use Rattle.wide.proofs.scan.Goals.{After-keep8-f-in-loop-round}

-- the two bytes are applied
left : (c : After-keep8-f-in-loop-round)
    → let a = c.args in
    Applies a.search.now.query.text.now a.search.now.cells.now a.s.0 (within 56 (56 + 16 * (c.loop-round.round + 1))) all_flags c.keep8-f-in-loop-round.result
left c =
    let a = c.args in
    let l = c.loop-round in
    let next : 56 + 16 * l.round + 16 ≡ 56 + 16 * (l.round + 1) = omega arith in
    rw next at
    (applies_round a.search.now.query.text.now a.search.now.cells.now a.s.0 (56 + 16 * l.round) all_flags l.f c.keep8-f.result c.keep8-f-in-loop-round.result (omega arith)
    l.invariant c.keep8-f.ensures c.keep8-f-in-loop-round.ensures)

pub returns-then-n-until : goal.returns-then-n-until
returns-then-n-until c =
    let a = c.args in
    let q = a.search.now.query in
    scanned_end q.text.now q.n q.pattern.m a.search.now.cells.now a.s.0 _ (omega (arith, a.search.now.ready.inside)) (omega arith)

pub returns-then-half-lt2 : goal.returns-then-half-lt2
returns-then-half-lt2 c =
    let a = c.args in
    let q = a.search.now.query in
    scanned_one q.text.now q.n q.pattern.m a.search.now.cells.now a.s.0 (omega arith) c.pass-half.result (omega arith) c.if-half-lt2.true c.pass-half.ensures

pub returns-then-m-lt64 : goal.returns-then-m-lt64
returns-then-m-lt64 c =
    let a = c.args in
    let q = a.search.now.query in
    scanned_two q.text.now q.n q.pattern.m a.search.now.cells.now a.s.0 (omega arith) c.pass-half.result c.pass.result (omega arith)
    c.pass-half.ensures c.pass.ensures

pub loop-round-init : goal.loop-round-init
loop-round-init c =
    let a = c.args in
    applies_start a.search.now.query.text.now a.search.now.cells.now a.s.0 56 _ all_flags (omega arith)

pub returns-then-f-eq0 : goal.returns-then-f-eq0
returns-then-f-eq0 c =
    let a = c.args in
    let q = a.search.now.query in
    scanned_long q.text.now q.n q.pattern.m a.search.now.cells.now a.s.0 (omega arith) (56 + 16 * (c.loop-round.round + 1)) 0 (omega arith) (omega arith) (omega arith) (omega arith)
    (λ h. omega (arith, ones-ones 0)) (rw c.if-f-eq0.true at (left (goal.at.returns-then-f-eq0 c).After-keep8-f-in-loop-round))

pub returns-then-f-lt2 : goal.returns-then-f-lt2
returns-then-f-lt2 c =
    let a = c.args in
    let q = a.search.now.query in
    scanned_long q.text.now q.n q.pattern.m a.search.now.cells.now a.s.0 (omega arith) (56 + 16 * (c.loop-round.round + 1)) c.keep8-f-in-loop-round.result (omega arith) (omega arith) (omega arith) (omega arith)
    (λ h. c.if-f-lt2.true) (left (goal.at.returns-then-f-lt2 c).After-keep8-f-in-loop-round)

pub loop-round-preserved : goal.loop-round-preserved
loop-round-preserved c = left (goal.at.loop-round-preserved c).After-keep8-f-in-loop-round

pub returns : goal.returns
returns c =
    let a = c.args in
    let q = a.search.now.query in
    let l = c.loop-round in
    scanned_long q.text.now q.n q.pattern.m a.search.now.cells.now a.s.0 (omega arith) (56 + 16 * l.round) l.f (omega arith) (omega arith) (omega arith) (omega arith)
    (λ h. absurd (omega arith)) l.invariant
