use mathlib.Core.Path.{refl}
use Prim.Native.Nat.{◌+◌, ◌<◌}
use native.Mathlib.Omega.{arith}
use lib.Count.{count_trailing_zeros}
use Rattle.matcher.specs.Asked.{text_in, pattern_in}
use Rattle.wide.specs.Flags.{stop}
use Rattle.wide.proofs.WideFlags.{settling_none, settled, lowest, settling_miss, settling_hit, settling_full}
use Rattle.wide.proofs.settle.Goals as goal
use Rattle.wide.proofs.settle.Goals.{In-loop-f}

-- the lowest flag is that of a place before the step's last one
low : (c : In-loop-f)
    → let a = c.args in
    c.loop-f.at + count_trailing_zeros 64 c.loop-f.f < stop (text_in a.search.now.query) (pattern_in a.search.now.query) a.s.0
low c =
    let a = c.args in
    let l = c.loop-f in
    lowest (text_in a.search.now.query) (pattern_in a.search.now.query) a.s.0 a.list.now 0 (omega arith) l.list l.at l.f l.hits l.invariant c.loop-f-test.true

pub loop-f-init : goal.loop-f-init
loop-f-init c =
    let a = c.args in
    settling_none (text_in a.search.now.query) (pattern_in a.search.now.query) a.s.0 a.list.now 0 c.requires.inside a.flags c.requires.flagged (omega arith)

pub overflow_shr-f : goal.overflow_shr-f
overflow_shr-f c = omega (arith, low c, c.loop-f.invariant.from)

pub same-requires : goal.same-requires
same-requires c = omega (arith, low c, c.args.search.now.ready.few_bits)

pub returns-then-list-hits : goal.returns-then-list-hits
returns-then-list-hits c =
    let a = c.args in
    let l = c.loop-f in (
      settling_full (text_in a.search.now.query) (pattern_in a.search.now.query) a.s.0 a.list.now 0 c.requires.inside l.list l.at l.f l.hits l.invariant c.loop-f-test.true
          c.same.result c.same.ensures c.if-same.true (omega arith),
      refl,
    )

pub loop-f-smaller-then-same : goal.loop-f-smaller-then-same
loop-f-smaller-then-same c = omega (arith, low (goal.at.loop-f-smaller-then-same c).In-loop-f)

pub loop-f-preserved-then-same : goal.loop-f-preserved-then-same
loop-f-preserved-then-same c =
    let a = c.args in
    let l = c.loop-f in
    settling_hit (text_in a.search.now.query) (pattern_in a.search.now.query) a.s.0 a.list.now 0 c.requires.inside l.list l.at l.f l.hits l.invariant c.loop-f-test.true
    c.same.result c.same.ensures c.if-same.true (omega arith)

pub loop-f-smaller : goal.loop-f-smaller
loop-f-smaller c = omega (arith, low (goal.at.loop-f-smaller c).In-loop-f)

pub loop-f-preserved : goal.loop-f-preserved
loop-f-preserved c =
    let a = c.args in
    let l = c.loop-f in
    settling_miss (text_in a.search.now.query) (pattern_in a.search.now.query) a.s.0 a.list.now 0 c.requires.inside l.list l.at l.f l.hits l.invariant c.loop-f-test.true c.same.result c.same.ensures c.if-same.false

pub returns : goal.returns
returns c =
    let a = c.args in
    let l = c.loop-f in (
      settled (text_in a.search.now.query) (pattern_in a.search.now.query) a.s.0 a.list.now 0 c.requires.inside a.to.0 l.list l.at l.f l.hits l.invariant c.loop-f-test.false
          c.requires.to_value,
      refl,
    )
