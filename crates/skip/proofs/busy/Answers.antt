use Rattle.std.proofs.Common.{◌≡◌, true, false, ◌+◌, ◌-◌, ◌*◌, ◌≤◌, ◌<◌, sym, ◌∙◌, length, arith}
use native.Mathlib.Nat.{mul_comm}
use Rattle.bits.specs.Packed.{Packed}
use Rattle.rules.specs.declared.Method.TheVariants.{Skip}
use Rattle.rules.specs.Pattern.{Pattern}
use Rattle.rules.specs.Occurrence.{places}
use Rattle.rules.specs.Skip.{last_byte}
use Rattle.matcher.specs.Tables.{chained}
use Rattle.matcher.specs.Asked.{text_in, pattern_in}
use Rattle.matcher.specs.Progress.{Advanced}
use Rattle.matcher.proofs.Writing.{writing_length}
use Rattle.matcher.proofs.Advancing.{advanced_none, advanced_step}
use Rattle.matcher.proofs.Rest.{stepped_rest, with_rest}
use Rattle.skip.proofs.SkipPlaces.{byte_from, mark_byte, next_byte}
use Rattle.skip.proofs.SkipSizes.{long_enough}
use Rattle.skip.proofs.SkipStep.{below_end, mark_from, mark_below, turn_whole, top_odd}
use Rattle.skip.proofs.busy.Given.{Over}
use Rattle.skip.proofs.busy.Goals as goal
use Rattle.skip.proofs.busy.Goals.{At-loop-one, In-Ok, Start}

-- text and pattern
abbrev text : (g : Over) → Start g → Packed
text g c = text_in c.args.by.now.search.now.query

abbrev pattern : (g : Over) → Start g → Pattern
pattern g c = pattern_in c.args.by.now.search.now.query

long : (g : Over) (c : Start g) → 15 ≤ c.args.by.now.search.now.query.pattern.m
long g c = long_enough _ _ _ c.args.by.now.search.now.ready

-- the list has the cells that are written
written : (g : Over) (c : At-loop-one g) → c.loop-one.hits ≤ length c.loop-one.list
written g c =
    let u = c.loop-one.invariant.3.writing in
    let size = writing_length _ _ _ _ _ u in
    omega (arith, size, u.fits)

-- b is the last byte of the mark
last_is : (g : Over) (c : At-loop-one g) → c.loop-one.b.0 ≡ last_byte (pattern_in c.args.by.now.search.now.query) (8 * c.loop-one.b.0 + 1 - chained c.args.by.now.search.now.query.pattern.m)
last_is g c = sym (mark_byte c.loop-one.b.0 c.args.by.now.search.now.query.pattern.m c.loop-one.invariant.0 (long_enough _ _ _ c.args.by.now.search.now.ready))

pub loop-one-init : goal.loop-one-init
loop-one-init g c =
    let a = c.args in
    let s = (goal.at.loop-one-init g c).Start in
    let t = text g s in
    let w = pattern g s in
    let q = a.by.now.search.now.query in
    let b = c.last_byte-b.result.0 in
    let inside : 8 * b < places t w = rw c.last_byte-b.ensures c.requires.inside in
    let from = mark_from t w a.s.0 b (long g s) c.requires.s_bound.0 c.last_byte-b.ensures in
    let due = mark_below t w a.s.0 b (long g s) c.last_byte-b.ensures inside in (
      byte_from a.s.0 q.n q.pattern.m b (long g s) c.last_byte-b.ensures c.requires.s_bound.0,
      inside,
      c.requires.s_bound.1,
      rw from (advanced_none Skip t w a.s.0 a.budget a.list.now 0 (omega arith) (omega (arith, due))),
    )

pub returns-in-Err-clause-advanced : goal.returns-in-Err-clause-advanced
returns-in-Err-clause-advanced g c =
    let a = c.args in
    let l = c.loop-one in
    let s = (goal.at.returns-in-Err-clause-advanced g c).Start in
    let t = text g s in
    let w = pattern g s in
    let fits = written g (goal.at.returns-in-Err-clause-advanced g c).At-loop-one in
    let last = last_is g (goal.at.returns-in-Err-clause-advanced g c).At-loop-one in
    let one = stepped_rest l.list l.hits fits Skip t w _ _ _ true c.step.new.list c.in-Err.ensures.0 in
    let same : c.after.result.0.steps ≡ l.steps = omega (arith, c.after.ensures.1, c.in-Err.ensures.1) in
    rw (c.after.ensures.0, same, c.after.ensures.2)
    (advanced_step Skip t w a.s.0 a.budget a.list.now 0 _ l.steps l.hits l.list (omega arith) l.invariant.3 _ _ true _
    (mark_below t w _ l.b.0 (long g s) last l.invariant.1) l.invariant.2 one)

-- the step is made and written
made : (g : Over) (c : In-Ok g) (fits : c.loop-one.hits ≤ length c.loop-one.list)
    → Advanced Skip (text_in c.args.by.now.search.now.query) (pattern_in c.args.by.now.search.now.query) c.args.s.0 c.args.budget c.args.list.now 0 (8 * c.loop-one.b.0 + 1)
    (c.loop-one.steps + 1) (c.loop-one.hits + c.in-Ok.one.hits) false (with_rest c.loop-one.list c.loop-one.hits fits c.step.new.list)
made g c fits =
    let a = c.args in
    let l = c.loop-one in
    let t = text_in a.by.now.search.now.query in
    let w = pattern_in a.by.now.search.now.query in
    let long = long_enough _ _ _ a.by.now.search.now.ready in
    let one = stepped_rest l.list l.hits fits Skip t w _ _ _ false c.step.new.list c.in-Ok.ensures.0 in
    let last = sym (mark_byte l.b.0 a.by.now.search.now.query.pattern.m l.invariant.0 long) in
    turn_whole t w a.s.0 a.budget a.list.now 0 _ l.steps l.hits l.list (omega arith) l.invariant.3 l.invariant.2 long l.b.0 last
    l.invariant.1 _ _ _ one

pub returns-then-end-place-clause-advanced : goal.returns-then-end-place-clause-advanced
returns-then-end-place-clause-advanced g c =
    let p = goal.at.returns-then-end-place-clause-advanced g c in
    rw c.place_at-at.ensures (made g p.In-Ok (written g p.At-loop-one))

pub loop-one-preserved : goal.loop-one-preserved
loop-one-preserved g c =
    let a = c.args in
    let l = c.loop-one in
    let s = (goal.at.loop-one-preserved g c).Start in
    let t = text g s in
    let w = pattern g s in
    let q = a.by.now.search.now.query in
    let top = c.place_at-at.ensures in
    let odd = top_odd l.b.0 _ top in
    let next = next_byte l.b.0 q.pattern.m _ _ _ (long g s) c.indices.ensures c.byte-stride.ensures top in
    let from = mark_from t w _ (l.b.0 + c.byte-stride.result.0) (long g s) odd next in
    let before : c.place.result.0 < q.n - q.pattern.m + 1 = omega (arith, c.if-end-place.false) in (
      byte_from _ q.n q.pattern.m (l.b.0 + c.byte-stride.result.0) (long g s) next odd,
      below_end _ _ _ c.args.by.now.search.now.ready.inside (rw (c.place.ensures ∙ mul_comm _ 8) at before),
      omega (arith, c.if-budget-steps.false),
      rw (from ∙ top) (made g (goal.at.loop-one-preserved g c).In-Ok (written g (goal.at.loop-one-preserved g c).At-loop-one)),
    )
