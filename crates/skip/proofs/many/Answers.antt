use Rattle.std.proofs.Common.{true, false, ◌*◌, ◌≤◌, ◌<◌, ◌∙◌, length, arith}
use native.Mathlib.Nat.{mul_comm}
use Rattle.bits.specs.Packed.{Packed}
use Rattle.rules.specs.declared.Method.TheVariants.{Skip}
use Rattle.rules.specs.Pattern.{Pattern}
use Rattle.rules.specs.Occurrence.{places}
use Rattle.matcher.specs.Asked.{text_in, pattern_in}
use Rattle.matcher.proofs.Writing.{writing_length}
use Rattle.matcher.proofs.Advancing.{advanced_none, advanced_join}
use Rattle.matcher.proofs.Rest.{advanced_rest}
use Rattle.skip.proofs.SkipPlaces.{byte_from, next_byte}
use Rattle.skip.proofs.SkipSizes.{long_enough}
use Rattle.skip.proofs.SkipStep.{below_end, mark_from, turn_quiet, top_odd}
use Rattle.skip.proofs.many.Given.{Over}
use Rattle.skip.proofs.many.Goals as goal
use Rattle.skip.proofs.many.Goals.{At-loop-b, In-loop-b, Start}

-- text and pattern
abbrev text : (g : Over) → Start g → Packed
text g c = text_in c.args.by.now.search.now.query

abbrev pattern : (g : Over) → Start g → Pattern
pattern g c = pattern_in c.args.by.now.search.now.query

long : (g : Over) (c : Start g) → 15 ≤ c.args.by.now.search.now.query.pattern.m
long g c = long_enough _ _ _ c.args.by.now.search.now.ready

-- all places of the turn lie below E
due : (g : Over) (c : In-loop-b g) → 8 * c.loop-b.b.0 < places (text_in c.args.by.now.search.now.query) (pattern_in c.args.by.now.search.now.query)
due g c = below_end _ _ _ c.args.by.now.search.now.ready.inside (rw (c.place.ensures ∙ mul_comm _ 8) at c.loop-b-test.true)

-- the list has the cells that are written
written : (g : Over) (c : At-loop-b g) → c.loop-b.hits ≤ length c.loop-b.list
written g c =
    let u = c.loop-b.invariant.2.writing in
    let size = writing_length _ _ _ _ _ u in
    omega (arith, size, u.fits)

pub quiet-requires : goal.quiet-requires
quiet-requires g c =
    let l = c.loop-b in
    let q = c.args.by.now.search.now.query in
    (byte_from l.at q.n q.pattern.m l.b.0 (long g (goal.at.quiet-requires g c).Start) l.invariant.1 l.invariant.0, due g (goal.at.quiet-requires g c).In-loop-b)

pub run-requires : goal.run-requires
run-requires g c =
    record {
      s_bound = (c.loop-b.invariant.0, omega (arith, c.if-steps-budget.true));
      inside = rw c.loop-b.invariant.1 at (due g (goal.at.run-requires g c).In-loop-b);
    }

pub returns-in-Err : goal.returns-in-Err
returns-in-Err g c =
    let a = c.args in
    let l = c.loop-b in
    let s = (goal.at.returns-in-Err g c).Start in
    let t = text g s in
    let w = pattern g s in
    let fits = written g (goal.at.returns-in-Err g c).At-loop-b in
    let more = advanced_rest l.list l.hits fits Skip t w _ _ _ true c.run.new.list _ _ c.in-Err.ensures.advanced in
    rw (c.after.ensures.0, c.after.ensures.1, c.after.ensures.2)
    (advanced_join Skip t w a.s.0 a.budget a.list.now 0 l.at l.steps l.hits l.list _ _ _ true _ (omega arith) l.invariant.2 more)

pub loop-b-preserved : goal.loop-b-preserved
loop-b-preserved g c =
    let a = c.args in
    let l = c.loop-b in
    let s = (goal.at.loop-b-preserved g c).Start in
    let t = text g s in
    let w = pattern g s in
    let fits = written g (goal.at.loop-b-preserved g c).At-loop-b in
    let more = advanced_rest l.list l.hits fits Skip t w _ _ _ false c.run.new.list _ _ c.in-Ok.ensures.advanced in (
      c.in-Ok.ensures.onward.0,
      c.last_byte-b-in-Ok.ensures,
      advanced_join Skip t w a.s.0 a.budget a.list.now 0 l.at l.steps l.hits l.list _ _ _ false _ (omega arith) l.invariant.2 more,
    )

pub loop-b-preserved-then-quiet : goal.loop-b-preserved-then-quiet
loop-b-preserved-then-quiet g c =
    let a = c.args in
    let l = c.loop-b in
    let s = (goal.at.loop-b-preserved-then-quiet g c).Start in
    let t = text g s in
    let w = pattern g s in
    let top = c.place_at-at.ensures in
    let from = mark_from t w l.at l.b.0 (long g s) l.invariant.0 l.invariant.1 in
    let fits = written g (goal.at.loop-b-preserved-then-quiet g c).At-loop-b in
    let none = rw from at (c.quiet.ensures c.if-quiet.true) in (
      top_odd l.b.0 _ top,
      next_byte l.b.0 a.by.now.search.now.query.pattern.m _ _ _ (long g s) c.indices.ensures c.byte-stride.ensures top,
      rw top
          (turn_quiet t w a.s.0 a.budget a.list.now 0 l.at l.steps l.hits l.list (omega arith) l.invariant.2 c.if-steps-budget.true (long g s) l.b.0 l.invariant.1
          (due g (goal.at.loop-b-preserved-then-quiet g c).In-loop-b) fits none),
    )

pub loop-b-init : goal.loop-b-init
loop-b-init g c =
    let a = c.args in
    let s = (goal.at.loop-b-init g c).Start in
    (c.requires.1, c.last_byte-b.ensures, advanced_none Skip (text g s) (pattern g s) a.s.0 a.budget a.list.now 0 (omega arith) c.requires.0)
