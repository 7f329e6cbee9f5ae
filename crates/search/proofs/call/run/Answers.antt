use Rattle.std.proofs.Common.{◌≡◌, refl, ◌+◌, ◌≤◌, ◌<◌, true, false, length, arith}
use Rattle.matcher.specs.Asked.{text_in, pattern_in}
use Rattle.matcher.proofs.Writing.{writing_length}
use Rattle.matcher.proofs.Advancing.{advanced_none}
use Rattle.matcher.proofs.Rest.{stepped_rest}
use Rattle.search.proofs.Ending.{ran_to_end, ran_to_cut, turn, step_more, many_more}
use Rattle.search.proofs.call.run.Goals as goal

pub loop-at-init : goal.loop-at-init
loop-at-init g c =
    let t = text_in c.args.search.now.query in
    let w = pattern_in c.args.search.now.query in
    turn g.M.Rule.method t w _ _ _ _ _ _ _ (advanced_none g.M.Rule.method t w _ c.args.budget c.args.list.now 0 (omega arith) c.requires)

pub returns-in-Err : goal.returns-in-Err
returns-in-Err g c =
    let a = c.args in
    let l = c.loop-at in
    let fits : l.hits ≤ length l.list = omega (arith, writing_length _ 0 _ _ _ l.invariant.made.writing, l.invariant.made.writing.fits) in
    let one = c.in-Err.ensures in
    let e = c.after.ensures in
    let steps : c.after.result.0.steps ≡ l.steps = omega (arith, e.1, one.1) in
    rw (e.0, steps, e.2)
    (l.invariant.full _ _ _ true (stepped_rest l.list l.hits fits g.M.Rule.method (text_in a.search.now.query) (pattern_in a.search.now.query) l.at _ _ true _ one.0) refl
    (omega (arith, c.loop-at-test.true, a.search.now.ready.inside)) c.if-steps-budget.true)

pub advance-many-requires : goal.advance-many-requires
advance-many-requires g c =
    let l = c.loop-at in
    let i = c.args.search.now.ready.inside in
    (step_more _ _ _ _ _ _ l.list l.at l.steps l.hits l.invariant.made (omega arith) c.if-steps-budget.true _ _ _ c.in-Ok.ensures).inside refl

pub returns-in-Err-many : goal.returns-in-Err-many
returns-in-Err-many g c =
    let l = c.loop-at in
    let i = c.args.search.now.ready.inside in
    let e = c.after-in-Err-many.ensures in
    rw (e.0, e.1, e.2)
    (ran_to_cut _ _ _ _ _ _ _ _ _ _
    (many_more _ _ _ _ _ _ l.list l.at l.steps l.hits l.invariant.made (omega arith) c.if-steps-budget.true _ _ _ c.in-Ok.ensures
    _ _ _ _ true c.in-Err-many.ensures))

pub loop-at-preserved : goal.loop-at-preserved
loop-at-preserved g c =
    let l = c.loop-at in
    let i = c.args.search.now.ready.inside in
    turn _ _ _ _ _ _ _ _ _ _
    (many_more _ _ _ _ _ _ l.list l.at l.steps l.hits l.invariant.made (omega arith) c.if-steps-budget.true _ _ _ c.in-Ok.ensures
    _ _ _ _ false c.in-Ok-many.ensures)

pub returns-after-loop-at : goal.returns-after-loop-at
returns-after-loop-at g c =
    let a = c.args in
    let l = c.loop-at in
    ran_to_end g.M.Rule.method (text_in a.search.now.query) (pattern_in a.search.now.query) a.mark.at.0 a.budget a.list.now l.list l.at l.steps l.hits l.invariant.made
    (λ h. absurd (omega (arith, c.loop-at-test.false, a.search.now.ready.inside, h)))
