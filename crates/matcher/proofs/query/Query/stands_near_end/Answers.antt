use mathlib.Core.Path.{◌≡◌, ap, ◌∙◌}
use Prim.Native.Nat.{◌+◌, ◌*◌}
use mathlib.Core.Bool.{not}
use native.Mathlib.Omega.{arith}
use Rattle.matcher.proofs.Chunks.{matches_from, one_load, none_passed, next_differs, next_agrees, last_decides}
use Rattle.matcher.proofs.query.Query.stands_near_end.Goals as goal

pub returns-then-m-le64 : goal.returns-then-m-le64
returns-then-m-le64 c =
    one_load _ _ _ _ _ (omega arith) c.word_at.ensures c.word_at-then-m-le64.ensures
    c.word_at-then-m-le64-2.ensures c.same_where.ensures

pub loop-load-init : goal.loop-load-init
loop-load-init c = none_passed _ _ _ _ _ (omega arith)

pub overflow_add-at : goal.overflow_add-at
overflow_add-at c = omega arith

pub returns-then-not-same_where : goal.returns-then-not-same_where
returns-then-not-same_where c =
    let l = c.loop-load in
    let whole : c.byte-here.result.0 * 8 ≡ 64 * l.load = omega (arith, c.byte-here.ensures) in
    next_differs _ _ _ _ _ (64 * l.load) (omega arith) c.word_at-x.ensures (rw whole at c.word_at_byte.ensures)
    (rw whole at c.word_at_byte-in-loop-load.ensures) c.same_where-in-loop-load.ensures (ap not c.if-not-same_where.true)
    ∙ matches_from _ _ _ _ _ (omega (arith, c.byte.ensures)) c.offset-at.ensures

pub loop-load-preserved : goal.loop-load-preserved
loop-load-preserved c =
    let l = c.loop-load in
    let whole : c.byte-here.result.0 * 8 ≡ 64 * l.load = omega (arith, c.byte-here.ensures) in
    let next : 64 * (l.load + 1) ≡ 64 * l.load + 64 = omega arith in
    rw next
    (next_agrees _ _ _ _ _ (64 * l.load) (omega arith) c.word_at-x.ensures (rw whole at c.word_at_byte.ensures)
    (rw whole at c.word_at_byte-in-loop-load.ensures) c.same_where-in-loop-load.ensures l.invariant (ap not c.if-not-same_where.false))

pub overflow_sub-last : goal.overflow_sub-last
overflow_sub-last c = omega arith

pub overflow_sub-m : goal.overflow_sub-m
overflow_sub-m c = omega arith

pub overflow_add-at-2 : goal.overflow_add-at-2
overflow_add-at-2 c = omega arith

pub returns : goal.returns
returns c =
    let l = c.loop-load in
    last_decides _ _ _ _ _ (64 * l.load) 64 l.invariant (omega arith) (omega arith) (omega arith) c.word_at-x-2.ensures
    c.word_at-2.ensures c.word_at-3.ensures c.same_where-2.ensures
    ∙ matches_from _ _ _ _ _ (omega (arith, c.byte.ensures)) c.offset-at.ensures
