use mathlib.Core.Path.{◌≡◌, ap, ◌∙◌}
use Prim.Native.Nat.{◌+◌, ◌-◌, ◌*◌}
use mathlib.Core.Bool.{not}
use native.Mathlib.Omega.{arith}
use Rattle.matcher.proofs.Chunks.{bits_from, matches_from, none_passed, next_differs, next_agrees, last_decides}
use Rattle.matcher.proofs.query.Query.stands_inside.Goals as goal

pub bytes_for-requires : goal.bytes_for-requires
bytes_for-requires c = omega arith

pub overflow_sub-last : goal.overflow_sub-last
overflow_sub-last c = omega arith

pub loop-load-init : goal.loop-load-init
loop-load-init c = (none_passed _ _ _ _ _ (omega arith), omega arith)

pub place-requires : goal.place-requires
place-requires c = omega arith

pub overflow_add-at : goal.overflow_add-at
overflow_add-at c = omega arith

pub word_inside-x-requires : goal.word_inside-x-requires
word_inside-x-requires c = omega arith

pub eight_bytes-requires : goal.eight_bytes-requires
eight_bytes-requires c = omega arith

pub eight_bytes-requires-in-loop-load : goal.eight_bytes-requires-in-loop-load
eight_bytes-requires-in-loop-load c = omega arith

pub same_where-requires : goal.same_where-requires
same_where-requires c = omega arith

pub returns-then-not-same_where : goal.returns-then-not-same_where
returns-then-not-same_where c =
    next_differs _ _ _ _ _ (8 * c.loop-load.load * 8) (omega arith) (rw c.place.ensures at c.word_inside-x.ensures)
    c.eight_bytes.ensures c.eight_bytes-in-loop-load.ensures c.same_where.ensures (ap not c.if-not-same_where.true)
    ∙ matches_from _ _ _ _ _ (omega (arith, c.byte.ensures)) c.offset-at.ensures

pub loop-load-preserved : goal.loop-load-preserved
loop-load-preserved c =
    let l = c.loop-load in
    let next : 8 * (l.load + 1) * 8 ≡ 8 * l.load * 8 + 64 = omega arith in (
      rw next
          (next_agrees _ _ _ _ _ (8 * l.load * 8) (omega arith) (rw c.place.ensures at c.word_inside-x.ensures)
          c.eight_bytes.ensures c.eight_bytes-in-loop-load.ensures c.same_where.ensures l.invariant.0 (ap not c.if-not-same_where.false)),
      omega arith,
    )

pub place-from-requires : goal.place-from-requires
place-from-requires c = omega arith

pub word_inside-x-requires-2 : goal.word_inside-x-requires-2
word_inside-x-requires-2 c = omega arith

pub eight_bytes-requires-2 : goal.eight_bytes-requires-2
eight_bytes-requires-2 c = omega arith

pub eight_bytes-requires-3 : goal.eight_bytes-requires-3
eight_bytes-requires-3 c = omega arith

pub overflow_sub-m : goal.overflow_sub-m
overflow_sub-m c = omega arith

pub same_where-requires-2 : goal.same_where-requires-2
same_where-requires-2 c = omega arith

pub returns : goal.returns
returns c =
    let l = c.loop-load in
    let from = c.place-from.result.0 in
    let is = c.place-from.ensures in
    let back : c.args.self.now.pattern.m - (c.args.self.now.pattern.m - from) ≡ from = omega arith in
    last_decides _ _ _ _ _ (8 * l.load * 8) (c.args.self.now.pattern.m - from) l.invariant.0 (omega arith) (omega arith) (omega arith)
    (rw (back, is) (c.word_inside-x-2.ensures ∙ bits_from _ _ _ 64)) (rw (back, is) c.eight_bytes-2.ensures) (rw (back, is) c.eight_bytes-3.ensures) c.same_where-2.ensures
    ∙ matches_from _ _ _ _ _ (omega (arith, c.byte.ensures)) c.offset-at.ensures
