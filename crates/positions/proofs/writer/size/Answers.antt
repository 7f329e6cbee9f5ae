use Prim.Native.Nat.{◌+◌}
use mathlib.Core.Path.{◌≡◌, refl, sym, ap, ◌∙◌}
use mathlib.Core.Bool.{true}
use native.Mathlib.Omega.{arith}
use lib.ListN.{length}
use Rattle.positions.specs.Rising.{rising}
use Rattle.positions.specs.Encode.{encode}
use Rattle.positions.specs.Promise.{count}
use Rattle.positions.proofs.Rising.{low_here, large_here, on_here, size_here, rises_end, encode_end, size_list}
use Rattle.positions.proofs.Answers.{size_refused, size_counted}
use Rattle.positions.proofs.writer.size.Goals as goal

pub loop-p-init : goal.loop-p-init
unfolding rising
loop-p-init c = (refl, omega arith, omega arith, omega arith, omega arith)

pub returns-then-p-next : goal.returns-then-p-next
returns-then-p-next c =
    let list = c.args.list.now in
    let l = c.loop-p in
    sym (size_refused list (sym l.invariant.0 ∙ low_here list l.p-index c.loop-p-test.true l.next c.if-p-next.true))

pub returns-then-p-ge-LIMIT : goal.returns-then-p-ge-LIMIT
returns-then-p-ge-LIMIT c =
    let list = c.args.list.now in
    let l = c.loop-p in
    sym (size_refused list (sym l.invariant.0 ∙ large_here list l.p-index c.loop-p-test.true l.next c.if-p-ge-LIMIT.true))

pub loop-p-preserved : goal.loop-p-preserved
loop-p-preserved c =
    let list = c.args.list.now in
    let l = c.loop-p in
    let inside = c.loop-p-test.true in (
      sym (on_here list l.p-index inside l.next c.if-p-next.false c.if-p-ge-LIMIT.false) ∙ l.invariant.0,
      omega (arith, size_here list l.p-index inside l.next),
      omega arith,
      omega arith,
      omega arith,
    )

pub returns : goal.returns
returns c =
    let list = c.args.list.now in
    let l = c.loop-p in
    let past = c.loop-p-test.false in
    let rises : rising list ≡ true = sym l.invariant.0 ∙ rises_end list l.p-index past l.next in
    let none = ap length (encode_end list l.p-index past l.next) in
    let e : l.bytes + c.size.result ≡ length (encode list) = omega (arith, size_list list, none) in
    ap count e ∙ sym (size_counted list rises)
