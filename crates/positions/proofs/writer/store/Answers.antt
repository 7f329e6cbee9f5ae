use Prim.Native.Nat.{◌+◌, ◌-◌}
use mathlib.Core.Path.{refl, sym, ap, ◌∙◌}
use native.Mathlib.Omega.{arith}
use lib.ListN.{length, drop, get_or}
use lib.Seq.{sets}
use Rattle.positions.specs.Rising.{rising}
use Rattle.positions.specs.Encode.{encode_number, encode_from, encode}
use Rattle.positions.proofs.Stores.{sets_append}
use Rattle.positions.proofs.Rising.{rises_length, taken_here, encode_here, size_here, encode_end, size_list}
use Rattle.positions.proofs.writer.store.Goals as goal

pub overflow_cast-list : goal.overflow_cast-list
unfolding rising
overflow_cast-list c = omega (arith, rises_length 0 c.args.list.now (omega arith) c.requires.list_rises)

pub put-at-requires : goal.put-at-requires
put-at-requires c = omega (arith, size_list c.args.list.now, c.requires.file_fits)

pub loop-p-init : goal.loop-p-init
unfolding rising
loop-p-init c =
    let put = c.put-at in
    (c.requires.list_rises, refl, omega (arith, size_list c.args.list.now, c.requires.file_fits, put.ensures, put.auto.target))

pub overflow_sub-p : goal.overflow_sub-p
overflow_sub-p c = (taken_here c.args.list.now c.loop-p.p-index c.loop-p-test.true c.loop-p.next c.loop-p.invariant.0).0

pub put-at-requires-in-loop-p : goal.put-at-requires-in-loop-p
put-at-requires-in-loop-p c = omega (arith, size_here c.args.list.now c.loop-p.p-index c.loop-p-test.true c.loop-p.next, c.loop-p.invariant.2)

pub overflow_add-next : goal.overflow_add-next
overflow_add-next c = omega (arith, (taken_here c.args.list.now c.loop-p.p-index c.loop-p-test.true c.loop-p.next c.loop-p.invariant.0).1)

pub loop-p-preserved : goal.loop-p-preserved
loop-p-preserved c =
    let list = c.args.list.now in
    let l = c.loop-p in
    let i = l.p-index in
    let inside = c.loop-p-test.true in
    let put = c.put-at-in-loop-p in
    let n = get_or list i 0 - l.next in
    let rest = encode_from (get_or list i 0 + 1) (drop (i + 1) list) in (
      (taken_here list i inside l.next l.invariant.0).2,
      (λ j. sets (put.ensures.stored j) (put.ensures.next j) rest)
          ∙ sym (sets_append (encode_number n) rest l.target l.at)
          ∙ sym (ap (sets l.target l.at) (encode_here list i inside l.next))
          ∙ l.invariant.1,
      omega (arith, size_here list i inside l.next, put.ensures.next, put.auto.target, l.invariant.2),
    )

pub returns : goal.returns
unfolding encode
returns c =
    let a = c.args in
    let list = a.list.now in
    let l = c.loop-p in
    let put = c.put-at in
    sym (ap (sets l.target l.at) (encode_end list l.p-index c.loop-p-test.false l.next))
    ∙ l.invariant.1
    ∙ (λ j. sets (put.ensures.stored j) (put.ensures.next j) (encode_from 0 list))
    ∙ sym (sets_append (encode_number (length list)) (encode_from 0 list) a.target.now 0)
