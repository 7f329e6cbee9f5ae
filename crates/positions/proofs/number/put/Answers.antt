use Prim.Native.Nat.{ℕ, ◌+◌, ◌%◌, ◌/◌}
use mathlib.Core.Path.{sym, ap, ◌∙◌}
use mathlib.Core.List.{List}
use native.Mathlib.Omega.{arith}
use lib.Seq.{sets}
use Rattle.positions.specs.Encode.{encode_number}
use Rattle.positions.proofs.Groups.{one_byte, more_bytes, size_one, size_more, size_pos}
use Rattle.positions.proofs.Stores.{sets_cons}
use Rattle.positions.proofs.number.put.Goals as goal
use Rattle.positions.proofs.number.put.Goals.{Start}

pub put_byte-requires : goal.put_byte-requires
put_byte-requires c = omega (arith, size_pos c.loop-rest.rest, c.loop-rest.invariant, c.requires)

pub overflow_add-at : goal.overflow_add-at
overflow_add-at c = omega (arith, size_pos c.loop-rest.rest, c.loop-rest.invariant, (goal.at.overflow_add-at c).Start)

pub loop-rest-preserved : goal.loop-rest-preserved
loop-rest-preserved c =
    let l = c.loop-rest in
    let big = c.loop-rest-test.true in
    let put = c.put_byte in
    let groups = encode_number (l.rest / 128) in (
      put.auto.target ∙ l.invariant.0,
      omega (arith, size_more l.rest big, l.invariant.1),
      ap (λ (t : List ℕ). sets t (l.at + 1) groups) put.ensures
          ∙ sets_cons l.target l.at (l.rest % 128 + 128) groups
          ∙ sym (ap (sets l.target l.at) (more_bytes l.rest big))
          ∙ l.invariant.2,
    )

pub put_byte-requires-2 : goal.put_byte-requires-2
put_byte-requires-2 c = omega (arith, size_pos c.loop-rest.rest, c.loop-rest.invariant, c.requires)

pub overflow_add-result : goal.overflow_add-result
overflow_add-result c = omega (arith, size_pos c.loop-rest.rest, c.loop-rest.invariant, (goal.at.overflow_add-result c).Start)

pub shape_of-target : goal.shape_of-target
shape_of-target c = c.put_byte-2.auto.target ∙ c.loop-rest.invariant.0

pub returns : goal.returns
returns c =
    let l = c.loop-rest in
    let small = c.loop-rest-test.false in record { next = omega (arith, size_one l.rest small, l.invariant.1); stored = c.put_byte-2.ensures ∙ sym (ap (sets l.target l.at) (one_byte l.rest small)) ∙ l.invariant.2 }
