use Rattle.std.proofs.Common.{◌≡◌, ◌*◌, ◌++◌, ◌∷◌, [], length, length-drop, drop, min, map, refl, ap, ◌∙◌, sym, arith}
use Rattle.std.specs.Slice.Iter.{chunks_rest}
use Rattle.arrayvec.specs.ArrayVec.{array_vec_len}
use Rattle.lines.specs.Input.{bit_of}
use Rattle.lines.specs.Packing.{bits_from, bytes_from}
use Rattle.lines.proofs.Bits.{eight_more, bytes_more, bytes_all}
use Rattle.lines.proofs.pack.pack.Goals as goal

pub loop-eight-init : goal.loop-eight-init
unfolding bytes_from
loop-eight-init g c =
    let none = c.new-bytes.ensures in
    rw (c.into_iter-eight-iterator.ensures.into_iter_gives, none)
    (record { size = c.chunks-eight-items.ensures.size ∙ c.place-per_byte.ensures; left = c.chunks-eight-items.ensures.rest; packed = refl; few = omega arith })

pub loop-eight-preserved : goal.loop-eight-preserved
loop-eight-preserved g c =
    let l = c.loop-eight in
    let step = c.in-Some.ensures.steps in
    let rest = chunks_rest c.next.new.self in
    let split : drop (array_vec_len l.bytes * 8) c.args.chars.now ≡ c.in-Some.eight.now ++ rest = sym l.invariant.left ∙ step.1.0 in
    let size : length c.in-Some.eight.now ≡ min 8 (length (drop (array_vec_len l.bytes * 8) c.args.chars.now)) = cc in
    let more = eight_more c.args.chars.now c.in-Some.eight.now rest (array_vec_len l.bytes) split size in
    let bits = map bit_of c.args.chars.now in
    let b = array_vec_len l.bytes in
    let count = c.push.ensures.len in
    record {
      size = step.0 ∙ l.invariant.size;
      left = rw count more.0;
      packed = rw count
          (c.push.ensures.items ∙ ap (λ x. l.bytes.items ++ (x ∷ [])) (c.byte.ensures ∙ more.1) ∙ ap (λ xs. xs ++ (bits_from bits (b * 8) 8 ∷ [])) l.invariant.packed ∙ bytes_more bits b);
      few = omega (arith, count, step.1.2, ap length l.invariant.left, length-drop (b * 8) c.args.chars.now);
    }

pub returns : goal.returns
returns g c =
    let l = c.loop-eight in
    let b = array_vec_len l.bytes in
    let end = c.in-None.ensures.steps.1.0 in
    l.invariant.packed
    ∙ bytes_all c.args.chars.now b (omega (arith, end, l.invariant.few, ap length l.invariant.left, length-drop (b * 8) c.args.chars.now))
