use Rattle.std.proofs.Common.{◌≡◌, get_or, refl, ap, ◌∙◌, arith}
use Rattle.std.specs.Option.{unwrap_or}
use Rattle.lines.specs.Packing.{bits_from}
use Rattle.lines.proofs.Bits.{chars_byte, chars_more}
use Rattle.lines.proofs.pack.byte.Goals as goal

pub loop-k-init : goal.loop-k-init
unfolding bits_from
loop-k-init c = refl

pub overflow_mul-x : goal.overflow_mul-x
overflow_mul-x c = omega (arith, chars_byte c.args.chars.now c.loop-k.k (omega arith), c.loop-k.invariant)

pub overflow_add-x : goal.overflow_add-x
overflow_add-x c = omega (arith, chars_byte c.args.chars.now c.loop-k.k (omega arith), c.loop-k.invariant)

pub loop-k-preserved : goal.loop-k-preserved
loop-k-preserved c =
    let k = c.loop-k.k in
    let char : c.unwrap_or.result ≡ get_or c.args.chars.now k 48 = c.unwrap_or.ensures ∙ ap (λ o. unwrap_or o 48) c.copied.ensures ∙ c.get.ensures.lookup.4 (omega arith) 48 in
    rw char (chars_more c.args.chars.now k c.loop-k.x c.loop-k.invariant)
