use Rattle.std.proofs.Common.{◌≡◌, ◌*◌, drop, map, ap, ◌∙◌, arith}
use Rattle.std.proofs.lemmas.List.{take_rest}
use Rattle.lines.specs.Input.{bit_of}
use Rattle.lines.specs.Packing.{bits_from}
use Rattle.lines.proofs.Bits.{filled_none, filled_more, filled_packs}
use Rattle.lines.proofs.lent.pack.Goals as goal

pub loop-b-init : goal.loop-b-init
loop-b-init c = filled_none c.args.chars.now c.args.out.now

pub loop-b-preserved : goal.loop-b-preserved
loop-b-preserved c =
    let l = c.loop-b in
    let chars = c.args.chars.now in
    let rest = take_rest chars c.place-first.result.0 ∙ ap (λ p. drop p chars) c.place-first.ensures in
    let x : c.byte.result ≡ bits_from (map bit_of (drop (l.b * 8) chars)) 0 8 = c.byte.ensures ∙ ap (λ xs. bits_from (map bit_of xs) 0 8) rest in
    filled_more chars c.args.out.now l.out l.b c.byte.result (omega arith) x l.invariant

pub returns : goal.returns
returns c =
    let l = c.loop-b in
    let n = c.bytes_for-count in
    let e : l.b ≡ n.result = omega arith in
    filled_packs c.args.chars.now c.args.out.now l.out n.result n.ensures (omega arith) (rw e at l.invariant)
