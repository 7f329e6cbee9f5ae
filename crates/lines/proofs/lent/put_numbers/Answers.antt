use Rattle.std.proofs.Common.{length, ap, ◌∙◌, arith}
use Rattle.lines.specs.Line.{numbers}
use Rattle.lines.proofs.Appending.{numbers_more}
use Rattle.lines.proofs.Putting.{puts_none, puts_as, puts_then}
use Rattle.lines.proofs.lent.put_numbers.Goals as goal

pub loop-n-init : goal.loop-n-init
unfolding numbers
loop-n-init c = record { stored = puts_none _ _; short = omega arith }

pub loop-n-preserved : goal.loop-n-preserved
loop-n-preserved c =
    let l = c.loop-n in
    let more = numbers_more c.args.list.now l.n-index (omega arith) (omega (arith, c.type_inv.list l.n-index)) in
    let text = c.as_bytes.ensures.value ∙ c.format.ensures.text in
    record {
      stored = puts_as more (puts_then l.invariant.stored (puts_then c.put-after.ensures (puts_as text c.put-at.ensures)));
      short = omega (arith, c.format.ensures.fits, ap length c.as_bytes.ensures.value);
    }
