use Rattle.std.proofs.Common.{ℕ, append_assoc, append-nil, sym, ◌∙◌, ap, arith, length, length-append}
use Rattle.lines.specs.Line.{numbers}
use Rattle.lines.proofs.Appending.{numbers_more}
use Rattle.lines.proofs.line.put_numbers.Goals as goal

pub loop-n-init : goal.loop-n-init
unfolding numbers
loop-n-init g c = record { appended = sym (append-nil _); short = omega arith }

pub loop-n-preserved : goal.loop-n-preserved
loop-n-preserved g c =
    let more = numbers_more c.args.list.now c.loop-n.n-index (omega arith) (omega (arith, c.type_inv.list c.loop-n.n-index)) in
    let text = c.as_bytes.ensures.value ∙ c.format.ensures.text in
    let item = c.put.ensures in
    let space = c.push.ensures.items in
    record {
      appended = rw (item, text, space, c.loop-n.invariant.appended, ← more) (simp append_assoc);
      short = omega (arith, c.format.ensures.fits, ap length item, ap length space, length-append {A = ℕ});
    }
