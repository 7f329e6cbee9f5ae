use mathlib.Core.Path.{◌≡◌}
use Prim.Native.Nat.{◌+◌, ◌*◌, ◌/◌, ◌%◌}
use native.Mathlib.Omega.{arith}
use Rattle.matcher.specs.Asked.{lent}
use Rattle.wide.proofs.WideTables.{before_none, filled_none}
use Rattle.wide.proofs.WideBytes.{enters_past, before_moved, filled_more}
use Rattle.wide.proofs.WideMatcher.prepare.Goals as goal

pub loop-byte-init : goal.loop-byte-init
loop-byte-init c =
    let w = lent c.args.pattern.now in
    record { made = filled_none w c.args.cells.now; zero = before_none w 0; one = before_none w 1 }

pub loop-byte-preserved : goal.loop-byte-preserved
loop-byte-preserved c =
    let w = lent c.args.pattern.now in
    let l = c.loop-byte in
    let i = l.invariant in
    let new = c.entering-new in
    let q = 8 * l.byte in
    let there : c.place-q.result.0 ≡ 8 * l.byte = omega (arith, c.place-q.ensures) in
    let zero = rw there at new.ensures.0 in
    let one = rw there at new.ensures.1 in
    let next : 8 * l.byte + 8 ≡ 8 * (l.byte + 1) = omega arith in
    record {
      made = rw next at
          (filled_more w c.args.cells.now l.cells c.enter.new.cells q 8 l.flags.zero l.flags.one new.result.zero new.result.one i.made (rw there at c.enter.ensures)
          (omega arith) (omega arith) i.zero i.one zero one);
      zero = rw next at (before_moved w 0 q l.flags.zero new.result.zero i.zero zero);
      one = rw next at (before_moved w 1 q l.flags.one new.result.one i.one one);
    }

pub returns : goal.returns
returns c =
    let w = lent c.args.pattern.now in
    let l = c.loop-byte in
    let i = l.invariant in
    let q = (w.count + 63) / 8 * 8 in
    let here : 8 * l.byte ≡ (w.count + 63) / 8 * 8 = omega (arith, c.byte-whole.ensures) in
    let start : c.place.result.0 ≡ q = omega (arith, c.place.ensures, c.byte-whole.ensures) in
    let f
    = filled_more w c.args.cells.now l.cells c.enter-2.new.cells q ((w.count + 63) % 8) l.flags.zero l.flags.one 255 255 (rw here at i.made) (rw (start, c.offset-rest.ensures) at c.enter-2.ensures)
    (omega arith) (omega arith) (rw here at i.zero) (rw here at i.one) (enters_past w 0 q (omega arith)) (enters_past w 1 q (omega arith)) in
    record {
      tables = record { flags_are = λ q b i u v h. f.flags q b i (omega arith) v h };
      size = f.size;
      rest = f.after;
    }
