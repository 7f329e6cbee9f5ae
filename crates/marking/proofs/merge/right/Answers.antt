use mathlib.Core.Path.{sym, ◌∙◌}
use mathlib.Core.Bool.{false≢true}
use native.Mathlib.Omega.{arith}
use native.Mathlib.Decide.{dec_lt}
use borrow.Author.Tests.{lt-ltb}
use lib.ListN.{length}
use Rattle.marking.proofs.Merging.{past_key, past_sheet}
use Rattle.marking.proofs.merge.right.Goals as goal

pub returns : goal.returns
returns c =
    let key = c.args.key.list.now in
    let sheet = c.args.sheet.list.now in
    let l = c.loop-merge in
    let m = l.merge in
    let counted = rw (l.invariant.0, l.invariant.1) at m.counted in
    elim (dec_lt m.i (length key)) [
      | yes h ↦
          elim (dec_lt m.j (length sheet)) [
            | yes k ↦ absurd (false≢true (sym c.loop-merge-test.false ∙ rw (lt-ltb m.i (length key) h, lt-ltb m.j (length sheet) k)))
            | no k ↦ omega (arith, counted, past_sheet key sheet m.i m.j (omega arith))
          ]
      | no h ↦ omega (arith, counted, past_key key sheet m.i m.j (omega arith))
    ]
