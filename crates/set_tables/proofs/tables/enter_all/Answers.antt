use borrow.Author.Rules.{part_to_end}
use mathlib.Core.Path.{ap, ◌∙◌}
use mathlib.Core.List.{List}
use Prim.Native.Nat.{ℕ}
use native.Mathlib.Omega.{arith}
use lib.Bits.{bit_and}
use Rattle.bits.specs.Packed.{bits_at}
use Rattle.set_tables.specs.Parts.{lent}
use Rattle.set_tables.proofs.Entering.{entering_none, entering_more}
use Rattle.set_tables.proofs.tables.enter_all.Goals as goal

pub loop-i-init : goal.loop-i-init
loop-i-init c =
    let a = c.args in
    entering_none (lent a.patterns.now) a.rows.now a.halves.now c.requires.in_bounds.2

pub loop-i-preserved : goal.loop-i-preserved
loop-i-preserved c =
    let a = c.args in
    let l = c.loop-i in
    rw c.bytes_for.ensures
    (entering_more (lent a.patterns.now) a.rows.now a.halves.now c.requires.good_set l.i l.start l.rows l.halves
    l.invariant (omega arith) c.word_near_end-value.result _ c.front.result _ c.requires.in_bounds.0 (omega (arith, c.front.type_inv))
    (c.word_near_end-value.ensures ∙ ap (λ (t : List ℕ). bits_at t 0 64) (part_to_end a.patterns.now.bytes.now l.start))
    (ap (λ (z : ℕ). bit_and z c.front.result) (c.word_near_end.ensures ∙ ap (λ (t : List ℕ). bits_at t 0 64) (part_to_end a.patterns.now.fixed.now l.start)))
    c.front.ensures c.enter.ensures)
