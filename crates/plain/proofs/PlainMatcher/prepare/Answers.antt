use Prim.Native.Nat.{ℕ, ◌*◌}
use native.Mathlib.Omega.{arith}
use mathlib.Core.Path.{◌≡◌, ap, ◌∙◌}
use Rattle.bits.specs.Packed.{bits_at}
use Rattle.matcher.specs.Tables.{row_chunks}
use Rattle.matcher.specs.Asked.{lent}
use Rattle.plain.proofs.RowsMade.{made_none, mask_holds, row_holds, made_more, made_all}
use Rattle.plain.proofs.PlainMatcher.prepare.Goals as goal

pub loop-k-init : goal.loop-k-init
loop-k-init c = let a = c.args in made_none (lent a.pattern.now) a.cells.now

pub loop-k-preserved : goal.loop-k-preserved
loop-k-preserved c =
    let a = c.args in
    let l = c.loop-k in
    let w = lent a.pattern.now in
    let there : c.byte-b.result.0 * 8 ≡ 64 * l.k = omega (arith, c.byte-b.ensures) in
    let second = c.word_near_end.ensures ∙ ap (λ (p : ℕ). bits_at w.fixed p 64) there in
    let first = c.word_near_end-in-loop-k.ensures ∙ ap (λ (p : ℕ). bits_at w.bytes p 64) there in
    let ms = mask_holds w l.k _ _ c.ones.ensures second in
    made_more w l.k l.prev l.prev_mask _ _ a.cells.now l.cells _ l.invariant c.fill.ensures ms (row_holds w l.k _ _ ms first)

pub returns : goal.returns
returns c =
    let a = c.args in
    let l = c.loop-k in
    let whole : row_chunks a.pattern.now.m ≡ l.k = omega (arith, c.row_chunks-k-end.ensures) in
    made_all (lent a.pattern.now) l.k _ _ a.cells.now l.cells l.invariant c.requires.good_pattern.some_bits whole
