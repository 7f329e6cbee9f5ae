use mathlib.Core.Path.{◌≡◌, sym, ap, ◌∙◌}
use mathlib.Core.Bool.{true≢false}
use Prim.Native.Nat.{ℕ, ◌+◌, ◌-◌, ◌*◌, ◌/◌}
use native.Mathlib.Omega.{arith}
use Rattle.bits.specs.Packed.{bits_at}
use Rattle.matcher.specs.Asked.{lent}
use Rattle.matcher.proofs.AllFixed.{fixed_more, fixed_load, fixed_last}
use Rattle.matcher.proofs.wild.all_fixed.Goals as goal
use Rattle.matcher.proofs.wild.all_fixed.Goals.{After-word_at_byte}

-- the load of a turn
load : (c : After-word_at_byte)
    → let a = c.args in
    c.word_at_byte.result ≡ bits_at a.pattern.now.fixed.now (64 * c.loop-load.load) 64
load c =
    let a = c.args in
    let o = 64 * c.loop-load.load in
    let there : c.byte.result.0 * 8 ≡ o = omega (arith, c.byte.ensures) in
    c.word_at_byte.ensures ∙ ap (λ (n : ℕ). bits_at a.pattern.now.fixed.now n 64) there

pub loop-load-init : goal.loop-load-init
loop-load-init c = λ j l. absurd (omega arith)

pub returns-then-word_at_byte : goal.returns-then-word_at_byte
returns-then-word_at_byte c =
    let a = c.args in
    let o = 64 * c.loop-load.load in (
      λ e. absurd (true≢false (sym e)),
      λ f. absurd (c.if-word_at_byte.true (load (goal.at.returns-then-word_at_byte c).After-word_at_byte ∙ fixed_load (lent a.pattern.now) o 64 f (omega arith))),
    )

pub loop-load-preserved : goal.loop-load-preserved
loop-load-preserved c =
    let a = c.args in
    let l = c.loop-load in
    let next : 64 * (l.load + 1) ≡ 64 * l.load + 64 = omega arith in
    rw next (fixed_more (lent a.pattern.now) (64 * l.load) 64 l.invariant (sym (load (goal.at.loop-load-preserved c).After-word_at_byte) ∙ c.if-word_at_byte.false))

pub returns : goal.returns
returns c =
    let a = c.args in
    let l = c.loop-load in
    let last : l.load ≡ (a.pattern.now.m - 1) / 64 = omega arith in
    let there : c.byte-2.result.0 * 8 ≡ 64 * ((a.pattern.now.m - 1) / 64) = omega (arith, c.byte-2.ensures) in
    fixed_last (lent a.pattern.now) (64 * ((a.pattern.now.m - 1) / 64)) (rw last at l.invariant) (omega arith) (omega arith)
    (c.word_near_end.ensures ∙ ap (λ (n : ℕ). bits_at a.pattern.now.fixed.now n 64) there)
