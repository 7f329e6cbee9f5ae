-- `matcher::wild::ending` meets its contract: a load of the last 64 bits, or of the first ones moved to the right.
-- Assumes nothing.
use mathlib.Core.Path.{◌≡◌, sym, ap, ◌∙◌}
use Prim.Native.Nat.{ℕ, ◌+◌, ◌-◌, ◌/◌, ◌^◌}
use native.Mathlib.Omega.{arith}
use Rattle.bits.specs.Packed.{weight}
use Rattle.bits.proofs.Weight.{weight_shr}
use Rattle.matcher.proofs.Lined.{ending_short, ending_long}
use Rattle.matcher.proofs.wild.ending.Goals as goal

-- moved to the right twice, so that all bits go where none is left
pub returns-then-left-lt64 : goal.returns-then-left-lt64
returns-then-left-lt64 c =
    let a = c.args in
    let x = c.word_at.result in
    let left = a.m - a.d in
    let there : (e : ℕ) → 63 - left + (1 + e) ≡ 64 - left + e = λ e. omega arith in
    λ e. weight_shr (x / 2 ^ (63 - left)) 1 e
    ∙ weight_shr x (63 - left) (1 + e)
    ∙ ap (weight x) (there e)
    ∙ sym (weight_shr x (64 - left) e)
    ∙ ap (λ (y : ℕ). weight (y / 2 ^ (64 - left)) e) c.word_at.ensures
    ∙ ending_short a.run.now a.m a.d (omega arith) e

pub returns : goal.returns
returns c =
    let a = c.args in
    λ e. ap (λ (x : ℕ). weight x e) c.word_at-2.ensures ∙ ending_long a.run.now a.m a.d (omega arith) e
