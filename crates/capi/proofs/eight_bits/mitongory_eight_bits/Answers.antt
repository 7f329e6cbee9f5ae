-- `capi::eight_bits::mitongory_eight_bits` meets its contract: few answer cells refuse, else the answer is that of `eight::eight_bits`.
-- Assumes nothing.
use mathlib.Core.Path.{refl, ap}
use native.Mathlib.Omega.{arith}
use Rattle.capi.specs.EightBits.{eight_tells, eight_told}
use Rattle.capi.proofs.Calling.{none_told, refusal_told, number_told}
use Rattle.capi.proofs.eight_bits.mitongory_eight_bits.Goals as goal

pub returns-then-answer-lt2 : goal.returns-then-answer-lt2
unfolding eight_told
returns-then-answer-lt2 c = none_told (λ v. v) _ _ _ (omega arith) refl

pub returns-in-Ok : goal.returns-in-Ok
unfolding eight_told
returns-in-Ok c =
    let told = rw c.in-Ok.is at c.eight_bits-found.ensures in
    number_told (λ v. v) _ _ _ (omega arith) (ap eight_tells told) c.two.ensures

pub returns-in-Err : goal.returns-in-Err
unfolding eight_told
returns-in-Err c =
    let told = rw c.in-Err.is at c.eight_bits-found.ensures in
    refusal_told (λ v. v) _ _ _ (omega arith) (ap eight_tells told) c.number.ensures
