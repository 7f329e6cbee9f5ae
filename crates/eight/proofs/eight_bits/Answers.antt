-- `eight::eight_bits` meets its contract: of a text that is not refused, the byte and the count are those that `eight_at` shows.
-- Assumes nothing.
use mathlib.Core.Path.{sym, ◌∙◌, ap}
use Prim.Native.Nat.{ℕ, ◌+◌, ◌-◌, ◌*◌, ◌^◌, ◌≤◌}
use native.Mathlib.Omega.{arith}
use native.Mathlib.Nat.{mul-one}
use Rattle.bits.specs.Packed.{Packed, bits_at}
use Rattle.eight.proofs.ShownByte.{byte_load, byte_inside}
use Rattle.eight.proofs.ReadClaims.{tells}
use Rattle.eight.proofs.eight_bits.Goals as goal

pub returns-then-end-n : goal.returns-then-end-n
returns-then-end-n c =
    let a = c.args in
    let t : Packed = record { bytes = a.bytes.now; count = a.n } in
    let inside : a.p.0 + 8 ≤ a.n = omega (arith, c.from-end.ensures) in
    tells t a.p.0 c.in_ok-judge.ensures (c.first_bits.ensures ∙ mul-one _ ∙ sym (byte_inside t a.p.0 inside)) (omega arith)

pub returns : goal.returns
returns c =
    let a = c.args in
    let t : Packed = record { bytes = a.bytes.now; count = a.n } in
    tells t a.p.0 c.in_ok-judge.ensures
    (c.first_bits-2.ensures ∙ ap (λ (k : ℕ). bits_at a.bytes.now a.p.0 k * 2 ^ (8 - k)) (omega (arith, c.from-end.ensures)) ∙ sym (byte_load t a.p.0))
    (omega (arith, c.from-end.ensures))
