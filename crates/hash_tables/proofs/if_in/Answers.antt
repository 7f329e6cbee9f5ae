-- `hash_tables::if_in` meets its contract.
-- Assumes nothing.
use mathlib.Core.Path.{◌≡◌, ap}
use mathlib.Core.Logic.{◌⊎◌, inl, inr}
use Prim.Native.Nat.{ℕ, ◌*◌, ◌/◌, ◌^◌, ◌<◌}
use native.Mathlib.Omega.{arith}
use lib.Bits.{bit_and, and_mask}
use Rattle.bits.specs.Packed.{weight}
use Rattle.bits.proofs.Weight.{weight_lt, bit_or_bit}
use Rattle.hash_tables.proofs.if_in.Goals as goal

bit_is : (set j : ℕ) → bit_and (set / 2 ^ j) 1 ≡ weight set j
bit_is set j = and_mask (set / 2 ^ j) 1

few : (word b : ℕ) → word < 2 ^ 64 → b < 2 → word * b < 2 ^ 64
few word b small l = go (bit_or_bit b l)
  where
    go : (b ≡ 0) ⊎ (b ≡ 1) → word * b < 2 ^ 64
    go (inl e) = rw e (omega arith)
    go (inr e) = rw e (omega arith)

pub overflow_mul-result : goal.overflow_mul-result
overflow_mul-result c =
    let a = c.args in
    record { fits = few a.word (bit_and (a.set / 2 ^ a.j) 1) (omega arith) (rw (bit_is a.set a.j) (weight_lt a.set a.j)) }

pub returns : goal.returns
returns c = ap (λ (b : ℕ). c.args.word * b) (bit_is c.args.set c.args.j)
