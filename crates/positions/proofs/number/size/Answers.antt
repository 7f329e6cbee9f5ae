-- `positions::number::size` meets its contract: the highest bit of 2 n + 1 tells how many bits the number has.
-- Assumes nothing.
use Prim.Native.Nat.{ℕ, suc, ◌+◌, ◌*◌, ◌/◌, ◌^◌, ◌≤◌, ◌<◌}
use mathlib.Core.Path.{◌≡◌}
use native.Mathlib.Omega.{arith}
use native.Mathlib.Numerals.{one-add}
use lib.Count.{count_leading_zeros, leading_top}
use lib.ListN.{length}
use Rattle.positions.specs.Encode.{encode_number}
use Rattle.positions.proofs.Groups.{exponent_lt, size_by_bits}
use Rattle.positions.proofs.number.size.Goals as goal

-- the place of the highest bit
highest : (n : ℕ) → n < 2 ^ 32 → (j : ℕ) × (count_leading_zeros 64 (2 * n + 1) + suc j ≡ 64) × (2 ^ j ≤ 2 * n + 1) × (2 * n + 1 < 2 ^ suc j)
highest n h = leading_top 64 (2 * n + 1) (omega arith) (omega arith)

pub overflow_sub-bits : goal.overflow_sub-bits
overflow_sub-bits c = omega (arith, (highest c.args.n (omega arith)).1)

pub returns : goal.returns
returns c =
    let n = c.args.n in
    let top = highest n (omega arith) in
    let same : length (encode_number n) ≡ (9 * top.0 + 64) / 64 = size_by_bits n top.0 (omega arith) top.2 (rw one-add top.3) in
    let few : top.0 < 33 = exponent_lt top.0 33 (2 * n + 1) top.2 (omega arith) in
    (omega (arith, top.1, same), omega (arith, top.1, few))
