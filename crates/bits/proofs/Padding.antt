-- "Bits from n on never matter": loads below n of two recordings that agree there are the same.
-- Assumes nothing.
use mathlib.Core.Path.{◌≡◌}
use mathlib.Core.List.{List}
use Prim.Native.Nat.{ℕ, ◌+◌, ◌≤◌}
use native.Mathlib.Omega.{arith}
use Rattle.bits.specs.Packed.{bits_at, AgreeBelow}
use Rattle.bits.proofs.Run.{agree→load}

-- several bits that lie below n
pub bits_below : (a b : List ℕ) (n p k : ℕ) → AgreeBelow n a b → p + k ≤ n → bits_at a p k ≡ bits_at b p k
bits_below a b n p k e h = agree→load a b p p k (λ j l. e (p + j) (omega arith))
