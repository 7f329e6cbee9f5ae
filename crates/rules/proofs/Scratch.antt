-- The largest figure is enough for every method, and nothing less is.
-- Assumes nothing.
use mathlib.Core.Path.{refl}
use Prim.Native.Nat.{ℕ, ◌≤◌}
use native.Mathlib.Omega.{arith}
use Rattle.rules.specs.declared.Method.{Method}
use Rattle.rules.specs.declared.Method.TheVariants.{Plain, Hash, Skip, Wide, Tail}
use Rattle.rules.specs.Scratch.{scratch_cells, most_cells, Most}

-- so many cells are enough for every pattern that a search takes
pub enough : (x : Method) (m : ℕ) → m ≤ 2048 → scratch_cells x m ≤ most_cells
enough Plain m h = omega arith
enough Hash m h = omega arith
enough Skip m h = omega arith
enough Wide m h = omega arith
enough Tail m h = omega arith

pub most : Most
most = record { is = refl; enough = enough; least = λ k h. h Wide 2048 (omega arith) }
