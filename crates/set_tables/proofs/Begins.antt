-- Laws of `begins`: bits in two parts, each part by itself.
-- Assumes nothing.
use Prim.Native.Nat.{ℕ, zero, suc, ◌+◌, ◌-◌, ◌/◌, ◌%◌, ◌^◌, ◌<◌}
use mathlib.Core.Path.{◌≡◌, refl, sym, ap, ap₂, ◌∙◌}
use mathlib.Core.Bool.{Bool, true, false, ◌&&◌}
use native.Mathlib.Nat.{add-zero, add-suc, add_assoc}
use native.Mathlib.Omega.{arith}
use lib.Dec.{ltb}
use Rattle.bits.specs.Packed.{weight, bit_of}
use Rattle.bits.proofs.Weight.{weight_shr, weight_mod}
use Rattle.rules.specs.Ranges.{implies, every}
use Rattle.rules.specs.Pattern.{Pattern, agrees}
use Rattle.rules.proofs.Ranges.{every_same}
use Rattle.set_tables.specs.Fronts.{begins}

and_true : (a : Bool) → a ≡ (a && true)
and_true true = refl
and_true false = refl

and_assoc : (a b c : Bool) → ((a && b) && c) ≡ (a && (b && c))
and_assoc true b c = refl
and_assoc false b c = refl

-- a test of a + b numbers is one of the first a, and of the b after them
pub every_parts : (a b : ℕ) (f : ℕ → Bool) → every (a + b) f ≡ (every a f && every b (λ j. f (a + j)))
unfolding every
every_parts a zero f = rw (add-zero a) (and_true (every a f))
every_parts a (suc b) f =
    rw (add-suc)
    (ap (λ (z : Bool). z && f (a + b)) (every_parts a b f) ∙ and_assoc (every a f) (every b (λ j. f (a + j))) (f (a + b)))

-- a + b bits: the first a, and the others
pub begins_parts : (w : Pattern) (from a b v : ℕ)
    → begins w from (a + b) v ≡ (begins w from a (v / 2 ^ b) && begins w (from + a) b (v % 2 ^ b))
unfolding begins
begins_parts w from a b v =
    every_parts a b _
    ∙ ap₂ (λ (x y : Bool). x && y)
    (every_same a _ _ (λ j l. ap (λ (c : ℕ). implies (ltb (from + j) w.count) (agrees w (from + j) c)) (first j l)))
    (every_same b _ _ (λ j l.
    ap₂ (λ (p c : ℕ). implies (ltb p w.count) (agrees w p c)) (sym (add_assoc from a j)) (second j l)))
  where
    first : (j : ℕ) → j < a → bit_of (a + b) v j ≡ bit_of a (v / 2 ^ b) j
    first j l =
        let there : a + b - 1 - j ≡ b + (a - 1 - j) = omega arith in
        ap (weight v) there ∙ sym (weight_shr v b (a - 1 - j))

    second : (j : ℕ) → j < b → bit_of (a + b) v (a + j) ≡ bit_of b (v % 2 ^ b) j
    second j l =
        let there : a + b - 1 - (a + j) ≡ b - 1 - j = omega arith in
        ap (weight v) there ∙ sym (weight_mod v {w = b} {i = b - 1 - j} (omega arith))
