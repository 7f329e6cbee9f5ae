-- What `rising` means, in document 01's words: "Positions rise strictly and are below 2^30".
use Prim.Native.Nat.{ℕ, zero, suc, ◌+◌, ◌≤◌, ◌<◌}
use mathlib.Core.Path.{◌≡◌, refl, ◌∙◌}
use mathlib.Core.Bool.{true}
use mathlib.Core.List.{List, [], ◌∷◌}
use native.Mathlib.Omega.{arith}
use lib.ListN.{length, get_or}
use Rattle.positions.specs.Basics.{limit}
use Rattle.positions.specs.Rising.{rises_from, rising}
use Rattle.positions.proofs.Rising.{rises_on, rises_taken}

pub record StrictlyRising (l : List ℕ) : Type 0 where
  pub strictly : (i j : ℕ) → i < j → j < length l → get_or l i 0 < get_or l j 0
  pub under : (i : ℕ) → i < length l → get_or l i 0 < limit

-- positions from `next` on that rise strictly and are below the limit
record RisesFrom (next : ℕ) (l : List ℕ) : Type 0 where
  least : (i : ℕ) → i < length l → next ≤ get_or l i 0
  strict : (i j : ℕ) → i < j → j < length l → get_or l i 0 < get_or l j 0
  below : (i : ℕ) → i < length l → get_or l i 0 < limit

means_cons : (next p : ℕ) (ps : List ℕ) → next ≤ p → p < limit → RisesFrom (p + 1) ps → RisesFrom next (p ∷ ps)
means_cons next p ps l h r = record { least = least; strict = strict; below = below }
  where
    least : (i : ℕ) → i < suc (length ps) → next ≤ get_or (p ∷ ps) i 0
    least zero k = l
    least (suc i) k = omega (arith, r.least i (omega arith))

    strict : (i j : ℕ) → i < j → j < suc (length ps) → get_or (p ∷ ps) i 0 < get_or (p ∷ ps) j 0
    strict i zero k m = absurd (omega arith)
    strict zero (suc j) k m = omega (arith, r.least j (omega arith))
    strict (suc i) (suc j) k m = r.strict i j (omega arith) (omega arith)

    below : (i : ℕ) → i < suc (length ps) → get_or (p ∷ ps) i 0 < limit
    below zero k = h
    below (suc i) k = r.below i (omega arith)

rises_means : (next : ℕ) (l : List ℕ) → rises_from next l ≡ true → RisesFrom next l
rises_means next [] e = record { least = λ i h. omega arith; strict = λ i j h k. omega arith; below = λ i h. omega arith }
rises_means next (p ∷ ps) e =
    let t = rises_taken next p ps e in
    means_cons next p ps t.0 t.1 (rises_means (p + 1) ps t.2)

means_rises : (next : ℕ) (l : List ℕ) → RisesFrom next l → rises_from next l ≡ true
unfolding rises_from
means_rises next [] r = refl
means_rises next (p ∷ ps) r =
    rises_on next p ps (r.least 0 (omega arith)) (r.below 0 (omega arith))
    ∙ means_rises (p + 1) ps
    (record {
      least = λ i h. omega (arith, r.strict 0 (suc i) (omega arith) (omega arith));
      strict = λ i j h k. r.strict (suc i) (suc j) (omega arith) (omega arith);
      below = λ i h. r.below (suc i) (omega arith);
    })

pub rising_is_strict : (l : List ℕ) → rising l ≡ true → StrictlyRising l
unfolding rising
rising_is_strict l e = let r = rises_means 0 l e in record { strictly = r.strict; under = r.below }

pub strict_is_rising : (l : List ℕ) → StrictlyRising l → rising l ≡ true
unfolding rising
strict_is_rising l r = means_rises 0 l (record { least = λ i h. omega arith; strict = r.strictly; below = r.under })
