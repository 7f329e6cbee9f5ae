-- Laws of `sets`, a run of stores from an index on: its first store, its parts, and the run from the front.
use Prim.Native.Nat.{ℕ, suc, ◌+◌, ◌≤◌}
use mathlib.Core.Path.{◌≡◌, ap, ◌∙◌}
use mathlib.Core.List.{List, [], ◌∷◌, ◌++◌}
use native.Mathlib.Omega.{arith}
use native.Mathlib.Numerals.{add-one}
use lib.ListN.{length, drop, set}
use lib.Seq.{sets, sets-eq}

pub sets_cons : (t : List ℕ) (at b : ℕ) (bs : List ℕ) → sets (set t at b) (at + 1) bs ≡ sets t at (b ∷ bs)
sets_cons t at b bs = rw add-one

pub sets_append : (xs ys t : List ℕ) (at : ℕ) → sets t at (xs ++ ys) ≡ sets (sets t at xs) (at + length xs) ys
sets_append [] ys t at = let e : at ≡ at + 0 = omega arith in ap (λ (k : ℕ). sets t k ys) e
sets_append (x ∷ xs) ys t at =
    let e : suc at + length xs ≡ at + suc (length xs) = omega arith in
    sets_append xs ys (set t at x) (suc at) ∙ ap (λ (k : ℕ). sets (sets (set t at x) (suc at) xs) k ys) e

-- what is stored from the front on, and then what was there
pub sets_front : (l t : List ℕ) → length l ≤ length t → sets t 0 l ≡ l ++ drop (length l) t
sets_front l t h =
    let e : 0 + length l ≡ length l = omega arith in
    sets-eq l t 0 (omega arith) ∙ ap (λ (n : ℕ). l ++ drop n t) e
