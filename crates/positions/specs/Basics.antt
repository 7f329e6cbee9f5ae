-- A choice by a test, a value or a fault, and the file's limit.
use Rattle.std.specs.Prelude.{ℕ, ◌^◌, Bool, true, false, List, [], ◌∷◌}

-- Document 01: positions "are below 2^30", and a number of the file is not "above 2^30"
abbrev pub limit : ℕ
limit = 2 ^ 30

-- the first where the test holds, else the second
abbrev pub pick {ℓ} : {A : Type ℓ} → Bool → A → A → A
pick true x y = x
pick false x y = y

-- what reading gives: a value, or the first fault by document 01's number
pub data Result (A : Type 0) : Type 0 where
  ok : A → Result A
  fault : ℕ → Result A

-- go on with the value; a fault stays
abbrev pub and_then : {A B : Type 0} → Result A → (A → Result B) → Result B
and_then (ok a) f = f a
and_then (fault n) f = fault n

abbrev pub is_empty : List ℕ → Bool
is_empty [] = true
is_empty (b ∷ bs) = false
