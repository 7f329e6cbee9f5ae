-- What one sheet comes to. Document 02: "right (in the key), missed (in the key only) and false (on the sheet only)". A key and a sheet
-- are lists of positions.
use Rattle.std.specs.Prelude.{ℕ, Bool, true, false, ◌||◌, not, List, [], ◌∷◌, eqb, length}

-- whether a position is on a list
unfoldable pub on : ℕ → List ℕ → Bool
on p [] = false
on p (q ∷ qs) = eqb p q || on p qs

-- a position in front of the others where a test passed, else the others alone
abbrev pub keep : Bool → ℕ → List ℕ → List ℕ
keep true p ps = p ∷ ps
keep false p ps = ps

-- the positions of a list that pass a test
unfoldable pub filter : (ℕ → Bool) → List ℕ → List ℕ
filter f [] = []
filter f (p ∷ ps) = keep (f p) p (filter f ps)

-- the positions of the first list that are on the second too
unfoldable pub both : List ℕ → List ℕ → List ℕ
both ps other = filter (λ p. on p other) ps

-- the positions of the first list only
unfoldable pub only : List ℕ → List ℕ → List ℕ
only ps other = filter (λ p. not (on p other)) ps

-- the three numbers of a sheet, and of a sitting; what document 02 calls false are the false positives
pub record Marks : Type 0 where
  pub right : ℕ
  pub missed : ℕ
  pub false_positives : ℕ

-- right: positions of the key that are on the sheet; missed: positions of the key only; false: positions of the sheet only
unfoldable pub marks : List ℕ → List ℕ → Marks
marks key sheet =
    record {
      right = length (both key sheet);
      missed = length (only key sheet);
      false_positives = length (only sheet key);
    }
