-- What holds of every accepted call, stated about what its caller holds: key, sheets and counts, the report before and after, and the
-- totals. The theorem is `holds` of proofs/Holds.antt.
use Rattle.std.specs.Prelude.{ℕ, zero, suc, ◌+◌, ◌*◌, ◌≤◌, ◌<◌, ◌≡◌, List, [], ◌∷◌, ◌++◌, length, get_or}
use Rattle.marking.specs.Marks.{both, only, Marks}
use Rattle.marking.specs.Sitting.{sheets_of}

-- a sheet by its number
abbrev pub sheet_at : List ℕ → List ℕ → ℕ → List ℕ
sheet_at sheets counts i = get_or (sheets_of sheets counts) i []

-- lists put together
unfoldable pub together : List (List ℕ) → List ℕ
together [] = []
together (l ∷ others) = l ++ together others

-- a sheet's cell in the report: 0 for right, 1 for missed, 2 for false
abbrev pub cell : ℕ → List ℕ → ℕ → ℕ
cell k report i = get_or report (3 * i + k) 0

-- that cell of n sheets from number i on, added up
unfoldable pub column : ℕ → List ℕ → ℕ → ℕ → ℕ
column k report i zero = 0
column k report i (suc n) = cell k report i + column k report (suc i) n

pub record Holds (key sheets counts before after : List ℕ) (t : Marks) : Type 0 where
  -- "all sheets lie in one run of cells with a count for each"
  pub sheet_length : (i : ℕ) → i < length counts → length (sheet_at sheets counts i) ≡ get_or counts i 0
  pub sheets_are : together (sheets_of sheets counts) ≡ sheets
  -- "right (in the key), missed (in the key only) and false (on the sheet only); later cells stay"
  pub right_are : (i : ℕ) → i < length counts → cell 0 after i ≡ length (both key (sheet_at sheets counts i))
  pub missed_are : (i : ℕ) → i < length counts → cell 1 after i ≡ length (only key (sheet_at sheets counts i))
  pub false_are : (i : ℕ) → i < length counts → cell 2 after i ≡ length (only (sheet_at sheets counts i) key)
  pub later_stay : (j : ℕ) → 3 * length counts ≤ j → get_or after j 0 ≡ get_or before j 0
  -- "three 64-bit totals over the sitting, equal to the sums"
  pub total_right : t.right ≡ column 0 after 0 (length counts)
  pub total_missed : t.missed ≡ column 1 after 0 (length counts)
  pub total_false : t.false_positives ≡ column 2 after 0 (length counts)
  -- "right + missed equals the key's length, and right + false the sheet's"
  pub right_missed : (i : ℕ) → i < length counts → cell 0 after i + cell 1 after i ≡ length key
  pub right_false : (i : ℕ) → i < length counts → cell 0 after i + cell 2 after i ≡ length (sheet_at sheets counts i)
  -- a sheet that is the key has nothing missed and nothing false
  pub perfect : (i : ℕ) → i < length counts → sheet_at sheets counts i ≡ key → (cell 1 after i ≡ 0) × (cell 2 after i ≡ 0)
