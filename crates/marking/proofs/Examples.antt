-- Small sittings by computation: each refusal with later ones applying too, the edges, and marks that a careless program gets wrong.
use Prim.Native.Nat.{◌^◌, ◌-◌}
use mathlib.Core.Path.{◌≡◌, refl}
use mathlib.Core.List.{[], ◌∷◌}
use lib.ListN.{replicate}
use Rattle.marking.specs.Marks.{on, filter, both, only, marks}
use Rattle.marking.specs.Sitting.{sum, sheets_of, all_rise, all_marks, report_of, totals_of, refused, marked, verdict}
use Rattle.positions.specs.Rising.{rising, rises_from}

pub record Examples : Type 0 where
  -- the report of the key 0, 6, 12 and three sheets: 0, 6, 12; then 0, 7, 12; then nothing
  pub three_sheets : report_of (all_marks (0 ∷ 6 ∷ 12 ∷ []) (0 ∷ 6 ∷ 12 ∷ 0 ∷ 7 ∷ 12 ∷ []) (3 ∷ 3 ∷ 0 ∷ [])) ≡ 3 ∷ 0 ∷ 0 ∷ 2 ∷ 1 ∷ 1 ∷ 0 ∷ 3 ∷ 0 ∷ []
  -- a sheet starts again from its own least position: 5 may follow 9 where a new sheet begins
  pub each_by_itself : verdict (5 ∷ []) (5 ∷ 9 ∷ 5 ∷ []) (2 ∷ 1 ∷ []) 6
      ≡ marked (record { right = 1; missed = 0; false_positives = 1 } ∷ record { right = 1; missed = 0; false_positives = 0 } ∷ [])
  -- no sheets: the totals are 0 (the verdicts are `no_sheets` and `no_sheets_falling` of proofs/Verdicts.antt)
  pub no_sheets_totals : totals_of [] ≡ record { right = 0; missed = 0; false_positives = 0 }
  pub empty_key : verdict [] (3 ∷ []) (1 ∷ []) 3 ≡ marked (record { right = 0; missed = 0; false_positives = 1 } ∷ [])
  -- 15 before all others: 257 sheets, whose counts do not add up either, with a key that does not rise; 256 are taken
  pub many : verdict (2 ∷ 2 ∷ []) (1 ∷ []) (replicate 257 0) 0 ≡ refused 15
  pub most : verdict (2 ∷ 2 ∷ []) (1 ∷ []) (replicate 256 0) 0 ≡ refused 16
  pub most_taken : verdict [] [] (replicate 256 0) 768 ≡ marked (replicate 256 (record { right = 0; missed = 0; false_positives = 0 }))
  -- 16 before 8; and counts that add up modulo 2^64 only
  pub differ : verdict (2 ∷ 2 ∷ []) (1 ∷ 2 ∷ []) (1 ∷ []) 0 ≡ refused 16
  pub wrapped : verdict [] (1 ∷ 2 ∷ []) ((2 ^ 64 - 1) ∷ 3 ∷ []) 6 ≡ refused 16
  -- 8 before 9: the key, or a sheet by itself, or a position of 2^30
  pub key_repeats : verdict (2 ∷ 2 ∷ []) (1 ∷ []) (1 ∷ []) 2 ≡ refused 8
  pub sheet_falls : verdict (2 ∷ []) (1 ∷ 7 ∷ 6 ∷ []) (1 ∷ 2 ∷ []) 5 ≡ refused 8
  pub too_large : verdict (2 ∷ []) ((2 ^ 30) ∷ []) (1 ∷ []) 2 ≡ refused 8
  pub largest : verdict (2 ∷ []) ((2 ^ 30 - 1) ∷ []) (1 ∷ []) 3 ≡ marked (record { right = 0; missed = 1; false_positives = 1 } ∷ [])
  pub short : verdict (2 ∷ []) (1 ∷ []) (1 ∷ []) 2 ≡ refused 9

pub examples : Examples
unfolding on filter both only marks sum sheets_of all_rise all_marks report_of totals_of verdict rising rises_from
examples =
    record {
      three_sheets = refl;
      each_by_itself = refl;
      no_sheets_totals = refl;
      empty_key = refl;
      many = refl;
      most = refl;
      most_taken = refl;
      differ = refl;
      wrapped = refl;
      key_repeats = refl;
      sheet_falls = refl;
      too_large = refl;
      largest = refl;
      short = refl;
    }
