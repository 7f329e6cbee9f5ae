-- A list of positions that rises: what the writer takes, and what a key and a sheet have to be.
use Rattle.std.specs.Prelude.{ℕ, ◌+◌, Bool, true, ◌&&◌, List, [], ◌∷◌, leb, ltb}
use Rattle.positions.specs.Basics.{limit}

-- Document 01: "Positions rise strictly and are below 2^30", from the least position that may come
unfoldable pub rises_from : ℕ → List ℕ → Bool
rises_from next [] = true
rises_from next (p ∷ ps) = leb next p && (ltb p limit && rises_from (p + 1) ps)

-- whether the positions rise strictly and are below 2^30
unfoldable pub rising : List ℕ → Bool
rising l = rises_from 0 l
