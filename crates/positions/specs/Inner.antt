-- What the contracts of the private functions cite: no public promise rests on it.
use Rattle.std.specs.Prelude.{ℕ, Bool, true, false, List, [], Ok, Err}
use Rattle.std.specs.Prelude as std
use Rattle.std.specs.Borrow.{Bor}
use Rattle.positions.specs.Basics.{Result, ok, fault}
use Rattle.positions.specs.Promise.{read_refusal}
use Rattle.positions.specs.declared.ReadRefusal.{ReadRefusal}

-- what the code found: a number and the bytes after it, or a fault
abbrev pub reading_in : std.Result (ℕ × Bor (List ℕ)) ReadRefusal → Result (ℕ × List ℕ)
reading_in (Ok r) = ok (r.0, r.1.now)
reading_in (Err r) = fault (read_refusal r)

-- the bytes that remain after a body, or its fault
abbrev pub rest_of : Result (List ℕ × List ℕ) → Result (List ℕ)
rest_of (ok b) = ok b.1
rest_of (fault n) = fault n

-- the same as the code found it
abbrev pub end_in : std.Result (Bor (List ℕ)) ReadRefusal → Result (List ℕ)
end_in (Ok rest) = ok rest.now
end_in (Err r) = fault (read_refusal r)

-- whether there is no fault
abbrev pub accepts : {A : Type 0} → Result A → Bool
accepts (ok a) = true
accepts (fault n) = false

-- the positions of a body
abbrev pub positions_of : Result (List ℕ × List ℕ) → List ℕ
positions_of (ok b) = b.0
positions_of (fault n) = []
