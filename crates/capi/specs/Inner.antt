-- What the contracts of the private functions cite: no public promise rests on it.
use Rattle.std.specs.Prelude.{[], ◌∷◌}
use Rattle.std.specs.Prelude.{Option, Some, None, Ok, Err}
use Rattle.search.specs.Verdict.{Outcome, number_of_refusal, ending_of}
use Rattle.rules.specs.declared.Method.{Method}
use Rattle.capi.specs.Told.{Told, gives, refuses}
use Rattle.capi.specs.Scan as scan
use Rattle.capi.specs.Scan.{stop_number}

-- what the code found for a method's number
abbrev pub named_by : Option Method → scan.Named
named_by (Some x) = scan.known x
named_by None = scan.unknown

-- what is told of an outcome
abbrev pub outcome_tells : Outcome → Told
outcome_tells (Ok a) = gives (a.steps ∷ a.occurrences ∷ a.mark.at.0 ∷ stop_number (ending_of a.stop) ∷ [])
outcome_tells (Err r) = refuses (number_of_refusal r)
