-- What a method's steps give back: how far they came, or that a place found no cell. The list is the whole of what was lent,
-- so its first cell is free.
use Rattle.std.specs.Prelude.{ℕ, ◌≡◌, true, false, List, Result, Ok, Err}
use Rattle.bits.specs.Packed.{Packed}
use Rattle.rules.specs.declared.Method.{Method}
use Rattle.rules.specs.Pattern.{Pattern}
use Rattle.matcher.specs.declared.steps.Reached.{Reached}
use Rattle.matcher.specs.declared.steps.Full.{Full}
use Rattle.matcher.specs.Progress.{Stepped, Advanced}

abbrev pub StepGives : Method → Packed → Pattern → ℕ → List ℕ → Result Reached Full → List ℕ → Type 0
StepGives x t w s before (Ok r) list = Stepped x t w s before 0 r.at.0 r.hits false list × (r.steps ≡ 1)
StepGives x t w s before (Err f) list = Stepped x t w s before 0 f.0.at.0 f.0.hits true list × (f.0.steps ≡ 0)

abbrev pub AdvanceGives : Method → Packed → Pattern → ℕ → ℕ → List ℕ → Result Reached Full → List ℕ → Type 0
AdvanceGives x t w s budget before (Ok r) list = Advanced x t w s budget before 0 r.at.0 r.steps r.hits false list
AdvanceGives x t w s budget before (Err f) list = Advanced x t w s budget before 0 f.0.at.0 f.0.steps f.0.hits true list
