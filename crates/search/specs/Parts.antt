-- What the loop of a call leaves, what a call may rely on when it has passed the check, and what its parts promise.
use Rattle.std.specs.Prelude.{ℕ, ◌^◌, ◌≤◌, ◌≡◌, Bool, true, false, cond, List, [], ◌++◌, eqb, length, drop, Result, Ok, Err}
use Rattle.bits.specs.Packed.{Packed, bytes_for}
use Rattle.rules.specs.declared.Method.{Method}
use Rattle.search.specs.declared.Answer.{Answer}
use Rattle.search.specs.declared.Mark.{Mark}
use Rattle.search.specs.declared.Refusal.{Refusal}
use Rattle.rules.specs.Pattern.{Pattern}
use Rattle.rules.specs.Occurrence.{places}
use Rattle.rules.specs.Scratch.{scratch_cells}
use Rattle.rules.specs.Machine.{Ending, done, spent, full, run}
use Rattle.search.specs.Verdict.{Verdict, refused, accepted, rows, judge, number_of_refusal, ending_of, Carries}
use Rattle.matcher.specs.declared.steps.Reached.{Reached}
use Rattle.matcher.specs.declared.steps.Full.{Full}
use Rattle.matcher.specs.Ready.{GoodPattern}
use Rattle.matcher.specs.Progress.{Stepped}

-- how a run stopped, by whether a place found no cell, the mark left and the number of places
abbrev pub ending_at : Bool → ℕ → ℕ → Ending
ending_at true at E = full at
ending_at false at E = cond (eqb at E) done spent

-- All steps of a call: what the loop leaves is what the machine comes to.
pub record Ran (x : Method) (t : Packed) (w : Pattern) (s budget : ℕ) (before : List ℕ) (at steps hits : ℕ) (cut : Bool) (list : List ℕ) : Type 0 where
  pub steps_are : steps ≡ (run x t w budget s (length before)).steps
  pub hits_are : hits ≡ length (run x t w budget s (length before)).written
  pub mark_is : at ≡ (run x t w budget s (length before)).mark
  pub ending_is : ending_at cut at (places t w) ≡ (run x t w budget s (length before)).ending
  pub list_is : list ≡ (run x t w budget s (length before)).written ++ drop (length (run x t w budget s (length before)).written) before

-- the same of what the loop gives back
abbrev pub RunGives : Method → Packed → Pattern → ℕ → ℕ → List ℕ → Result Reached Full → List ℕ → Type 0
RunGives x t w s budget before (Ok r) list = Ran x t w s budget before r.at.0 r.steps r.hits false list
RunGives x t w s budget before (Err f) list = Ran x t w s budget before f.0.at.0 f.0.steps f.0.hits true list

-- how far the steps came, whether each place had a cell or not
abbrev pub come_to : Result Reached Full → Reached
come_to (Ok r) = r
come_to (Err f) = f.0

-- one step of a mark: the advanced mark beside how many places were written
abbrev pub StepMade : Method → Packed → Pattern → ℕ → List ℕ → Result (Mark × ℕ) Full → List ℕ → Type 0
StepMade x t w s before (Ok m) list = Stepped x t w s before 0 m.0.at.0 m.1 false list
StepMade x t w s before (Err f) list = Stepped x t w s before 0 f.0.at.0 f.0.hits true list × (f.0.steps ≡ 0)

-- what the check of a call says: passed, or the number of its refusal
abbrev pub check_of : Result (Unit {0}) Refusal → Verdict (Unit {0})
check_of (Ok _) = accepted tt
check_of (Err r) = refused (number_of_refusal r)

-- the first of the refusals 1, 2, 3, 4, 17, 5, 6, 7 that applies; the list and the budget play no part in them
unfoldable pub check_verdict : Packed → Pattern → Method → ℕ → List ℕ → Verdict (Unit {0})
check_verdict t w x s scratch =
    judge (rows (record { text = t; pattern = w; method = x; mark = s; budget = 0; list = []; scratch = scratch })) tt

-- What a call may rely on when it has passed the check.
pub record Allowed (x : Method) (t : Packed) (w : Pattern) (s : ℕ) (scratch : List ℕ) : Type 0 where
  pub few_bits : t.count ≤ 2 ^ 30
  pub bytes_there : bytes_for t.count ≤ length t.bytes
  pub pattern : GoodPattern x w
  pub inside : s ≤ places t w
  pub room : scratch_cells x w.count ≤ length scratch

-- What an accepted call leaves: its answer is what the machine comes to, and so are list and scratch.
pub record Leaves (x : Method) (t : Packed) (w : Pattern) (s budget : ℕ) (before cells : List ℕ) (a : Answer) (list scratch : List ℕ) : Type 0 where
  pub answer : Carries a (run x t w budget s (length before))
  pub list_is : list ≡ (run x t w budget s (length before)).written ++ drop (length (run x t w budget s (length before)).written) before
  pub scratch_length : length scratch ≡ length cells
  pub scratch_rest : drop (scratch_cells x w.count) scratch ≡ drop (scratch_cells x w.count) cells

-- the answer of a call by what its steps left
pub record Tells (a : Answer) (at steps hits : ℕ) (cut : Bool) (E : ℕ) : Type 0 where
  pub steps_are : a.steps ≡ steps
  pub hits_are : a.occurrences ≡ hits
  pub mark_is : a.mark.at.0 ≡ at
  pub ending_is : ending_of a.stop ≡ ending_at cut at E

-- the same of what the loop gave back
abbrev pub TellsOf : Answer → Result Reached Full → ℕ → Type 0
TellsOf a (Ok r) E = Tells a r.at.0 r.steps r.hits false E
TellsOf a (Err f) E = Tells a f.0.at.0 f.0.steps f.0.hits true E
