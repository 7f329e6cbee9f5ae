-- What the call for a set promises of its answer and of the list as it returns.
use Rattle.std.specs.Prelude.{ℕ, ◌≡◌, List, length, Result, Ok, Err}
use Rattle.search.specs.Verdict.{refused, accepted, ending_of}
use Rattle.set_rules.specs.SetMachine.{SetRun}
use Rattle.set_rules.specs.Verdict.{Request, machine, verdict, list_after}
use Rattle.set.specs.declared.Answer.{Answer}
use Rattle.set.specs.declared.Refusal.{Refusal}
use Rattle.set.specs.declared.Refusal.TheVariants.{TextTooLong, TextBytesMissing, SetSize, PatternLength, PatternBytesMissing, FixedBytesMissing, BeyondEnd}

-- What a call gives back: the answer, or why it was refused.
abbrev pub Outcome : Type 0
Outcome = Result Answer Refusal

-- the number of each refusal
abbrev pub number_of_refusal : Refusal → ℕ
number_of_refusal TextTooLong = 1
number_of_refusal TextBytesMissing = 2
number_of_refusal SetSize = 18
number_of_refusal PatternLength = 3
number_of_refusal PatternBytesMissing = 4
number_of_refusal FixedBytesMissing = 17
number_of_refusal BeyondEnd = 6

-- The answer carries steps, hits, the mark and how the call stopped. A hit is a pair.
pub record Carries (a : Answer) (r : SetRun) : Type 0 where
  pub steps : a.steps ≡ r.steps
  pub occurrences : a.occurrences ≡ length r.written
  pub mark : a.mark.at.0 ≡ r.mark
  pub ending : ending_of a.stop ≡ r.ending

-- An accepted call: its answer is the machine's, and so is the list.
pub record AcceptedAs (q : Request) (a : Answer) (list : List ℕ) : Type 0 where
  pub verdict_is : verdict q ≡ accepted (machine q)
  pub answer : Carries a (machine q)
  pub list_is : list ≡ list_after (machine q) q.list

-- A refused call gives its number only; the list is unchanged.
pub record RefusedAs (q : Request) (r : Refusal) (list : List ℕ) : Type 0 where
  pub verdict_is : verdict q ≡ refused (number_of_refusal r)
  pub list_is : list ≡ q.list

-- The promise.
abbrev pub Searched : Request → Outcome → List ℕ → Type 0
Searched q (Ok a) list = AcceptedAs q a list
Searched q (Err r) list = RefusedAs q r list
