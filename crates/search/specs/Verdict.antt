-- What a search call answers: the first refusal that applies, or what the machine comes to ("When the panel says no").
use Rattle.std.specs.Prelude.{ℕ, ◌^◌, ◌≡◌, Bool, true, false, ◌||◌, cond, List, [], ◌∷◌, ◌++◌, ltb, eqb, length, drop, Result, Ok, Err}
use Rattle.bits.specs.Packed.{Packed, bytes_for}
use Rattle.search.specs.declared.Answer.{Answer}
use Rattle.rules.specs.declared.Method.{Method}
use Rattle.rules.specs.declared.Method.TheVariants.{Hash}
use Rattle.search.specs.declared.Refusal.{Refusal}
use Rattle.search.specs.declared.Refusal.TheVariants.{TextTooLong, TextBytesMissing, PatternLength, PatternBytesMissing, FixedBytesMissing, PatternUnfit, BeyondEnd, ScratchTooShort}
use Rattle.search.specs.declared.Stop.{Stop}
use Rattle.search.specs.declared.Stop.TheVariants.{Done, Full, Spent}
use Rattle.rules.specs.Pattern.{Pattern}
use Rattle.rules.specs.Occurrence.{places}
use Rattle.rules.specs.Hash.{hash_of}
use Rattle.rules.specs.Step.{unfit}
use Rattle.rules.specs.Scratch.{scratch_cells}
use Rattle.rules.specs.Machine.{Ending, done, spent, full, Run, run}

-- "A search call gets recording, word, method, mark, budget, a list of 32-bit cells and a scratch of 64-bit cells"
pub record Request : Type 0 where
  pub text : Packed
  pub pattern : Pattern
  pub method : Method
  pub mark : ℕ
  pub budget : ℕ
  pub list : List ℕ
  pub scratch : List ℕ

-- a row of the table of refusals: its number, and whether its condition holds
pub record Row : Type 0 where
  pub number : ℕ
  pub holds : Bool

-- "n above 2^30"
abbrev pub text_too_long : Packed → Row
text_too_long t = record { number = 1; holds = ltb (2 ^ 30) t.count }

-- "recording bytes fewer than ceil(n/8)"
abbrev pub text_bytes_missing : Packed → Row
text_bytes_missing t = record { number = 2; holds = ltb (length t.bytes) (bytes_for t.count) }

-- "m = 0 or above 2,048"
abbrev pub pattern_length : ℕ → Row
pattern_length m = record { number = 3; holds = eqb m 0 || ltb 2048 m }

-- "word bytes fewer than ceil(m/8)"
abbrev pub pattern_bytes_missing : Pattern → Row
pattern_bytes_missing w = record { number = 4; holds = ltb (length w.bytes) (bytes_for w.count) }

-- "17, right after 4, when the second run has fewer than ceil(m/8) bytes"
abbrev pub fixed_bytes_missing : Pattern → Row
fixed_bytes_missing w = record { number = 17; holds = ltb (length w.fixed) (bytes_for w.count) }

-- "word too short: m below 8 for hash and H, below 15 for skip"; and for tail a word of more than 64 bits "gets 5"
abbrev pub pattern_unfit : Method → ℕ → Row
pattern_unfit x m = record { number = 5; holds = unfit x m }

-- "mark above E"
abbrev pub mark_beyond : Packed → Pattern → ℕ → Row
mark_beyond t w s = record { number = 6; holds = ltb (places t w) s }

-- "Number 7 is given below those figures"
abbrev pub scratch_too_short : Method → ℕ → List ℕ → Row
scratch_too_short x m cells = record { number = 7; holds = ltb (length cells) (scratch_cells x m) }

-- "A search checks 1 to 7 in that order", and 17 right after 4.
unfoldable pub rows : Request → List Row
rows q =
    text_too_long q.text
    ∷ text_bytes_missing q.text
    ∷ pattern_length q.pattern.count
    ∷ pattern_bytes_missing q.pattern
    ∷ fixed_bytes_missing q.pattern
    ∷ pattern_unfit q.method q.pattern.count
    ∷ mark_beyond q.text q.pattern q.mark
    ∷ scratch_too_short q.method q.pattern.count q.scratch
    ∷ []

-- a refusal with its number, or a value
pub data Verdict (A : Type 0) : Type 0 where
  refused : ℕ → Verdict A
  accepted : A → Verdict A

-- the first row whose condition holds refuses; where none does, the value is given
unfoldable pub judge : {A : Type 0} → List Row → A → Verdict A
judge [] a = accepted a
judge (r ∷ rest) a =
    let later = judge rest a in
    cond r.holds (refused r.number) later

-- the condition of no row holds
abbrev pub AllFail : List Row → Type 0
AllFail [] = Unit
AllFail (r ∷ rest) = (r.holds ≡ false) × AllFail rest

-- number k is given: "where the row's condition holds after the earlier ones fail"
pub record Given (k : ℕ) (table : List Row) : Type 0 where
  pub earlier : List Row
  pub row : Row
  pub others : List Row
  pub here : table ≡ earlier ++ row ∷ others
  pub fail : AllFail earlier
  pub holds : row.holds ≡ true
  pub number : row.number ≡ k

-- what the machine comes to
unfoldable pub machine : Request → Run
machine q = run q.method q.text q.pattern q.budget q.mark (length q.list)

unfoldable pub verdict : Request → Verdict Run
verdict q = judge (rows q) (machine q)

-- "H(B) can also be had by itself from a word and a value, with refusals 3, 4, 5", and 17 right after 4.
unfoldable pub hash_verdict : Pattern → ℕ → Verdict ℕ
hash_verdict w B =
    judge (pattern_length w.count ∷ pattern_bytes_missing w ∷ fixed_bytes_missing w ∷ pattern_unfit Hash w.count ∷ []) (hash_of w B)

-- The cells of scratch that a method takes for a pattern of m bits, by themselves: refused with 3 for m, then with 5 where the
-- method does not take m.
unfoldable pub scratch_verdict : Method → ℕ → Verdict ℕ
scratch_verdict x m = judge (pattern_length m ∷ pattern_unfit x m ∷ []) (scratch_cells x m)

-- the number of each refusal
abbrev pub number_of_refusal : Refusal → ℕ
number_of_refusal TextTooLong = 1
number_of_refusal TextBytesMissing = 2
number_of_refusal PatternLength = 3
number_of_refusal PatternBytesMissing = 4
number_of_refusal FixedBytesMissing = 17
number_of_refusal PatternUnfit = 5
number_of_refusal BeyondEnd = 6
number_of_refusal ScratchTooShort = 7

-- the ending of each way to stop
abbrev pub ending_of : Stop → Ending
ending_of Done = done
ending_of (Full p) = full p.0
ending_of Spent = spent

-- "The answer carries steps, hits written, the mark and, inside it, how the call stopped."
pub record Carries (a : Answer) (r : Run) : Type 0 where
  pub steps : a.steps ≡ r.steps
  pub occurrences : a.occurrences ≡ length r.written
  pub mark : a.mark.at.0 ≡ r.mark
  pub ending : ending_of a.stop ≡ r.ending

-- An accepted call: its answer is the machine's, the places written are the first cells of the list, "cells not written
-- stay"; and "cells from there on stay as they were", of the scratch from the method's figure on. The cells before it are free.
pub record AcceptedAs (q : Request) (a : Answer) (list scratch : List ℕ) : Type 0 where
  pub verdict_is : verdict q ≡ accepted (machine q)
  pub answer : Carries a (machine q)
  pub list_is : list ≡ (machine q).written ++ drop (length (machine q).written) q.list
  pub scratch_length : length scratch ≡ length q.scratch
  pub scratch_rest : drop (scratch_cells q.method q.pattern.count) scratch
      ≡ drop (scratch_cells q.method q.pattern.count) q.scratch

-- "A refusal returns its number only; mark, list, scratch and every other buffer are unchanged."
pub record RefusedAs (q : Request) (r : Refusal) (list scratch : List ℕ) : Type 0 where
  pub verdict_is : verdict q ≡ refused (number_of_refusal r)
  pub list_is : list ≡ q.list
  pub scratch_is : scratch ≡ q.scratch

-- What a call gives back: the answer, or why it was refused.
abbrev pub Outcome : Type 0
Outcome = Result Answer Refusal

-- What the search call promises of its answer and of the list and the scratch as it returns.
abbrev pub Searched : Request → Outcome → List ℕ → List ℕ → Type 0
Searched q (Ok a) list scratch = AcceptedAs q a list scratch
Searched q (Err r) list scratch = RefusedAs q r list scratch
