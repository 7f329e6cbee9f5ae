-- A set of one pattern and the plain search for that pattern (document 02): "With one word the places equal the plain method's
-- from the same mark with the same budget, enough scratch lent, on half as many cells, rounded down." It is said of the two
-- machines, and of any two calls that meet their promises.
use Rattle.std.specs.Prelude.{ℕ, ◌/◌, ◌≤◌, ◌≡◌, List, map, length, get_or, take, Ok, Err}
use Rattle.bits.specs.Packed.{Packed}
use Rattle.rules.specs.declared.Method.TheVariants.{Plain}
use Rattle.rules.specs.Scratch.{scratch_cells}
use Rattle.rules.specs.Machine.{run}
use Rattle.search.specs.declared.Answer as plain_answer
use Rattle.search.specs.Verdict as search
use Rattle.search.specs.Verdict.{ending_of}
use Rattle.set.specs.declared.Answer.{Answer}
use Rattle.set_rules.specs.PatternSet.{PatternSet, pattern_at}
use Rattle.set_rules.specs.Hits.{Hit, hit_at, pairs_of}
use Rattle.set_rules.specs.SetMachine.{set_run}
use Rattle.set_rules.specs.Verdict.{Request}
use Rattle.set.specs.Promise.{Outcome, number_of_refusal, Searched}

-- "With one word"
abbrev pub OnePattern : PatternSet → Type 0
OnePattern ws = length ws.counts ≡ 1

-- the pairs of some places with the one pattern, which has the number 0
abbrev pub with_zero : List ℕ → List Hit
with_zero found = map (λ p. hit_at p 0) found

-- Of the machines, at any text, budget, mark and room, the room in pairs for the one and in places for the other: "the places
-- equal the plain method's from the same mark with the same budget", and so do steps, mark and ending. The one pattern is the
-- two runs from their first byte on.
pub record OneMachine (t : Packed) (ws : PatternSet) (budget s room : ℕ) : Type 0 where
  pub pattern_is : pattern_at ws 0 ≡ record { bytes = ws.bytes; fixed = ws.fixed; count = get_or ws.counts 0 0 }
  pub steps : (set_run t ws budget s room).steps ≡ (run Plain t (pattern_at ws 0) budget s room).steps
  pub written : (set_run t ws budget s room).written ≡ with_zero (run Plain t (pattern_at ws 0) budget s room).written
  pub mark : (set_run t ws budget s room).mark ≡ (run Plain t (pattern_at ws 0) budget s room).mark
  pub ending : (set_run t ws budget s room).ending ≡ (run Plain t (pattern_at ws 0) budget s room).ending

-- What the two calls are asked: the set has one pattern, and the plain search gets that pattern and the same text, "from the
-- same mark with the same budget, enough scratch lent, on half as many cells, rounded down". The cells may have any content.
pub record SameAsked (q : Request) (p : search.Request) : Type 0 where
  pub one : OnePattern q.patterns
  pub text : p.text ≡ q.text
  pub pattern : p.pattern ≡ pattern_at q.patterns 0
  pub method : p.method ≡ Plain
  pub mark : p.mark ≡ q.mark
  pub budget : p.budget ≡ q.budget
  pub enough : scratch_cells Plain p.pattern.count ≤ length p.scratch
  pub half : length p.list ≡ length q.list / 2

-- Two answers are the same, and so are the places: each pair that the one call wrote is a place that the other wrote, in the
-- same order, with the number 0.
pub record SameAnswer (a : Answer) (list : List ℕ) (b : plain_answer.Answer) (found : List ℕ) : Type 0 where
  pub steps : a.steps ≡ b.steps
  pub occurrences : a.occurrences ≡ b.occurrences
  pub mark : a.mark.at.0 ≡ b.mark.at.0
  pub ending : ending_of a.stop ≡ ending_of b.stop
  pub pairs : pairs_of a.occurrences list ≡ with_zero (take b.occurrences found)

-- both are accepted with the same answer and the same places, or both are refused with the same number
abbrev pub SameOutcome : Outcome → List ℕ → search.Outcome → List ℕ → Type 0
SameOutcome (Ok a) list (Ok b) found = SameAnswer a list b found
SameOutcome (Ok a) list (Err r) found = ⊥
SameOutcome (Err r) list (Ok b) found = ⊥
SameOutcome (Err r) list (Err k) found = number_of_refusal r ≡ search.number_of_refusal k

-- The claim, of the two machines, and of any two calls that each meet the promise of their own function.
pub record Single : Type 0 where
  pub machines : (t : Packed) (ws : PatternSet) → OnePattern ws → (budget s room : ℕ) → OneMachine t ws budget s room
  pub calls : (q : Request) (p : search.Request) → SameAsked q p
      → (o : Outcome) (list : List ℕ) → Searched q o list
      → (u : search.Outcome) (found scratch : List ℕ) → search.Searched p u found scratch
      → SameOutcome o list u found
