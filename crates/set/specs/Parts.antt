-- What the parts of a call promise each other.
use Rattle.std.specs.Prelude.{ℕ, ◌+◌, ◌-◌, ◌*◌, ◌^◌, ◌≤◌, ◌<◌, ◌≡◌, Bool, true, false, List, map, length, get_or, Result, Ok, Err}
use Rattle.std.proofs.lemmas.List.Edits.{sets}
use Rattle.bits.specs.Packed.{Packed, bytes_for, bits_at}
use Rattle.search.specs.Verdict.{Verdict, refused, accepted, ending_of}
use Rattle.search.specs.Parts.{ending_at}
use Rattle.matcher.specs.declared.steps.Reached.{Reached}
use Rattle.matcher.specs.declared.steps.Full.{Full}
use Rattle.matcher.specs.Ready.{text_of}
use Rattle.set.specs.declared.Answer.{Answer}
use Rattle.set.specs.declared.Refusal.{Refusal}
use Rattle.set.specs.declared.finder.Finder.{Finder}
use Rattle.set_rules.specs.PatternSet.{PatternSet, set_places}
use Rattle.set_rules.specs.Hits.{hit_at, standing, all_hits, cells_of}
use Rattle.set_rules.specs.SetMachine.{set_run}
use Rattle.set_rules.specs.Verdict.{room_in, list_after}
use Rattle.set_tables.specs.Fronts.{begins, Flags}
use Rattle.set_tables.specs.Parts.{lent, GoodSet}
use Rattle.set.specs.Promise.{number_of_refusal, Carries}

-- what the check of a call says: passed, or the number of its refusal
abbrev pub check_of : Result (Unit {0}) Refusal → Verdict (Unit {0})
check_of (Ok _) = accepted tt
check_of (Err r) = refused (number_of_refusal r)

-- text and set of a search
abbrev pub text_in : Finder → Packed
text_in f = text_of f.text.now f.n

abbrev pub set_in : Finder → PatternSet
set_in f = lent f.patterns

-- What a call may rely on when it has passed the check.
pub record Allowed (t : Packed) (ws : PatternSet) (s : ℕ) : Type 0 where
  pub few_bits : t.count ≤ 2 ^ 30
  pub bytes_there : bytes_for t.count ≤ length t.bytes
  pub patterns : GoodSet ws
  pub inside : s ≤ set_places t ws

-- the pairs of a place are written after `had` others
abbrev pub PairsWritten : List ℕ → ℕ → ℕ → List ℕ → List ℕ → Type 0
PairsWritten before had s numbers list = list ≡ sets before (2 * had) (cells_of (map (hit_at s) numbers))

-- The places from s on and before `at` are passed, and the pairs of their hits stand in the list after `had` others.
pub record Listing (t : Packed) (ws : PatternSet) (s : ℕ) (before : List ℕ) (had : ℕ) (list : List ℕ) (at hits : ℕ) : Type 0 where
  pub from : s ≤ at
  pub cells : list ≡ sets before (2 * had) (cells_of (all_hits t ws s at))
  pub count : hits ≡ had + length (all_hits t ws s at)
  pub fits : hits ≤ room_in before

-- What a block of 32 places may rely on: `found` has the flags of the places from `base` on.
pub record Blocked (t : Packed) (ws : PatternSet) (found : List ℕ) (base from to : ℕ) : Type 0 where
  pub found_there : 32 ≤ length found
  pub flags : (e : ℕ) → e < 32 → Flags ws (length ws.counts) (λ w. begins w 0 32 (bits_at t.bytes (base + e) 32)) (get_or found e 0)
  pub low : base ≤ from
  pub near : from ≤ to
  pub high : to ≤ base + 32
  pub few_places : to ≤ 2 ^ 30

-- its places are passed, or those before one whose hits do not all fit
pub record BlockPassed (t : Packed) (ws : PatternSet) (from to : ℕ) (before : List ℕ) (had at hits : ℕ) (cut : Bool) (list : List ℕ) : Type 0 where
  pub listing : Listing t ws from before had list at hits
  pub whole : cut ≡ false → at ≡ to
  pub no_room : cut ≡ true → (at < to) × (room_in before - hits < length (standing t ws at))

-- the same of what a block gives back: how many pairs it wrote, or the place whose hits do not all fit
abbrev pub BlockGives : Packed → PatternSet → ℕ → ℕ → List ℕ → Result ℕ Full → List ℕ → Type 0
BlockGives t ws from to before (Ok hits) list = BlockPassed t ws from to before 0 to hits false list
BlockGives t ws from to before (Err f) list = BlockPassed t ws from to before 0 f.0.at.0 f.0.hits true list × (f.0.steps ≡ f.0.at.0 - from)

-- All steps of a call: what the loop leaves is what the machine comes to.
pub record Ran (t : Packed) (ws : PatternSet) (s budget : ℕ) (before : List ℕ) (at steps hits : ℕ) (cut : Bool) (list : List ℕ) : Type 0 where
  pub steps_are : steps ≡ (set_run t ws budget s (room_in before)).steps
  pub hits_are : hits ≡ length (set_run t ws budget s (room_in before)).written
  pub mark_is : at ≡ (set_run t ws budget s (room_in before)).mark
  pub ending_is : ending_at cut at (set_places t ws) ≡ (set_run t ws budget s (room_in before)).ending
  pub list_is : list ≡ list_after (set_run t ws budget s (room_in before)) before

-- the same of what the loop gives back
abbrev pub RunGives : Packed → PatternSet → ℕ → ℕ → List ℕ → Result Reached Full → List ℕ → Type 0
RunGives t ws s budget before (Ok r) list = Ran t ws s budget before r.at.0 r.steps r.hits false list
RunGives t ws s budget before (Err f) list = Ran t ws s budget before f.0.at.0 f.0.steps f.0.hits true list

-- the answer of a call by what its steps left
pub record Tells (a : Answer) (at steps hits : ℕ) (cut : Bool) (E : ℕ) : Type 0 where
  pub steps_are : a.steps ≡ steps
  pub hits_are : a.occurrences ≡ hits
  pub mark_is : a.mark.at.0 ≡ at
  pub ending_is : ending_of a.stop ≡ ending_at cut at E

-- the same of what the loop gave back
abbrev pub TellsOf : Answer → Result Reached Full → ℕ → Type 0
TellsOf a (Ok r) E = Tells a r.at.0 r.steps r.hits false E
TellsOf a (Err f) E = Tells a f.0.at.0 f.0.steps f.0.hits true E

-- What an accepted call leaves: its answer is what the machine comes to, and so is the list.
pub record Leaves (t : Packed) (ws : PatternSet) (s budget : ℕ) (before : List ℕ) (a : Answer) (list : List ℕ) : Type 0 where
  pub answer : Carries a (set_run t ws budget s (room_in before))
  pub list_is : list ≡ list_after (set_run t ws budget s (room_in before)) before
