-- What the calls below promise gives what the calls for C and Rust promise.
-- Assumes nothing.
use Prim.Native.Nat.{ℕ, ◌≤◌, ◌<◌}
use mathlib.Core.Path.{◌≡◌, refl, ◌∙◌}
use mathlib.Core.List.{List}
use lib.ListN.{length}
use Rattle.rules.specs.declared.Method.{Method}
use Rattle.std.specs.Prelude.{Ok, Err}
use Rattle.search.specs.Verdict.{Outcome, verdict, Searched}
use Rattle.positions.specs.Basics.{fault}
use Rattle.positions.specs.Encode.{encode}
use Rattle.positions.specs.Decode.{decode}
use Rattle.positions.specs.Promise.{refused, write_answer, leaves, read_answer, read_cells}
use Rattle.marking.specs.Sitting as sitting
use Rattle.marking.specs.Promise.{report_after}
use Rattle.capi.specs.Told.{Told, gives, refuses, answer_cells_missing, unknown_method, unless_cells, Tells}
use Rattle.capi.specs.Scan.{method_named, known, unknown, Call, request_of, search_verdict, Searches}
use Rattle.capi.specs.ListFile.{count_tells, write_verdict, ListWritten, read_verdict, ListRead}
use Rattle.capi.specs.Sitting.{sitting_tells, sitting_verdict, SittingMarked}
use Rattle.capi.specs.Inner.{outcome_tells}
use Rattle.capi.proofs.Telling.{few_cells, enough_cells, refusing}

-- ---- the calls that tell one number, two or three

-- `few` is the verdict where there are fewer answer cells than so many, `own` that of the call below.
module _ {A : Type 0} {needed : ℕ} (tell : A → Told) (few own : A) (answer : List ℕ) where
  pub none_told : length answer < needed → tell few ≡ refuses answer_cells_missing
      → Tells (tell (unless_cells needed answer few own)) answer answer_cells_missing answer
  none_told h e = rw (few_cells needed answer few own, e) (refusing _ _)

  pub refusal_told : {k r : ℕ} → needed ≤ length answer → refuses k ≡ tell own → r ≡ k
      → Tells (tell (unless_cells needed answer few own)) answer r answer
  refusal_told h e f = rw (enough_cells needed answer few own, ← e) (record { result_is = f; answer_is = refl })

  pub number_told : {numbers : List ℕ} {r : ℕ} {after : List ℕ} → needed ≤ length answer → gives numbers ≡ tell own
      → Tells (gives numbers) answer r after → Tells (tell (unless_cells needed answer few own)) answer r after
  number_told h e t = rw (enough_cells needed answer few own, ← e) t

-- Three of them fill a buffer, the writer, the reader and the marking: `leave` is what a verdict leaves there.
pub record Filled {A : Type 0} (needed : ℕ) (tell : A → Told) (leave : A → List ℕ) (few own : A) (answer : List ℕ)
    (result : ℕ) (buffer answer' : List ℕ) : Type 0 where
  pub tells : Tells (tell (unless_cells needed answer few own)) answer result answer'
  pub buffer_is : buffer ≡ leave (unless_cells needed answer few own)

module _ {A : Type 0} {needed : ℕ} {tell : A → Told} {leave : A → List ℕ} {few own : A} {answer : List ℕ} where
  pub none_filled : length answer < needed → tell few ≡ refuses answer_cells_missing
      → Filled needed tell leave few own answer answer_cells_missing (leave few) answer
  none_filled h e = record { tells = none_told tell few own answer h e; buffer_is = rw (few_cells needed answer few own) }

  pub refusal_filled : {k r : ℕ} {buffer : List ℕ} → needed ≤ length answer → refuses k ≡ tell own → buffer ≡ leave own → r ≡ k
      → Filled needed tell leave few own answer r buffer answer
  refusal_filled h e b f =
      record { tells = refusal_told tell few own answer h e f; buffer_is = rw (enough_cells needed answer few own) b }

  pub number_filled : {numbers : List ℕ} {r : ℕ} {buffer after : List ℕ} → needed ≤ length answer → gives numbers ≡ tell own
      → buffer ≡ leave own → Tells (gives numbers) answer r after → Filled needed tell leave few own answer r buffer after
  number_filled h e b t =
      record { tells = number_told tell few own answer h e t; buffer_is = rw (enough_cells needed answer few own) b }

pub written : {list target answer target' answer' : List ℕ} {r : ℕ}
    → Filled 1 count_tells (λ v. leaves v (encode list) target) (refused answer_cells_missing) (write_answer list (length target)) answer r
    target' answer'
    → ListWritten list target answer r target' answer'
unfolding write_verdict
written f = record { tells = f.tells; target_is = f.buffer_is }

pub read : {file cells answer cells' answer' : List ℕ} {r : ℕ}
    → Filled 1 (λ v. count_tells (read_answer v)) (λ v. read_cells v cells) (fault answer_cells_missing) (decode file (length cells))
    answer r cells' answer'
    → ListRead file cells answer r cells' answer'
unfolding read_verdict
read f = record { tells = f.tells; cells_is = f.buffer_is }

pub marked : {key sheets counts report answer report' answer' : List ℕ} {r : ℕ}
    → Filled 3 sitting_tells (λ v. report_after v report) (sitting.refused answer_cells_missing) (sitting.verdict key sheets counts (length report))
    answer r report' answer'
    → SittingMarked key sheets counts report answer r report' answer'
unfolding sitting_verdict
marked f = record { tells = f.tells; report_is = f.buffer_is }

-- ---- the search call

module _ (q : Call) where
  pub search_unknown : method_named q.method ≡ unknown
      → Searches q unknown_method q.list q.scratch q.answer
  unfolding search_verdict
  search_unknown e =
      record { tells = rw e (refusing _ _); list_is = rw e; scratch_is = rw e refl }

  pub search_short : (x : Method) → method_named q.method ≡ known x → length q.answer < 4
      → Searches q answer_cells_missing q.list q.scratch q.answer
  unfolding search_verdict
  search_short x e h =
      record {
        tells = rw (e, few_cells 4 q.answer) (refusing _ _);
        list_is = rw (e, few_cells 4 q.answer);
        scratch_is = rw (e, few_cells 4 q.answer) refl;
      }

  -- the verdict is the search's own
  pub searched_by : (x : Method) → method_named q.method ≡ known x → 4 ≤ length q.answer
      → search_verdict q ≡ verdict (request_of x q)
  unfolding search_verdict
  searched_by x e h = rw (e, enough_cells 4 q.answer)

  -- what is told of an outcome is what the verdict tells, and the buffers are as the verdict says
  pub search_tells : (x : Method) (o : Outcome) (r : ℕ) (list scratch answer : List ℕ) → method_named q.method ≡ known x
      → 4 ≤ length q.answer → Searched (request_of x q) o list scratch → Tells (outcome_tells o) q.answer r answer
      → Searches q r list scratch answer
  search_tells x (Ok a) r list scratch answer e h s t =
      let v = searched_by x e h ∙ s.verdict_is in
      record {
        tells = rw v (rw (s.answer.steps, s.answer.occurrences, s.answer.mark, s.answer.ending) at t);
        list_is = rw v s.list_is;
        scratch_is = rw (v, e) (s.scratch_length, s.scratch_rest);
      }
  search_tells x (Err y) r list scratch answer e h s t =
      let v = searched_by x e h ∙ s.verdict_is in
      record { tells = rw v t; list_is = rw v s.list_is; scratch_is = rw v s.scratch_is }
