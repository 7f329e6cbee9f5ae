-- The promise of the search call leaves nothing open but the cells of the scratch before the method's figure after an accepted
-- call: each request has an answer that meets it, and only one.
use Rattle.std.specs.Prelude.{Ok, Err}
use Prim.Native.Nat.{ℕ}
use mathlib.Core.Path.{◌≡◌, refl, sym, ap, ◌∙◌}
use mathlib.Core.Bool.{cond}
use mathlib.Core.List.{List, ◌++◌}
use lib.Dec.{eqb}
use lib.ListN.{length, drop}
use Rattle.search.specs.declared.Answer.{Answer}
use Rattle.search.specs.declared.Refusal.{Refusal}
use Rattle.search.specs.declared.Refusal.TheVariants.{TextTooLong, TextBytesMissing, PatternLength, PatternBytesMissing, FixedBytesMissing, PatternUnfit, BeyondEnd, ScratchTooShort}
use Rattle.search.specs.declared.Stop.{Stop}
use Rattle.search.specs.declared.Stop.TheVariants.{Done, Full, Spent}
use Rattle.rules.specs.Scratch.{scratch_cells}
use Rattle.rules.specs.Machine.{Ending, done, spent, full, Run}
use Rattle.search.specs.Verdict.{Outcome, Request, Verdict, refused, accepted, rows, machine, verdict, number_of_refusal, ending_of, Carries, Searched}
use Rattle.search.proofs.Verdict.{refused_not_accepted, given, accepted_fail, accepted_iff}

-- back from a number to the refusal, and from an ending to the way to stop
refusal_of : ℕ → Refusal
refusal_of k =
    cond (eqb k 1) TextTooLong
    (cond (eqb k 2) TextBytesMissing
    (cond (eqb k 3) PatternLength
    (cond (eqb k 4) PatternBytesMissing
    (cond (eqb k 17) FixedBytesMissing
    (cond (eqb k 5) PatternUnfit
    (cond (eqb k 6) BeyondEnd ScratchTooShort))))))

refusal_back : (r : Refusal) → refusal_of (number_of_refusal r) ≡ r
unfolding refusal_of
refusal_back TextTooLong = refl
refusal_back TextBytesMissing = refl
refusal_back PatternLength = refl
refusal_back PatternBytesMissing = refl
refusal_back FixedBytesMissing = refl
refusal_back PatternUnfit = refl
refusal_back BeyondEnd = refl
refusal_back ScratchTooShort = refl

pub stop_for : Ending → Stop
stop_for done = Done
stop_for spent = Spent
stop_for (full p) = Full (record { 0 = p })

pub stop_back : (s : Stop) → stop_for (ending_of s) ≡ s
unfolding stop_for
stop_back Done = refl
stop_back (Full p) = refl
stop_back Spent = refl

pub ending_back : (e : Ending) → ending_of (stop_for e) ≡ e
unfolding stop_for
ending_back done = refl
ending_back spent = refl
ending_back (full p) = refl

answer_for : Run → Answer
answer_for r =
    record {
      steps = r.steps;
      occurrences = length r.written;
      mark = record { at = record { 0 = r.mark } };
      stop = stop_for r.ending;
    }

carries_only : (a : Answer) (r : Run) → Carries a r → a ≡ answer_for r
unfolding answer_for
carries_only a r c = λ i. record {
  steps = c.steps i;
  occurrences = c.occurrences i;
  mark = record { at = record { 0 = c.mark i } };
  stop = (sym (stop_back a.stop) ∙ ap stop_for c.ending) i;
}

-- The scratch cells before the method's figure "are free after an accepted call (the only part left free)": on all else two
-- scratches agree
abbrev pub SameScratch : Request → Outcome → List ℕ → List ℕ → Type 0
SameScratch q (Ok a) s u =
    let figure = scratch_cells q.method q.pattern.count in
    (length s ≡ length u) × (drop figure s ≡ drop figure u)
SameScratch q (Err r) s u = s ≡ u

-- what two calls with the same request have in common
pub record Same (q : Request) (o p : Outcome) (l m s u : List ℕ) : Type 0 where
  pub outcome : o ≡ p
  pub list : l ≡ m
  pub scratch : SameScratch q o s u

-- one answer, one list and one scratch as the call returns
pub unique : (q : Request) (o p : Outcome) (l m s u : List ℕ) → Searched q o l s → Searched q p m u → Same q o p l m s u
unique q (Ok a) (Ok b) l m s u c d =
    record {
      outcome = ap {B = Outcome} Ok (carries_only a (machine q) c.answer ∙ sym (carries_only b (machine q) d.answer));
      list = c.list_is ∙ sym d.list_is;
      scratch = (c.scratch_length ∙ sym d.scratch_length, c.scratch_rest ∙ sym d.scratch_rest);
    }
unique q (Ok a) (Err r) l m s u c d = absurd (refused_not_accepted (verdict q) _ _ d.verdict_is c.verdict_is)
unique q (Err r) (Ok a) l m s u c d = absurd (refused_not_accepted (verdict q) _ _ c.verdict_is d.verdict_is)
unique q (Err r) (Err t) l m s u c d =
    let first = c.verdict_is in
    let second = d.verdict_is in
    let same : number_of_refusal r ≡ number_of_refusal t = cc in
    record {
      outcome = ap {B = Outcome} Err (sym (refusal_back r) ∙ ap refusal_of same ∙ refusal_back t);
      list = c.list_is ∙ sym d.list_is;
      scratch = c.scratch_is ∙ sym d.scratch_is;
    }

-- each number of the table has its refusal
numbered : (q : Request) (k : ℕ) → verdict q ≡ refused k → number_of_refusal (refusal_of k) ≡ k
unfolding refusal_of rows verdict
numbered q k h =
    given (machine q) (λ n. number_of_refusal (refusal_of n) ≡ n) (rows q) k
    (refl, (refl, (refl, (refl, (refl, (refl, (refl, (refl, tt)))))))) h

-- an answer for each request
pub record Answered (q : Request) : Type 0 where
  pub outcome : Outcome
  pub list : List ℕ
  pub scratch : List ℕ
  pub searched : Searched q outcome list scratch

pub answered : (q : Request) → Answered q
unfolding answer_for
answered q = go (verdict q) refl
  where
    go : (v : Verdict Run) → verdict q ≡ v → Answered q
    go (refused k) e =
        record {
          outcome = Err (refusal_of k);
          list = q.list;
          scratch = q.scratch;
          searched = record { verdict_is = e ∙ ap {B = Verdict Run} refused (sym (numbered q k e)); list_is = refl; scratch_is = refl };
        }
    go (accepted r) e =
        record {
          outcome = Ok (answer_for (machine q));
          list = (machine q).written ++ drop (length (machine q).written) q.list;
          scratch = q.scratch;
          searched =
              record {
                verdict_is = (accepted_iff q).1 (accepted_fail q r e);
                answer = record { steps = refl; occurrences = refl; mark = refl; ending = ending_back (machine q).ending };
                list_is = refl;
                scratch_length = refl;
                scratch_rest = refl;
              };
        }
