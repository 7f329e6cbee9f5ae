-- The promise of the call for a set leaves nothing open: each request has an answer that meets it, and only one. And which numbers
-- a refusal can have.
-- Assumes nothing.
use Rattle.std.specs.Prelude.{Ok, Err}
use Prim.Native.Nat.{ℕ, zero, suc}
use mathlib.Core.Path.{◌≡◌, refl, sym, ap, ◌∙◌}
use mathlib.Core.Bool.{cond}
use mathlib.Core.List.{List, [], ◌∷◌}
use lib.Dec.{eqb}
use lib.ListN.{length}
use Rattle.bits.specs.Packed.{Packed}
use Rattle.search.specs.Verdict.{Verdict, refused, accepted, judge}
use Rattle.search.proofs.Verdict.{refused_not_accepted, Each, each_append, given, judge_accepted, accepted_judge}
use Rattle.search.proofs.Answers.{stop_for, stop_back, ending_back}
use Rattle.set.specs.declared.Answer.{Answer}
use Rattle.set.specs.declared.Refusal.{Refusal}
use Rattle.set.specs.declared.Refusal.TheVariants.{TextTooLong, TextBytesMissing, SetSize, PatternLength, PatternBytesMissing, FixedBytesMissing, BeyondEnd}
use Rattle.set_rules.specs.PatternSet.{PatternSet}
use Rattle.set_rules.specs.SetMachine.{SetRun}
use Rattle.set_rules.specs.Verdict.{Request, rows_from, mark_beyond, rows, machine, verdict, list_after}
use Rattle.set.specs.Promise.{Outcome, number_of_refusal, Carries, Searched}

-- ---- the numbers that are given

pattern_rows : (P : ℕ → Type 0) (ws : PatternSet) → P 3 → P 4 → P 17 → (i k : ℕ) → Each P (rows_from ws i k)
unfolding rows_from
pattern_rows P ws a b c i zero = tt
pattern_rows P ws a b c i (suc k) = (a, (b, (c, pattern_rows P ws a b c (suc i) k)))

-- 1, 2, 18, 3, 4, 17 and 6, and no others
pub numbers_are : (P : ℕ → Type 0) → P 1 → P 2 → P 18 → P 3 → P 4 → P 17 → P 6
    → {A : Type 0} (a : A) (t : Packed) (ws : PatternSet) (s k : ℕ) → judge (rows t ws s) a ≡ refused k → P k
unfolding rows
numbers_are P one two eighteen three four seventeen six a t ws s k h =
    given a P (rows t ws s) k
    (one, (two, (eighteen, each_append P (rows_from ws 0 (length ws.counts)) (mark_beyond t ws s ∷ []) (pattern_rows P ws three four seventeen 0 (length ws.counts)) (six, tt)))) h

-- ---- one answer for each request

refusal_of : ℕ → Refusal
refusal_of k =
    cond (eqb k 1) TextTooLong
    (cond (eqb k 2) TextBytesMissing
    (cond (eqb k 18) SetSize
    (cond (eqb k 3) PatternLength
    (cond (eqb k 4) PatternBytesMissing
    (cond (eqb k 17) FixedBytesMissing BeyondEnd)))))

refusal_back : (r : Refusal) → refusal_of (number_of_refusal r) ≡ r
unfolding refusal_of
refusal_back TextTooLong = refl
refusal_back TextBytesMissing = refl
refusal_back SetSize = refl
refusal_back PatternLength = refl
refusal_back PatternBytesMissing = refl
refusal_back FixedBytesMissing = refl
refusal_back BeyondEnd = refl

numbered : (q : Request) (k : ℕ) → verdict q ≡ refused k → number_of_refusal (refusal_of k) ≡ k
unfolding refusal_of verdict
numbered q k h = numbers_are (λ n. number_of_refusal (refusal_of n) ≡ n) refl refl refl refl refl refl refl (machine q) q.text q.patterns q.mark k h

answer_for : SetRun → Answer
answer_for r =
    record {
      steps = r.steps;
      occurrences = length r.written;
      mark = record { at = record { 0 = r.mark } };
      stop = stop_for r.ending;
    }

carries_only : (a : Answer) (r : SetRun) → Carries a r → a ≡ answer_for r
unfolding answer_for
carries_only a r c = λ i. record {
  steps = c.steps i;
  occurrences = c.occurrences i;
  mark = record { at = record { 0 = c.mark i } };
  stop = (sym (stop_back a.stop) ∙ ap stop_for c.ending) i;
}

-- what two calls with the same request have in common
pub record Same (o p : Outcome) (l m : List ℕ) : Type 0 where
  pub outcome : o ≡ p
  pub list : l ≡ m

pub unique : (q : Request) (o p : Outcome) (l m : List ℕ) → Searched q o l → Searched q p m → Same o p l m
unique q (Ok a) (Ok b) l m c d =
    record {
      outcome = ap {B = Outcome} Ok (carries_only a (machine q) c.answer ∙ sym (carries_only b (machine q) d.answer));
      list = c.list_is ∙ sym d.list_is;
    }
unique q (Ok a) (Err r) l m c d = absurd (refused_not_accepted (verdict q) _ _ d.verdict_is c.verdict_is)
unique q (Err r) (Ok a) l m c d = absurd (refused_not_accepted (verdict q) _ _ c.verdict_is d.verdict_is)
unique q (Err r) (Err t) l m c d =
    let first = c.verdict_is in
    let second = d.verdict_is in
    let same : number_of_refusal r ≡ number_of_refusal t = cc in
    record { outcome = ap {B = Outcome} Err (sym (refusal_back r) ∙ ap refusal_of same ∙ refusal_back t); list = c.list_is ∙ sym d.list_is }

-- an answer for each request
pub record Answered (q : Request) : Type 0 where
  pub outcome : Outcome
  pub list : List ℕ
  pub searched : Searched q outcome list

pub answered : (q : Request) → Answered q
unfolding answer_for verdict
answered q = go (verdict q) refl
  where
    go : (v : Verdict SetRun) → verdict q ≡ v → Answered q
    go (refused k) e =
        record {
          outcome = Err (refusal_of k);
          list = q.list;
          searched = record { verdict_is = e ∙ ap {B = Verdict SetRun} refused (sym (numbered q k e)); list_is = refl };
        }
    go (accepted r) e =
        record {
          outcome = Ok (answer_for (machine q));
          list = list_after (machine q) q.list;
          searched =
              record {
                verdict_is = accepted_judge (machine q) (rows q.text q.patterns q.mark) (judge_accepted (machine q) (rows q.text q.patterns q.mark) r e).0;
                answer = record { steps = refl; occurrences = refl; mark = refl; ending = ending_back (machine q).ending };
                list_is = refl;
              };
        }
