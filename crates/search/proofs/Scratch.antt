-- The scratch is room for the tables and nothing else: two calls that differ in it alone, each with enough cells, come to the
-- same answer, list and mark. And the figure that is told by itself is just what a search needs.
-- Assumes nothing.
use Rattle.std.specs.Prelude.{Ok, Err}
use Prim.Native.Nat.{ℕ}
use mathlib.Core.Path.{◌≡◌, refl, sym, ◌∙◌}
use mathlib.Core.Bool.{Bool, true, false, cond, ◌&&◌}
use mathlib.Core.List.{List, [], ◌∷◌}
use native.Mathlib.Omega.{arith}
use borrow.Author.Tests.{le-ltb, ltb-false, eq-eqb}
use lib.Dec.{eqb}
use lib.ListN.{length}
use Rattle.rules.specs.declared.Method.{Method}
use Rattle.rules.specs.Scratch.{scratch_cells}
use Rattle.search.specs.Verdict.{Outcome, Request, Row, refused, accepted, rows, judge, machine, verdict, scratch_verdict, Searched}
use Rattle.search.specs.Scratch.{with_scratch, Enough, SameAnswers, Needs}
use Rattle.search.proofs.Verdict.{judge_accepted, accepted_fail}
use Rattle.search.proofs.Answers.{unique}

-- ---- two calls that differ in the scratch alone

module _ (q : Request) (other : List ℕ) (enough : Enough q) (enough' : Enough (with_scratch q other)) where
  -- the machine does not see the scratch, and neither scratch is refused
  pub verdict_same : verdict (with_scratch q other) ≡ verdict q
  unfolding verdict rows machine
  verdict_same = rw (le-ltb _ _ enough, le-ltb _ _ enough')

  -- the promise of the second call is one about the first
  as_first : (p : Outcome) (list scratch : List ℕ) → Searched (with_scratch q other) p list scratch → Searched q p list q.scratch
  unfolding machine
  as_first (Ok a) list scratch s =
      record {
        verdict_is = sym verdict_same ∙ s.verdict_is;
        answer = s.answer;
        list_is = s.list_is;
        scratch_length = refl;
        scratch_rest = refl;
      }
  as_first (Err r) list scratch s =
      record { verdict_is = sym verdict_same ∙ s.verdict_is; list_is = s.list_is; scratch_is = refl }

  pub same_answers : (o p : Outcome) (l k s u : List ℕ) → Searched q o l s → Searched (with_scratch q other) p k u → SameAnswers o p l k
  same_answers o p l k s u first second =
      let same = unique q o p l k s q.scratch first (as_first p k u second) in
      record { outcome = same.outcome; lists = same.list }

-- ---- the figure by itself

-- a number is not given where no row of that number holds
abbrev Spared : ℕ → List Row → Type 0
Spared k [] = Unit
Spared k (r ∷ rest) = ((eqb r.number k && r.holds) ≡ false) × Spared k rest

not_given : {A : Type 0} (a : A) (k : ℕ) (table : List Row) → Spared k table → judge table a ≡ refused k → ⊥
unfolding judge
not_given a k [] s h = let z : ◌≡◌ {A = ℕ} 0 1 = cc in omega arith
not_given a k (r ∷ rest) s h = go r.holds refl (not_given a k rest s.1) h
  where
    go : (b : Bool) → r.holds ≡ b → (judge rest a ≡ refused k → ⊥) → cond b (refused r.number) (judge rest a) ≡ refused k → ⊥
    go true e ih g =
        let same : r.number ≡ k = cc in
        let given : (eqb r.number k && r.holds) ≡ true = rw (eq-eqb r.number k same, e) in
        let z : ◌≡◌ {A = Bool} true false = sym given ∙ s.0 in
        let one : ◌≡◌ {A = ℕ} 0 1 = cc in
        omega arith
    go false e ih g = ih g

-- no refusal has the number 0
pub search_not_zero : (q : Request) → verdict q ≡ refused 0 → ⊥
unfolding verdict rows
search_not_zero q = not_given (machine q) 0 (rows q) (refl, (refl, (refl, (refl, (refl, (refl, (refl, (refl, tt))))))))

pub cells_not_zero : (x : Method) (m : ℕ) → scratch_verdict x m ≡ refused 0 → ⊥
unfolding scratch_verdict
cells_not_zero x m = not_given (scratch_cells x m) 0 _ (refl, (refl, tt))

-- what is told is the figure
pub told_figure : (x : Method) (m k : ℕ) → scratch_verdict x m ≡ accepted k → k ≡ scratch_cells x m
unfolding scratch_verdict
told_figure x m k h = (judge_accepted (scratch_cells x m) _ k h).1

pub needs : (q : Request) (k : ℕ) → scratch_verdict q.method q.pattern.count ≡ accepted k → Needs q k
unfolding verdict rows
needs q k told =
    let figure = told_figure q.method q.pattern.count k told in
    record {
      enough = λ h.
          not_given (machine q) 7 (rows q) (refl, (refl, (refl, (refl, (refl, (refl, (refl, (le-ltb _ _ (rw figure at h), tt))))))));
      least = λ few r h.
          let room = ltb-false (length q.scratch) (scratch_cells q.method q.pattern.count) (accepted_fail q r h).1.1.1.1.1.1.1.0 in
          omega (arith, room, figure);
    }
