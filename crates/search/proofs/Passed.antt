-- The law about every list of calls, said once for a search and for a set of patterns, whatever a call finds. A call and a list
-- of calls leave the same kind of thing, so a list is its first call and then the rest.
use Prim.Native.Nat.{ℕ, ◌+◌, ◌≤◌}
use mathlib.Core.Path.{◌≡◌, refl, sym, ap₂, ◌∙◌}
use mathlib.Core.Logic.{◌↔◌, ◌⊎◌, inl, inr}
use mathlib.Core.List.Memᴰ
use mathlib.Core.List.{List, [], ◌∷◌, ◌++◌, Memᴰ}
use mathlib.Core.Option.{Option, none, some, none-ne-some, some-ne-none, some-injective}
use native.Mathlib.Omega.{arith}
use Rattle.rules.specs.Machine.{Ending, done, spent}
use Rattle.search.specs.Calls.{later}

-- The mark went from s to `mark`. `all a b` is what there is to find from a on and before b, and no mark is above E. What was
-- found is all there is. The last call that was accepted, if any was, said done just if the mark is E; if none was, the mark
-- stayed. Each step moved the mark.
pub record Passed {A : Type 0} (all : ℕ → ℕ → List A) (E s : ℕ) (found : List A) (steps : ℕ) (stop : Option Ending) (mark : ℕ) : Type 0 where
  pub found_are : found ≡ all s mark
  pub low : s ≤ mark
  pub high : mark ≤ E
  pub finished : (e : Ending) → stop ≡ some e → (e ≡ done) ↔ (mark ≡ E)
  pub unmoved : stop ≡ none → mark ≡ s
  pub bounded : steps + s ≤ mark

module _ {A : Type 0} (all : ℕ → ℕ → List A) (E s : ℕ) where
  -- no call, or a refused one
  pub none_passed : all s s ≡ [] → s ≤ E → Passed all E s [] 0 none s
  none_passed empty h =
      record {
        found_are = sym empty;
        low = omega arith;
        high = h;
        finished = λ e n. absurd (none-ne-some _ n);
        unmoved = λ n. refl;
        bounded = omega arith;
      }

  -- an accepted call
  pub one_passed : (found : List A) (steps : ℕ) (e : Ending) (mark : ℕ) → found ≡ all s mark → s ≤ mark → mark ≤ E
      → (e ≡ done) ↔ (mark ≡ E) → steps + s ≤ mark → Passed all E s found steps (some e) mark
  one_passed found steps e mark are low high iff bounded =
      record {
        found_are = are;
        low = low;
        high = high;
        finished = λ f n.
            let same : e ≡ f = some-injective _ _ n in
            (λ d. iff.0 (same ∙ d), λ m. sym same ∙ iff.1 m);
        unmoved = λ n. absurd (some-ne-none _ n);
        bounded = bounded;
      }

  -- one after the other
  module _ (append : (a b c : ℕ) → a ≤ b → b ≤ c → all a c ≡ all a b ++ all b c)
      (found more : List A) (k l : ℕ) (a b : Option Ending) (mid mark : ℕ)
      (first : Passed all E s found k a mid) (rest : Passed all E mid more l b mark) where
    finished_both : (x y : Option Ending) → a ≡ x → b ≡ y → (e : Ending) → later x y ≡ some e → (e ≡ done) ↔ (mark ≡ E)
    finished_both none none p q e h = absurd (none-ne-some _ h)
    finished_both (some i) none p q e h = rw (rest.unmoved q) (first.finished e (p ∙ h))
    finished_both none (some j) p q e h = rest.finished e (q ∙ h)
    finished_both (some i) (some j) p q e h = let last : b ≡ some e = cc in rest.finished e last

    unmoved_both : (x y : Option Ending) → a ≡ x → b ≡ y → later x y ≡ none → mark ≡ s
    unmoved_both none none p q h = rest.unmoved q ∙ first.unmoved p
    unmoved_both (some i) none p q h = absurd (some-ne-none _ h)
    unmoved_both none (some j) p q h = absurd (some-ne-none _ h)
    unmoved_both (some i) (some j) p q h = absurd (some-ne-none _ h)

    pub both_passed : Passed all E s (found ++ more) (k + l) (later a b) mark
    both_passed =
        record {
          found_are =
              ap₂ (λ (x y : List A). x ++ y) first.found_are rest.found_are ∙ sym (append s mid mark first.low rest.low);
          low = omega (arith, first.low, rest.low);
          high = rest.high;
          finished = finished_both a b refl refl;
          unmoved = unmoved_both a b refl refl;
          bounded = omega (arith, first.bounded, rest.bounded);
        }

-- A call keeps to its budget: one that said spent made all of its steps, and none made more.
pub record InBudget (budget steps : ℕ) (stop : Option Ending) : Type 0 where
  pub spent_all : stop ≡ some spent → steps ≡ budget
  pub within : steps ≤ budget

-- a refused call
pub none_spent : (budget : ℕ) → InBudget budget 0 none
none_spent budget = record { spent_all = λ n. absurd (none-ne-some _ n); within = omega arith }

-- what holds of the first and of each later one holds of each
pub each_of : {C : Type 0} (P : C → Type 0) (c : C) (cs : List C) → P c → ((d : C) → Memᴰ d cs → P d) → (d : C) → Memᴰ d (c ∷ cs) → P d
each_of P c cs h f d m = go (Memᴰ.cases_cons m)
  where
    go : (d ≡ c) ⊎ Memᴰ d cs → P d
    go (inl e) = rw e h
    go (inr n) = f d n
