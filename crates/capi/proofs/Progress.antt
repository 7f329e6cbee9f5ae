-- A call from C that returned 0 is an accepted call of the library, so it moves the mark, or stays, as that one does; and calls
-- with no cell never leave an occurrence.
-- Assumes nothing.
use Prim.Native.Nat.{ℕ}
use mathlib.Core.Path.{◌≡◌, refl, sym, ap, ◌∙◌}
use mathlib.Core.Logic.{◌⊎◌, inl, inr}
use mathlib.Core.List.{List, [], ◌∷◌}
use mathlib.Core.Option.{some, some-ne-none, some-injective}
use native.Mathlib.Omega.{arith}
use lib.ListN.{length}
use Rattle.bits.specs.Packed.{Packed}
use Rattle.rules.specs.Pattern.{Pattern}
use Rattle.rules.specs.Occurrence.{Occurs}
use Rattle.std.specs.Prelude.{Ok, Err}
use Rattle.search.specs.Verdict.{Outcome}
use Rattle.search.specs.Calls as library
use Rattle.search.proofs.Progress as search
use Rattle.capi.specs.Scan.{stop_number, Searches}
use Rattle.capi.specs.CallList.{call_of, Made, mark_after, steps_in, stop_in, cell, AllMade, last_mark, all_steps}
use Rattle.capi.specs.Progress.{Progress, NoCells, Stuck}
use Rattle.capi.proofs.CallList.{stop_numbers, Skipped, Taken, each}

module _ (t : Packed) (w : Pattern) (s : ℕ) (c : Made) (zero : c.result ≡ 0) where
  -- the answer cells of a call that returned 0
  mark_is : mark_after s c ≡ cell 2 c
  mark_is = rw zero refl

  steps_are : steps_in c ≡ cell 0 c
  steps_are = rw zero refl

  stop_is : stop_in c ≡ some (cell 3 c)
  stop_is = rw zero refl

  by : Skipped t w s c ⊎ Taken t w s c → Progress t w s c
  by (inl k) = absurd (some-ne-none _ (sym stop_is ∙ k.stop))
  by (inr k) = go k.call.outcome refl
    where
      go : (o : Outcome) → k.call.outcome ≡ o → Progress t w s c
      go (Err y) e = absurd (some-ne-none _ (sym stop_is ∙ k.stop ∙ ap (λ (o : Outcome). stop_numbers (library.stop_of o)) e))
      go (Ok a) e =
          let p = search.progress (library.request_of t w s k.call.asked) a _ _ (rw e at k.searched) in
          let mark : cell 2 c ≡ a.mark.at.0 = sym mark_is ∙ k.mark ∙ ap (library.mark_of s) e in
          let steps : cell 0 c ≡ a.steps = sym steps_are ∙ k.steps ∙ ap library.steps_of e in
          let stop = some-injective _ _ (sym stop_is ∙ k.stop ∙ ap (λ (o : Outcome). stop_numbers (library.stop_of o)) e) in
          record {
            moves = λ inside b l. rw mark (p.moves inside (rw k.budget b) (rw k.list l));
            stays = λ o b l.
                let here = p.stays o (rw k.budget b) (rw k.list l) in
                (steps ∙ here.0, mark ∙ here.1, stop ∙ ap stop_number here.2);
          }

  pub progress : Searches (call_of t w s c.asked) c.result c.list_after c.scratch_after c.answer_after → Progress t w s c
  progress p = by (each t w s c p)

-- a call with no cell, from a mark at which the pattern stands
one_stuck : (t : Packed) (w : Pattern) (s : ℕ) (c : Made) → Skipped t w s c ⊎ Taken t w s c → Occurs t w s → length c.asked.list ≡ 0
    → (mark_after s c ≡ s) × (steps_in c ≡ 0)
one_stuck t w s c (inl k) here none = (k.mark, k.steps)
one_stuck t w s c (inr k) here none =
    let stop = search.one_stuck (library.request_of t w s k.call.asked) k.call.outcome _ _ k.searched here (rw k.list none) in
    (k.mark ∙ stop.0, k.steps ∙ stop.1)

-- Going on with no cell never ends: every list of such calls leaves the mark at the occurrence, and makes no step.
pub stuck : (t : Packed) (w : Pattern) (s : ℕ) → Occurs t w s → (calls : List Made) → AllMade t w s calls → NoCells calls → Stuck s calls
unfolding last_mark all_steps
stuck t w s here [] made none = record { mark = refl; steps = refl }
stuck t w s here (c ∷ cs) made none =
    let first = one_stuck t w s c (each t w s c made.0) here none.0 in
    let rest = stuck t w s here cs (rw first.0 at made.1) none.1 in
    record { mark = rw first.0 rest.mark; steps = omega (arith, first.1, rest.steps) }
