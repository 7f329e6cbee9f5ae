use Prim.Native.Nat.{ℕ, ◌+◌, ◌≤◌}
use mathlib.Core.Path.{◌≡◌, refl, sym, ap, ◌∙◌}
use mathlib.Core.Bool.{◌&&◌, and-true}
use mathlib.Core.Logic.{inl, inr}
use mathlib.Core.List.{[], ◌∷◌, ◌++◌}
use native.Mathlib.Omega.{arith}
use lib.Dec.{ltb}
use lib.ListN.{length, get_or, length-append, length-drop}
use Rattle.std.specs.Prelude.{Option, Some, None}
use Rattle.std.specs.Borrow.{Bor}
use Rattle.std.specs.Option.{unwrap_or, option_copied}
use Rattle.std.proofs.lemmas.Option.{unwrap_or-slice_get}
use Rattle.positions.specs.Basics.{limit}
use Rattle.positions.proofs.Rising.{next, last_of, found_here, rises_first, rises_none, rises_end}
use Rattle.positions.proofs.writer.rises.Goals as goal

pub returns-in_default : goal.returns-in_default
returns-in_default c = sym (rises_none c.args.list.now c.in_default.ensures.cases)

pub loop-p-init : goal.loop-p-init
loop-p-init c =
    let list = c.args.list.now in
    let e = c.into_iter-p-iterator.ensures.into_iter_gives in
    let others = next list 0 _ _ c.in-Some.ensures.cases.0 in (
      others.inside,
      rw (e, c.zip-p-items.ensures.first) c.iter.ensures.rest,
      rw e (c.zip-p-items.ensures.second.0 ∙ others.rest_is),
      rises_first list others.inside,
    )

pub loop-p-preserved : goal.loop-p-preserved
loop-p-preserved c =
    let list = c.args.list.now in
    let l = c.loop-p in
    let k = length l.yielded in
    let p = next list k _ _ (sym l.invariant.1 ∙ c.in-Some-2.ensures.steps.0) in
    let q = next list (k + 1) _ _ (sym l.invariant.2 ∙ c.in-Some-2.ensures.steps.1) in
    let more : length (l.yielded ++ (c.in-Some-2.field-0-0, c.in-Some-2.field-0-1) ∷ []) ≡ k + 1 = length-append l.yielded _ in
    rw more (q.inside, p.rest_is, q.rest_is, rw (p.first_is, q.first_is) (found_here list (k + 1) q.inside l.good (get_or list k 0) ∙ l.invariant.3))

copied_or : (r : Option (Bor ℕ)) (x : Bor ℕ) → (unwrap_or r x).now ≡ unwrap_or (option_copied r) x.now
copied_or None x = refl
copied_or (Some y) x = refl

pub returns : goal.returns
returns c =
    let list = c.args.list.now in
    let l = c.loop-p in
    let k = length l.yielded in
    let all = c.in-Some.ensures.cases.0 in
    let past : length list ≤ k + 1 = elim c.in-None.ensures.steps [
      | inl x ↦ omega (arith, ap length l.invariant.1, length-drop k list, x.1.0)
      | inr x ↦ omega (arith, ap length l.invariant.2, length-drop (k + 1) list, x.1.0)
    ] in
    let at : length c.in-Some.others.now ≡ k = omega (arith, ap length all) in
    let last : c.unwrap_or.result.now ≡ get_or list k 0 =
    ap (λ (x : Bor ℕ). x.now) c.unwrap_or.ensures
    ∙ copied_or c.last.result _
    ∙ ap (λ (o : Option ℕ). unwrap_or o c.in-Some.field-0-0.now) c.last.ensures.value
    ∙ unwrap_or-slice_get c.in-Some.others.now _ _
    ∙ last_of c.in-Some.field-0-0.now c.in-Some.others.now
    ∙ (λ j. get_or (sym all j) (at j) 0) in
    rw last
    (ap (λ b. l.good && b) (sym (and-true (ltb (get_or list k 0) limit)))
    ∙ ap (λ b. l.good && (ltb (get_or list k 0) limit && b)) (sym (rises_end list (k + 1) past (get_or list k 0 + 1)))
    ∙ l.invariant.3)
