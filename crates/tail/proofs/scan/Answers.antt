use borrow.Author.Tests.{eqb-true, eqb-false}
use mathlib.Core.Path.{◌≡◌, refl, sym, ap, ◌∙◌}
use mathlib.Core.Bool.{Bool, true, false}
use mathlib.Core.List.{List}
use Prim.Native.Nat.{ℕ, ◌+◌, ◌-◌, ◌/◌, ◌^◌, ◌≤◌, ◌<◌, min}
use native.Mathlib.Nat.{le_antisymm, le_of_lt}
use native.Mathlib.Omega.{arith}
use lib.Bits.{bit_and, bit_xor}
use lib.Dec.{eqb}
use lib.ListN.{length}
use Rattle.rules.specs.declared.Method.TheVariants.{Tail}
use Rattle.rules.specs.Occurrence.{places, matches}
use Rattle.rules.specs.Step.{next}
use Rattle.matcher.specs.Asked.{text_in, pattern_in}
use Rattle.matcher.specs.Progress.{Stepped, Advanced}
use Rattle.matcher.proofs.Writing.{writing_length, alone_cut, alone_hit, alone_miss}
use Rattle.matcher.proofs.Advancing.{counted, advanced_none, advanced_step}
use Rattle.tail.specs.Lengths.{Longest, Moves}
use Rattle.tail.proofs.TailSteps.{stays, not_both, counts, one_made, before_end, at_most_min, Held, held, next_by, window_hit, window_miss, finds_alone}
use Rattle.tail.proofs.scan.Goals as goal
use Rattle.tail.proofs.scan.Goals.{then-x-last, else-x-last, then-found+else-list-hits, else-found, then-loop-at-test+else-steps-budget, else-loop-at-test, After-new-k, At-loop-at, Joined-found, Joined-x-last, Start, Then-steps-budget}

-- the list keeps its length, and what is written fits into it
size : (c : At-loop-at) → length c.loop-at.list ≡ length c.args.list.now
size c = writing_length _ _ _ _ _ c.loop-at.invariant.0.writing

room : (c : At-loop-at) → c.loop-at.hits ≤ length c.loop-at.list
room c = rw (size c) c.loop-at.invariant.0.writing.fits

-- what the call holds of the pattern
holds : (c : After-new-k) → Held (pattern_in c.args.search.now.query) c.new-k.result
holds c =
    held (text_in c.args.search.now.query) (pattern_in c.args.search.now.query) c.args.search.now.cells.now c.args.search.now.ready c.new-k.result c.new-k.ensures.given c.new-k.ensures.made

-- the move from a window
move_of : (c : After-new-k) (x r : ℕ) → let k = c.new-k.result in Longest k.m k.zeros k.ones x r → Moves k x (c.args.search.now.query.pattern.m - r)
move_of c x r longest = record { length = r; longest = longest; is = ap (λ (m : ℕ). m - r) (sym c.new-k.ensures.given.0) }

-- the place of this turn lies before the end of the places
inside : (c : Then-steps-budget) → c.loop-at.at < places (text_in c.args.search.now.query) (pattern_in c.args.search.now.query)
inside c = before_end _ _ _ c.args.search.now.ready.inside c.loop-at-test.true

-- a step more from there
more : (c : Then-steps-budget) (at hits : ℕ) (no_cell : Bool) (list : List ℕ)
    → let a = c.args in
    let l = c.loop-at in
    Stepped Tail (text_in c.args.search.now.query) (pattern_in c.args.search.now.query) l.at l.list l.hits at hits no_cell list
    → Advanced Tail (text_in c.args.search.now.query) (pattern_in c.args.search.now.query) a.s.0 a.budget a.list.now 0 at (counted no_cell l.steps) hits no_cell list
more c at hits no_cell list u =
    let a = c.args in
    let l = c.loop-at in
    let here : min l.at (places (text_in c.args.search.now.query) (pattern_in c.args.search.now.query)) ≡ l.at = at_most_min _ _ (le_of_lt (inside c)) in
    advanced_step Tail (text_in c.args.search.now.query) (pattern_in c.args.search.now.query) a.s.0 a.budget a.list.now 0 l.at l.steps l.hits l.list (omega arith) (rw here at l.invariant.0)
    at hits no_cell list (inside c) c.if-steps-budget.true u

-- the first step is made from the mark
first : (c : Then-steps-budget) (at hits : ℕ) (no_cell : Bool) (list : List ℕ)
    → let a = c.args in
    let l = c.loop-at in
    Stepped Tail (text_in c.args.search.now.query) (pattern_in c.args.search.now.query) l.at l.list l.hits at hits no_cell list
    → l.steps ≡ 0 → Stepped Tail (text_in c.args.search.now.query) (pattern_in c.args.search.now.query) a.s.0 a.list.now 0 at hits no_cell list
first c at hits no_cell list u e = let i = c.loop-at.invariant.4 e in rw (i.0, i.1, i.2) at u

-- what the window of this turn tells, whether it is read off it or was by the last one
told : (c : Joined-x-last)
    → let k = c.new-k.result in
    let m = c.args.search.now.query.pattern.m in
    let x = c.window-x.result in
    Moves k x c.if-x-last.far × (c.if-x-last.found ≡ eqb (bit_and (bit_xor x (k.ones / 2 ^ (64 - m))) (k.care / 2 ^ (64 - m))) 0) × (c.if-x-last.last ≡ x)
told c =
    let move_of : (x r : ℕ) → let k = c.new-k.result in Longest k.m k.zeros k.ones x r → Moves k x (c.args.search.now.query.pattern.m - r) = λ x r longest. record { length = r; longest = longest; is = ap (λ (m : ℕ). m - r) (sym c.new-k.ensures.given.0) } in
    let l = c.loop-at in
    elim c.if-x-last.branch [
      | then-x-last w ↦ rw (w.last-is, w.far-is, w.found-is) (move_of _ _ w.longest-then-x-last.ensures, refl, refl)
      | else-x-last w ↦ let same : c.window-x.result ≡ l.last = w.if-x-last.false in rw (w.last-is, w.far-is, w.found-is, same) (l.invariant.2, l.invariant.3, refl)
    ]

-- the next mark
moved : (c : Joined-x-last)
    → let l = c.loop-at in
    (min (l.at + c.if-x-last.far) (places (text_in c.args.search.now.query) (pattern_in c.args.search.now.query)) ≡ next Tail (text_in c.args.search.now.query) (pattern_in c.args.search.now.query) l.at) × (l.at + c.if-x-last.far ≤ c.args.search.now.query.n)
moved c =
    let holds : Held (pattern_in c.args.search.now.query) c.new-k.result = held (text_in c.args.search.now.query) (pattern_in c.args.search.now.query) c.args.search.now.cells.now c.args.search.now.ready c.new-k.result c.new-k.ensures.given c.new-k.ensures.made in
    let inside : c.loop-at.at < places (text_in c.args.search.now.query) (pattern_in c.args.search.now.query) = before_end _ _ _ c.args.search.now.ready.inside c.loop-at-test.true in
    let moves = (told c).0 in (
      sym (next_by (text_in c.args.search.now.query) (pattern_in c.args.search.now.query) _ c.new-k.result holds _ c.window-x.ensures _ moves),
      stays _ _ _ _ (omega (arith, moves.is, c.new-k.ensures.given.0)) c.args.search.now.ready.inside inside,
    )

-- whether the pattern stands at the place
hit : (c : Joined-x-last) → c.if-x-last.found ≡ true → matches (text_in c.args.search.now.query) (pattern_in c.args.search.now.query) c.loop-at.at ≡ true
hit c e =
    let holds : Held (pattern_in c.args.search.now.query) c.new-k.result = held (text_in c.args.search.now.query) (pattern_in c.args.search.now.query) c.args.search.now.cells.now c.args.search.now.ready c.new-k.result c.new-k.ensures.given c.new-k.ensures.made in
    window_hit (text_in c.args.search.now.query) (pattern_in c.args.search.now.query) _ c.new-k.result holds _ c.window-x.ensures (eqb-true _ _ (sym (told c).1 ∙ e))

miss : (c : Joined-x-last) → c.if-x-last.found ≡ false → matches (text_in c.args.search.now.query) (pattern_in c.args.search.now.query) c.loop-at.at ≡ false
miss c e =
    let holds : Held (pattern_in c.args.search.now.query) c.new-k.result = held (text_in c.args.search.now.query) (pattern_in c.args.search.now.query) c.args.search.now.cells.now c.args.search.now.ready c.new-k.result c.new-k.ensures.given c.new-k.ensures.made in
    window_miss (text_in c.args.search.now.query) (pattern_in c.args.search.now.query) _ c.new-k.result holds _ c.window-x.ensures (eqb-false _ _ (sym (told c).1 ∙ e))

-- whether the place is written or not, it is as a step does it
one : (c : Joined-found)
    → let l = c.loop-at in
    let t = text_in c.args.search.now.query in
    let w = pattern_in c.args.search.now.query in
    min (l.at + c.if-x-last.far) (places t w) ≡ next Tail t w l.at
    → (c.if-x-last.found ≡ true → matches t w l.at ≡ true)
    → (c.if-x-last.found ≡ false → matches t w l.at ≡ false)
    → l.hits ≤ length l.list
    → Stepped Tail t w l.at l.list l.hits (min (l.at + c.if-x-last.far) (places t w)) c.if-found.hits false c.if-found.list
one c moves stands falls room =
    let l = c.loop-at in
    let t = text_in c.args.search.now.query in
    let w = pattern_in c.args.search.now.query in
    let alone = finds_alone t w l.at in
    elim c.if-found.branch [
      | then-found+else-list-hits b ↦ rw (b.hits-is, b.list-is) (alone_hit Tail t w l.at l.list l.hits alone _ moves (stands b.if-found.true) b.if-list-hits.false)
      | else-found b ↦ rw (b.hits-is, b.list-is) (alone_miss Tail t w l.at l.list l.hits alone _ moves (falls b.if-found.false) room)
    ]

pub longest-requires : goal.longest-requires
longest-requires c = let h = holds (goal.at.longest-requires c).After-new-k in (rw h.count c.args.search.now.ready.pattern.some_bits, rw h.count h.short, h.made)

pub loop-at-init : goal.loop-at-init
loop-at-init c =
    let a = c.args in
    let here : min a.s.0 (places (text_in c.args.search.now.query) (pattern_in c.args.search.now.query)) ≡ a.s.0 = at_most_min _ _ c.requires in (
      rw here (advanced_none Tail (text_in c.args.search.now.query) (pattern_in c.args.search.now.query) a.s.0 a.budget a.list.now 0 (omega arith) c.requires),
      omega (arith, c.args.search.now.ready.pattern.some_bits, c.requires),
      move_of (goal.at.loop-at-init c).After-new-k _ _ c.longest.ensures,
      refl,
      λ _. (refl, refl, refl),
      λ e. absurd (not_both 0 refl e),
    )

pub longest-requires-then-x-last : goal.longest-requires-then-x-last
longest-requires-then-x-last c = let h = holds (goal.at.longest-requires-then-x-last c).After-new-k in (rw h.count c.args.search.now.ready.pattern.some_bits, rw h.count h.short, h.made)

pub returns-then-list-hits : goal.returns-then-list-hits
returns-then-list-hits c =
    let l = c.loop-at in
    let few : l.steps < c.args.budget = c.if-steps-budget.true in
    let cut = alone_cut Tail (text_in c.args.search.now.query) (pattern_in c.args.search.now.query) l.at l.list l.hits (finds_alone (text_in c.args.search.now.query) (pattern_in c.args.search.now.query) l.at) (hit (goal.at.returns-then-list-hits c).Joined-x-last c.if-found.true) (le_antisymm (room (goal.at.returns-then-list-hits c).At-loop-at) c.if-list-hits.true) in
    record { advanced = more (goal.at.returns-then-list-hits c).Then-steps-budget _ _ _ _ cut; one_step = λ e _. let none : l.steps ≡ 0 = omega arith in (first (goal.at.returns-then-list-hits c).Then-steps-budget _ _ _ _ cut none, none) }

pub loop-at-preserved : goal.loop-at-preserved
loop-at-preserved c =
    let t = told (goal.at.loop-at-preserved c).Joined-x-last in
    let j = (goal.at.loop-at-preserved c).Joined-x-last in
    let u = one (goal.at.loop-at-preserved c).Joined-found (moved j).0 (hit j) (miss j) (room (goal.at.loop-at-preserved c).At-loop-at) in (
      more (goal.at.loop-at-preserved c).Then-steps-budget _ _ _ _ u,
      (moved (goal.at.loop-at-preserved c).Joined-x-last).1,
      rw t.2 t.0,
      rw t.2 t.1,
      λ e. absurd (counts _ e),
      λ e. first (goal.at.loop-at-preserved c).Then-steps-budget _ _ _ _ u (omega arith),
    )

pub returns : goal.returns
returns c =
    let a = c.args in
    let q = a.search.now.query in
    let l = c.loop-at in
    let end : q.n - q.pattern.m + 1 ≡ places (text_in q) (pattern_in q) = omega (arith, a.search.now.ready.inside) in
    let few = l.invariant.0.within in record {
      advanced = rw (c.cut.ensures, end) l.invariant.0;
      one_step = λ one here.
          let made : l.steps ≡ 1 = elim c.loop-at-test.branch [
            | then-loop-at-test+else-steps-budget u ↦ let spent : a.budget ≤ l.steps = u.if-steps-budget.false in omega arith
            | else-loop-at-test u ↦ one_made l.steps l.at a.s.0 _ (omega arith) here (rw end at u.loop-at-test.false) (λ e. (l.invariant.4 e).0)
          ] in
          (rw (c.cut.ensures, end) (l.invariant.5 made), made);
    }
