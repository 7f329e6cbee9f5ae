use mathlib.Core.Path.{◌≡◌, sym, ◌∙◌}
use mathlib.Core.Bool.{true}
use native.Mathlib.Omega.{arith}
use Rattle.rules.specs.Occurrence.{occurs}
use Rattle.set_rules.specs.PatternSet.{pattern_at}
use Rattle.set.specs.Parts.{text_in, set_in}
use Rattle.set.proofs.Standing.{finding_none, found, few_found, lowest_flagged, lowest_known, lowest_begins, finding_miss, finding_hit}
use Rattle.set.proofs.Listing.{stands_flagged}
use Rattle.set.proofs.finder.Finder.find.Goals as goal
use Rattle.set.proofs.finder.Finder.find.Goals.{then-all-via-then-all, then-all-via-else-all+then-stands}

pub loop-i-init : goal.loop-i-init
loop-i-init c =
    let a = c.args in
    rw c.into_iter-i-iterator.ensures.into_iter_gives (finding_none (text_in a.self.now) (set_in a.self.now) a.p.0 a.flags a.self.now.good.few c.requires.flags a.numbers.now)

pub stands-requires-clause-known : goal.stands-requires-clause-known
stands-requires-clause-known c =
    let a = c.args in
    lowest_known (text_in a.self.now) (set_in a.self.now) a.p.0 a.flags a.self.now.good.few c.requires.flags a.numbers.now _ _ _ c.loop-i.invariant _ _ c.in-Some.ensures.steps

pub stands-requires-clause-begins_there : goal.stands-requires-clause-begins_there
stands-requires-clause-begins_there c =
    let a = c.args in
    (c.requires.p_bound, lowest_begins (text_in a.self.now) (set_in a.self.now) a.p.0 a.flags a.self.now.good.few c.requires.flags a.numbers.now _ _ _ c.loop-i.invariant _ _ c.in-Some.ensures.steps)

pub bounds-numbers-count : goal.bounds-numbers-count
bounds-numbers-count c =
    let a = c.args in
    let few = few_found (text_in a.self.now) (set_in a.self.now) a.p.0 a.flags a.self.now.good.few c.requires.flags a.numbers.now _ _ _ c.loop-i.invariant _ _ c.in-Some.ensures.steps in
    omega (arith, few, c.loop-i.auto.numbers, c.requires.numbers_there)

pub loop-i-preserved-in-loop-i : goal.loop-i-preserved-in-loop-i
loop-i-preserved-in-loop-i c =
    let a = c.args in
    let t = text_in a.self.now in
    let ws = set_in a.self.now in
    let few = a.self.now.good.few in
    let l = c.loop-i in
    let taken = c.in-Some.ensures.steps in
    let known = lowest_known t ws a.p.0 a.flags few c.requires.flags a.numbers.now _ _ _ l.invariant _ _ taken in
    let on = lowest_flagged t ws a.p.0 a.flags few c.requires.flags a.numbers.now _ _ _ l.invariant _ _ taken in
    let room = few_found t ws a.p.0 a.flags few c.requires.flags a.numbers.now _ _ _ l.invariant _ _ taken in
    let there : occurs t (pattern_at ws c.in-Some.i) a.p.0 ≡ true =
    elim c.then-all.branch [
      | then-all-via-then-all w ↦
          let h = c.all_stand-all.ensures w.if-all.true in
          sym (stands_flagged t ws a.p.0 a.flags a.self.now.sure.until a.self.now.sure.long few a.self.now.lengths c.requires.flags h.0 h.1 c.in-Some.i known) ∙ on
      | then-all-via-else-all+then-stands w ↦ sym w.stands.ensures ∙ w.if-stands.true
    ] in
    finding_hit t ws a.p.0 a.flags few c.requires.flags a.numbers.now l.numbers _ l.count l.invariant _ _ taken there (omega (arith, room, c.requires.numbers_there))

pub loop-i-preserved : goal.loop-i-preserved
loop-i-preserved c =
    let a = c.args in
    finding_miss (text_in a.self.now) (set_in a.self.now) a.p.0 a.flags a.self.now.good.few c.requires.flags a.numbers.now _ _ _ c.loop-i.invariant _ _ c.in-Some.ensures.steps
    (sym c.stands.ensures ∙ c.if-stands.false)

pub returns : goal.returns
returns c =
    let a = c.args in
    found (text_in a.self.now) (set_in a.self.now) a.p.0 a.flags a.self.now.good.few c.requires.flags a.numbers.now _ _ _ c.loop-i.invariant c.in-None.ensures.steps.0
