use Prim.Native.Nat.{ℕ, ◌+◌, ◌-◌, ◌*◌, ◌≤◌}
use mathlib.Core.Path.{refl, sym, ◌∙◌}
use mathlib.Core.Bool.{false≢true}
use native.Mathlib.Omega.{arith}
use lib.ListN.{length, take, length-replicate, length-take}
use Rattle.matcher.proofs.Writing.{writing_length}
use Rattle.set.specs.Parts.{text_in, set_in}
use Rattle.set.proofs.Running.{pairs_rest}
use Rattle.set.proofs.Blocks.{turning_none, turned_all, inside, lowest_late, passed_to, turned_more}
use Rattle.set.proofs.finder.Finder.block.Goals as goal

pub loop-e-init : goal.loop-e-init
loop-e-init c =
    let a = c.args in
    rw c.into_iter-e-iterator.ensures.into_iter_gives (turning_none (text_in a.self.now) (set_in a.self.now) a.found.now a.base.0 a.from.0 a.to.0 c.requires c.marks.result c.marks.ensures a.list.now _ (length-replicate {A = ℕ} 64 0))

pub overflow_add-p : goal.overflow_add-p
overflow_add-p c =
    let a = c.args in
    let b = c.requires in
    omega (arith, inside (text_in a.self.now) (set_in a.self.now) a.found.now a.base.0 a.from.0 a.to.0 c.requires a.list.now _ _ _ _ c.loop-e.invariant _ _ c.in-Some.ensures.steps, b.low, b.near, b.few_places)

pub returns-then-to-p : goal.returns-then-to-p
returns-then-to-p c =
    let a = c.args in
    record {
      listing = passed_to (text_in a.self.now) (set_in a.self.now) a.found.now a.base.0 a.from.0 a.to.0 c.requires a.list.now _ _ _ _ c.loop-e.invariant _ _ c.in-Some.ensures.steps a.to.0 c.loop-e.invariant.upto c.if-to-p.true;
      whole = λ e. refl;
      no_room = λ e. absurd (false≢true e);
    }

pub overflow_sub-result : goal.overflow_sub-result
overflow_sub-result c =
    let a = c.args in
    omega (arith, c.loop-e.invariant.listing.from, lowest_late (text_in a.self.now) (set_in a.self.now) a.found.now a.base.0 a.from.0 a.to.0 c.requires a.list.now _ _ _ _ c.loop-e.invariant _ _ c.in-Some.ensures.steps)

pub returns-then-room-hits : goal.returns-then-room-hits
returns-then-room-hits c =
    let a = c.args in
    let late = lowest_late (text_in a.self.now) (set_in a.self.now) a.found.now a.base.0 a.from.0 a.to.0 c.requires a.list.now _ _ _ _ c.loop-e.invariant _ _ c.in-Some.ensures.steps in (
      record {
        listing = passed_to (text_in a.self.now) (set_in a.self.now) a.found.now a.base.0 a.from.0 a.to.0 c.requires a.list.now _ _ _ _ c.loop-e.invariant _ _ c.in-Some.ensures.steps (a.base.0 + c.in-Some.e) (omega (arith, late)) (omega arith);
        whole = λ e. absurd (false≢true (sym e));
        no_room = λ e. (c.if-to-p.false, omega (arith, c.if-room-hits.true, c.find-count.ensures.count));
      },
      refl,
    )

pub loop-e-preserved : goal.loop-e-preserved
loop-e-preserved c =
    let a = c.args in
    let l = c.loop-e in
    let room : 2 * l.hits ≤ length l.list = omega (arith, l.invariant.listing.fits, l.auto.list) in
    let few : 2 * length (take c.find-count.result c.find-count.new.numbers) ≤ length l.list - 2 * l.hits =
    omega (arith, c.if-room-hits.false, l.auto.list, length-take c.find-count.result c.find-count.new.numbers) in
    turned_more (text_in a.self.now) (set_in a.self.now) a.found.now a.base.0 a.from.0 a.to.0 c.requires a.list.now l.list l.numbers _ l.hits l.invariant _ _ c.in-Some.ensures.steps _ _ _ _ c.if-to-p.false c.find-count.ensures
    (pairs_rest l.list l.hits room _ _ _ few c.write.ensures) (omega (arith, c.if-room-hits.false))
    (writing_length _ 0 _ _ _ c.find-count.ensures ∙ l.invariant.size)

pub returns : goal.returns
returns c =
    let a = c.args in
    record {
      listing = turned_all (text_in a.self.now) (set_in a.self.now) a.found.now a.base.0 a.from.0 a.to.0 c.requires a.list.now _ _ _ _ c.loop-e.invariant c.in-None.ensures.steps.0;
      whole = λ e. refl;
      no_room = λ e. absurd (false≢true e);
    }
