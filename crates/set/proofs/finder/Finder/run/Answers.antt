use mathlib.Core.Path.{◌≡◌, refl}
use Prim.Native.Nat.{◌+◌, ◌-◌, ◌*◌, ◌^◌, ◌≤◌, ◌<◌, min}
use native.Mathlib.Omega.{arith}
use lib.ListN.{length}
use Rattle.bits.specs.Packed.{bits_at}
use Rattle.set_tables.specs.Parts.{Looked}
use Rattle.set.specs.Parts.{text_in, set_in}
use Rattle.set_rules.proofs.Hits.{places_least}
use Rattle.set_tables.proofs.Scanning.{looked_flags}
use Rattle.set.proofs.Blocks.{looked_none}
use Rattle.set.proofs.Running.{listing_none, listing_skip, listing_append, listing_rest, rest_size, ran_to_limit, ran_to_full}
use Rattle.set.proofs.finder.Finder.run.Goals as goal
use Rattle.set.proofs.finder.Finder.run.Goals.{After-look-any, Start}

-- no place lies past 2^30
few_places : (c : Start) → c.args.end.0 ≤ 2 ^ 30
few_places c =
    let self = c.args.self.now in
    omega (arith, c.requires.end_value, places_least (text_in self) (set_in self) (2 ^ 30) (λ i l. omega (arith, self.few_bits, (self.good.each i l).some_bits)))

-- the block begins with the mark's byte
at_base : (c : After-look-any) → (c.place-base.result.0 ≤ c.loop-at.at) × (c.loop-at.at < c.place-base.result.0 + 8)
at_base c = (omega (arith, c.place-base.ensures, c.byte-b.ensures), omega (arith, c.place-base.ensures, c.byte-b.ensures))

-- what was looked at are the bits from there on
seen : (c : After-look-any)
    → Looked c.args.self.now.cells.now (bits_at c.args.self.now.text.now c.place-base.result.0 64) c.loop-at.found c.look-any.new.found c.look-any.result
seen c = rw (c.word_at_byte.ensures, ← c.place-base.ensures) at c.look-any.ensures

pub place-base-requires : goal.place-base-requires
place-base-requires c = omega (arith, c.byte-b.ensures, few_places (goal.at.place-base-requires c).Start, c.loop-at-test.true, c.min-limit.ensures)

pub word_at_byte-requires : goal.word_at_byte-requires
word_at_byte-requires c = omega (arith, c.byte-b.ensures, few_places (goal.at.word_at_byte-requires c).Start, c.loop-at-test.true, c.min-limit.ensures)

pub overflow_add-base : goal.overflow_add-base
overflow_add-base c = omega (arith, at_base (goal.at.overflow_add-base c).After-look-any, few_places (goal.at.overflow_add-base c).Start, c.loop-at-test.true, c.min-limit.ensures)

pub block-one-requires : goal.block-one-requires
block-one-requires c =
    let self = c.args.self.now in
    let here = at_base (goal.at.block-one-requires c).After-look-any in
    let few = few_places (goal.at.block-one-requires c).Start in
    record {
      found_there = omega (arith, c.if-any-ne0.array_long);
      flags = looked_flags (set_in self) self.cells.now self.text.now c.look-any.new.found c.loop-at.found c.place-base.result.0 c.look-any.result self.tables (seen (goal.at.block-one-requires c).After-look-any);
      low = here.0;
      near = omega (arith, c.min-to.ensures, here, c.loop-at-test.true);
      high = omega (arith, c.min-to.ensures);
      few_places = omega (arith, c.min-to.ensures, c.min-limit.ensures, few);
    }

pub loop-at-init : goal.loop-at-init
loop-at-init c =
    let a = c.args in
    (listing_none (text_in a.self.now) (set_in a.self.now) a.s.0 0 a.list.now (omega arith), omega (arith, c.saturating_add.ensures, c.min-limit.ensures, c.requires.inside))

pub returns-in-Err : goal.returns-in-Err
returns-in-Err c =
    let a = c.args in
    let l = c.loop-at in
    let t = text_in a.self.now in
    let ws = set_in a.self.now in
    let one = c.in-Err.ensures in
    let e = c.after.ensures in
    let stop = one.0.no_room refl in
    let room : 2 * l.hits ≤ length l.list = omega (arith, l.invariant.0.fits, l.auto.list) in
    let before : c.in-Err.full.0.at.0 < min (a.s.0 + a.budget) a.end.0 = omega (arith, stop.0, c.min-to.ensures, c.min-limit.ensures, c.saturating_add.ensures) in
    let steps : c.after.result.0.steps ≡ c.in-Err.full.0.at.0 - a.s.0 = omega (arith, e.1, one.1, one.0.listing.from, l.invariant.0.from) in
    rw (e.0, steps, e.2)
    (ran_to_full t ws a.s.0 a.budget a.list.now _ _ _
    (listing_append t ws a.s.0 a.list.now 0 l.list l.at l.hits l.invariant.0 _ _ _ (listing_rest l.list l.hits room t ws l.at _ _ _ one.0.listing))
    (rw c.requires.end_value at before) (omega (arith, stop.1, rest_size l.list l.hits room, l.auto.list)))

pub loop-at-preserved-in-Ok : goal.loop-at-preserved-in-Ok
loop-at-preserved-in-Ok c =
    let a = c.args in
    let l = c.loop-at in
    let t = text_in a.self.now in
    let ws = set_in a.self.now in
    let room : 2 * l.hits ≤ length l.list = omega (arith, l.invariant.0.fits, l.auto.list) in (
      listing_append t ws a.s.0 a.list.now 0 l.list l.at l.hits l.invariant.0 _ _ _ (listing_rest l.list l.hits room t ws l.at _ _ _ c.in-Ok.ensures.listing),
      omega (arith, c.min-to.ensures),
    )

pub loop-at-preserved : goal.loop-at-preserved
loop-at-preserved c =
    let a = c.args in
    let l = c.loop-at in
    let t = text_in a.self.now in
    let ws = set_in a.self.now in
    let here = at_base (goal.at.loop-at-preserved c).After-look-any in (
      listing_skip t ws a.s.0 a.list.now 0 l.list l.at l.hits l.invariant.0 c.min-to.result (omega (arith, c.min-to.ensures, here, c.loop-at-test.true)) (λ q low high.
          looked_none t ws a.self.now.cells.now l.found c.look-any.new.found c.place-base.result.0 c.look-any.result a.self.now.tables (seen (goal.at.loop-at-preserved c).After-look-any) c.if-any-ne0.false q (omega (arith, here)) (omega (arith, c.min-to.ensures))),
      omega (arith, c.min-to.ensures),
    )

pub returns : goal.returns
returns c =
    let a = c.args in
    let l = c.loop-at in
    let t = text_in a.self.now in
    let ws = set_in a.self.now in
    let all : l.at ≡ c.min-limit.result = omega (arith, l.invariant.1) in
    rw all at (ran_to_limit t ws a.s.0 a.budget a.list.now l.at l.hits l.list l.invariant.0 (omega (arith, c.requires.inside, c.requires.end_value))
    (omega (arith, l.invariant.1, c.min-limit.ensures, c.saturating_add.ensures, c.requires.end_value, few_places (goal.at.returns c).Start)))
