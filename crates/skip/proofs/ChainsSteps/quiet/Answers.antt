-- Where a byte's chain is empty, no place of the step by it is an occurrence.
-- Assumes nothing.
use Prim.Native.Nat.{ℕ, ◌+◌, ◌-◌, ◌*◌, ◌<◌}
use mathlib.Core.Path.{◌≡◌, ap, ◌∙◌}
use native.Mathlib.Omega.{arith}
use borrow.Author.Tests.{eqb-true}
use lib.ListN.{get_or}
use Rattle.bits.specs.Packed.{bits_at}
use Rattle.bits.proofs.Run.{bits_lt}
use Rattle.matcher.specs.Tables.{last_below, in_chain, chained}
use Rattle.matcher.specs.Asked.{text_in, pattern_in}
use Rattle.skip_tables.proofs.SkipChain.{chained_fits}
use Rattle.skip_tables.proofs.SkipShows.{shown_chain}
use Rattle.skip.proofs.SkipPlaces.{byte_is, walk_start}
use Rattle.skip.proofs.SkipSizes.{long_enough}
use Rattle.skip.proofs.ChainsSteps.quiet.Goals as goal

pub returns : goal.returns
returns c = λ empty.
    let a = c.args in
    let t = text_in a.by.now.search.now.query in
    let w = pattern_in a.by.now.search.now.query in
    let b = a.b.0 in
    let m = a.by.now.search.now.query.pattern.m in
    let p = 8 * b + 1 - chained m in
    let long = long_enough _ _ _ c.args.by.now.search.now.ready in
    let byte : get_or a.by.now.search.now.query.text.now b 0 < 256 = omega arith in
    let head : get_or a.by.now.search.now.cells.now (get_or a.by.now.search.now.query.text.now b 0) 0 ≡ last_below (in_chain w (bits_at a.by.now.search.now.query.text.now (8 * b) 8)) (chained m)
    = c.args.by.now.holds.head_is _ byte ∙ ap (λ (v : ℕ). last_below (in_chain w v) (chained m)) (byte_is a.by.now.search.now.query.text.now b byte) in
    let shown = shown_chain w c.args.by.now.holds.all_fixed (bits_at a.by.now.search.now.query.text.now (8 * b) 8) (bits_lt a.by.now.search.now.query.text.now (8 * b) 8) (chained m) (chained_fits m long) in
    let span : 8 * b + 1 - p ≡ chained m = omega (arith, c.requires.0) in
    let none = walk_start t w b p 0 (omega (arith, chained_fits m long)) (omega arith) (rw span (omega (arith, head, shown, eqb-true _ _ empty))) in
    let all : 8 * b + 1 - 0 ≡ 8 * b + 1 = omega arith in
    rw all at none
