-- `skip_tables::Tables::next_link` meets its contract: a link of the chain, its head, or the index before.
-- Assumes nothing.
use Prim.Native.Nat.{◌-◌, ◌≤◌}
use mathlib.Core.Path.{◌≡◌, ap, ◌∙◌}
use native.Mathlib.Omega.{arith}
use Rattle.matcher.specs.Tables.{last_below, shows_byte, in_chain, chained}
use Rattle.matcher.specs.Asked.{lent}
use Rattle.skip_tables.proofs.SkipBelow.{below_is, below_again}
use Rattle.skip_tables.proofs.SkipShows.{shown_chain}
use Rattle.skip_tables.proofs.SkipChain.{chained_fits, chain_link}
use Rattle.skip_tables.proofs.Tables+Chains.next_link.Goals as goal

pub returns-then-j-count : goal.returns-then-j-count
returns-then-j-count c =
    let a = c.args in
    let w = lent c.args.self.now.pattern.now in
    let low : a.j ≤ chained a.self.now.pattern.now.m = omega (arith, c.indices-count.ensures) in
    let here = (below_is (in_chain w a.v) a.j).passes (a.j - 1) (omega (arith, c.requires.on_chain low)) in
    let e = chain_link w a.self.now.cells.now c.args.self.now.holds a.j (omega arith) low a.v here in
    let shown = shown_chain w c.args.self.now.holds.all_fixed a.v c.ranges.v.fits (a.j - 1) (omega (arith, chained_fits a.self.now.pattern.now.m (omega arith))) in
    (omega (arith, e, (below_is (in_chain w a.v) (a.j - 1)).within), omega (arith, e, shown), λ g. below_again (in_chain w a.v) (a.j - 1) _ e)

pub returns-then-j-count-2 : goal.returns-then-j-count-2
returns-then-j-count-2 c =
    let a = c.args in
    let w = lent c.args.self.now.pattern.now in
    let last : chained a.self.now.pattern.now.m ≡ a.j - 1 = omega (arith, c.indices-count.ensures) in
    let e = c.args.self.now.holds.head_is a.v (omega arith) ∙ ap (last_below (in_chain w a.v)) last in
    let shown = shown_chain w c.args.self.now.holds.all_fixed a.v c.ranges.v.fits (a.j - 1) (omega (arith, chained_fits a.self.now.pattern.now.m (omega arith))) in
    (omega (arith, e, (below_is (in_chain w a.v) (a.j - 1)).within), omega (arith, e, shown), λ g. below_again (in_chain w a.v) (a.j - 1) _ e)

pub returns : goal.returns
returns c =
    let a = c.args in
    (omega arith, (below_is (shows_byte (lent c.args.self.now.pattern.now) a.v) (a.j - 1)).within, λ g. absurd (omega (arith, c.indices-count.ensures)))
