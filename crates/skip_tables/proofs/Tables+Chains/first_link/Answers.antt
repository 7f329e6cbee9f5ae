use Prim.Native.Nat.{◌+◌, ◌-◌, ◌≤◌}
use mathlib.Core.Path.{◌≡◌}
use native.Mathlib.Omega.{arith}
use lib.ListN.{get_or}
use Rattle.matcher.specs.Tables.{last_below, chained, shows_byte, in_chain}
use Rattle.matcher.specs.Asked.{lent}
use Rattle.skip_tables.proofs.SkipBelow.{below_is, below_again}
use Rattle.skip_tables.proofs.SkipShows.{shown_chain}
use Rattle.skip_tables.proofs.SkipChain.{chained_fits, headed_first, headed_within, headed_passes, headed_more, headed_done, link_less, chain_link}
use Rattle.skip_tables.proofs.Tables+Chains.first_link.Goals as goal
use Rattle.skip_tables.proofs.Tables+Chains.first_link.Goals.{In-loop-j}

pub returns-then-indices-k : goal.returns-then-indices-k
returns-then-indices-k c =
    let a = c.args in
    (omega arith, (below_is (shows_byte (lent c.args.self.now.pattern.now) a.v) a.k).within, λ g. absurd (omega (arith, c.indices.ensures)))

pub offset_bounds-self-v : goal.offset_bounds-self-v
offset_bounds-self-v c = omega arith

pub bounds-self-v : goal.bounds-self-v
bounds-self-v c = omega arith

pub loop-j-init : goal.loop-j-init
loop-j-init c =
    let a = c.args in
    headed_first (in_chain (lent c.args.self.now.pattern.now) a.v) (chained a.self.now.pattern.now.m) a.k _ (c.args.self.now.holds.head_is a.v c.ranges.v.fits) (omega (arith, c.indices.ensures))

-- the link's index is one of those chained
near : (c : In-loop-j) → c.loop-j.j + 7 ≤ c.args.self.now.pattern.now.m
near c =
    let a = c.args in
    omega (arith, chained_fits a.self.now.pattern.now.m (omega arith), headed_within _ _ _ c.loop-j.j c.loop-j.invariant)

pub overflow_add-j : goal.overflow_add-j
overflow_add-j c = omega (arith, near c)

pub offset_bounds-self-j : goal.offset_bounds-self-j
offset_bounds-self-j c = omega (arith, near c)

pub bounds-self-j : goal.bounds-self-j
bounds-self-j c = omega (arith, near (goal.at.bounds-self-j c).In-loop-j)

-- the link after it
after : (c : In-loop-j)
    → get_or c.args.self.now.cells.now (255 + c.loop-j.j) 0 ≡ last_below (in_chain (lent c.args.self.now.pattern.now) c.args.v) (c.loop-j.j - 1)
after c =
    let w = lent c.args.self.now.pattern.now in
    let l = c.loop-j in
    chain_link w c.args.self.now.cells.now c.args.self.now.holds l.j (omega arith) (headed_within _ _ _ l.j l.invariant) c.args.v (headed_passes _ _ _ l.j l.invariant (omega arith))

pub loop-j-smaller : goal.loop-j-smaller
loop-j-smaller c = link_less _ _ _ (omega arith) (after (goal.at.loop-j-smaller c).In-loop-j)

pub loop-j-preserved : goal.loop-j-preserved
loop-j-preserved c =
    let l = c.loop-j in
    headed_more _ _ _ l.j l.invariant c.loop-j-test.true _ (after (goal.at.loop-j-preserved c).In-loop-j)

pub returns : goal.returns
returns c =
    let a = c.args in
    let w = lent c.args.self.now.pattern.now in
    let l = c.loop-j in
    let e = headed_done _ _ _ l.j l.invariant c.loop-j-test.false in
    let few : a.k ≤ chained a.self.now.pattern.now.m = omega (arith, c.indices.ensures) in
    let shown = shown_chain w c.args.self.now.holds.all_fixed a.v c.ranges.v.fits a.k (omega (arith, chained_fits a.self.now.pattern.now.m (omega arith))) in
    (omega (arith, e, (below_is (in_chain w a.v) a.k).within), omega (arith, e, shown), λ g. below_again (in_chain w a.v) a.k _ e)
