use Rattle.std.proofs.Common.{◌≡◌, refl, ◌∙◌, ◌+◌, ◌≤◌, min, arith}
use lib.ListN.{length-set}
use borrow.Author.Tests.{ltb-false}
use Rattle.matcher.specs.Asked.{lent}
use Rattle.skip_tables.proofs.SkipChain.{chained_fits}
use Rattle.skip_tables.proofs.SkipFilling.{same_size, empty_size, empty_rest, empty_kind, filled_none, filled_all}
use Rattle.skip_tables.proofs.prepare_chains.Goals as goal

pub loop-load-init : goal.loop-load-init
loop-load-init c =
    let none : min 0 c.indices-count.result ≡ 0 = omega arith in
    rw none (filled_none (lent c.args.pattern.now) c.args.cells.now c.clear.new.cells _ c.clear.ensures refl c.requires.good_pattern.some_bits c.requires.m_in_bounds)

pub enter-requires-clause-k_bound : goal.enter-requires-clause-k_bound
enter-requires-clause-k_bound c =
    let m = c.args.pattern.now.m in
    let few : c.indices-count.result + 7 ≤ m = rw c.indices-count.ensures (chained_fits m (ltb-false m 15 c.requires.good_pattern.fit)) in
    let size = simp length-set at c.loop-load.invariant.size in
    let kept = size ∙ same_size 256 c.args.cells.now c.clear.new.cells c.clear.ensures (omega arith) in
    (omega (arith, c.cut.ensures), c.requires.good_pattern.few_bits, omega (arith, c.cut.ensures), omega (arith, kept))

pub returns : goal.returns
returns c =
    let w = lent c.args.pattern.now in
    let before = c.args.cells.now in
    let g = c.requires.good_pattern in
    let size = empty_size w before c.clear.new.cells _ c.clear.ensures refl g.some_bits c.requires.m_in_bounds in
    let rest = empty_rest w before c.clear.new.cells _ c.clear.ensures refl g.some_bits c.requires.m_in_bounds in
    let kind = empty_kind w before c.clear.new.cells _ c.clear.ensures refl g.some_bits c.requires.m_in_bounds in
    filled_all w before _ _ _ c.requires.all_fixed kind size rest c.loop-load.invariant
    (omega (arith, c.indices-count.ensures, c.div_ceil-load-end.ensures, c.loop-load-test.false))
