-- `skip_tables::Tables::lowest` meets its contract: the lowest flag of the next block that has one.
-- Assumes nothing.
use Rattle.std.proofs.Common.{rules, arith, ◌^◌, ◌<◌}
use Rattle.matcher.specs.Asked.{lent}
use Rattle.skip_tables.specs.SkipChains.{Flagging}
use Rattle.skip_tables.proofs.SkipWords.{low_fits, lowest_is, flagging_rest}
use Rattle.skip_tables.proofs.Tables+Words.lowest.Goals as goal
use Rattle.skip_tables.proofs.Tables+Words.lowest.Goals.{In-Some}

small : (c : In-Some) → c.in-Some.next.left < 2 ^ 64
small c = search rules

-- the block's flags
flagging : (c : In-Some) → Flagging (lent c.args.self.now.pattern.now) c.args.v c.args.k c.in-Some.next.number c.in-Some.next.left
flagging c = c.in-Some.ensures.3 c.args.k c.requires.flagging

pub overflow_mul-result : goal.overflow_mul-result
overflow_mul-result c = omega (arith, (flagging (goal.at.overflow_mul-result c).In-Some).inside, c.args.self.now.few_bits)

pub overflow_sub-result-in-Some : goal.overflow_sub-result-in-Some
overflow_sub-result-in-Some c = omega (arith, (flagging (goal.at.overflow_sub-result-in-Some c).In-Some).inside)

pub overflow_sub-result-in-Some-2 : goal.overflow_sub-result-in-Some-2
overflow_sub-result-in-Some-2 c =
    let s = (goal.at.overflow_sub-result-in-Some-2 c).In-Some in
    let r = s.in-Some.next in
    omega (arith, low_fits (lent c.args.self.now.pattern.now) c.args.v c.args.k r.number r.left (flagging s) (small s) c.in-Some.ensures.2)

pub returns-in-Some : goal.returns-in-Some
returns-in-Some c =
    let s = (goal.at.returns-in-Some c).In-Some in
    let r = s.in-Some.next in
    let w = lent c.args.self.now.pattern.now in (
      lowest_is w c.args.v c.args.k r.number r.left (flagging s) (small s) c.in-Some.ensures.2 c.requires.few,
      λ some. flagging_rest w c.args.v c.args.k r.number r.left (flagging s) (small s) c.in-Some.ensures.2,
    )
