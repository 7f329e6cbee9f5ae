-- `tail::spread` meets its contract.
-- Assumes nothing.
use mathlib.Core.Path.{sym}
use borrow.Author.Tests.{eq-eqb, ne_eqb}
use Rattle.tail.specs.Lengths.{spread_of}
use Rattle.tail.proofs.TailMasks.{spread_last}
use Rattle.tail.proofs.spread.Goals as goal

pub returns-then-j-ge63 : goal.returns-then-j-ge63
returns-then-j-ge63 c = sym (spread_last c.args.zeros c.args.j c.if-j-ge63.true)

pub returns-then-zeros-j-eq1 : goal.returns-then-zeros-j-eq1
unfolding spread_of
returns-then-zeros-j-eq1 c = sym (rw (eq-eqb _ 1 c.if-zeros-j-eq1.true))

pub returns : goal.returns
unfolding spread_of
returns c = sym (rw (ne_eqb _ 1 c.if-zeros-j-eq1.false))
