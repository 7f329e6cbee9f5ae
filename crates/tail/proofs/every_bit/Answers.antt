-- `tail::every_bit` meets its contract.
-- Assumes nothing.
use mathlib.Core.Path.{sym}
use borrow.Author.Tests.{eq-eqb, ne_eqb}
use Rattle.tail.specs.Lengths.{every_bit}
use Rattle.tail.proofs.every_bit.Goals as goal

pub returns-then-word-j-eq1 : goal.returns-then-word-j-eq1
unfolding every_bit
returns-then-word-j-eq1 c = sym (rw (eq-eqb _ 1 c.if-word-j-eq1.true))

pub returns : goal.returns
unfolding every_bit
returns c = sym (rw (ne_eqb _ 1 c.if-word-j-eq1.false))
