-- `positions::number::read` meets its contract: the end of the file is settled here, `read_here` has the rest.
-- Assumes nothing.
use mathlib.Core.Path.{sym}
use native.Mathlib.Omega.{arith}
use borrow.Author.Tests.{eqb-true}
use Rattle.positions.specs.Decode.{read_number}
use Rattle.positions.proofs.ReadGroups.{groups_end}
use Rattle.positions.proofs.number.read.Goals as goal

pub returns-then-is_empty : goal.returns-then-is_empty
unfolding read_number
returns-then-is_empty c = sym (groups_end 5 1 0 _ (omega arith) (eqb-true _ _ (sym c.if-is_empty.ensures)))
