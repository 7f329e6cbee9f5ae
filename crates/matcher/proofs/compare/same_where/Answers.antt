-- `matcher::compare::same_where` meets its contract.
-- Assumes nothing.
use native.Mathlib.Omega.{arith}
use Rattle.matcher.proofs.Words.{same_where_word}
use Rattle.matcher.proofs.compare.same_where.Goals as goal

pub returns : goal.returns
returns c = let a = c.args in same_where_word a.x a.y a.care a.k (omega arith) c.requires.1
