-- `positions::reader::position` meets its contract: a fault of the number stays, and the position is tested against the limit.
-- Assumes nothing.
use mathlib.Core.Path.{sym}
use native.Mathlib.Omega.{arith}
use Rattle.std.proofs.lemmas.Result.{err_from_is_err_and}
use Rattle.positions.proofs.ReadGroups.{number_le}
use Rattle.positions.proofs.ReadBody.{position_fault, position_ok, position_large}
use Rattle.positions.proofs.reader.position.Goals as goal

pub returns-in_err-n : goal.returns-in_err-n
returns-in_err-n c =
    let p = err_from_is_err_and c.from_residual.result c.from_residual.ensures.1 in
    rw (p.1, p.2) (sym (position_fault _ _ _ (sym c.in_err-n.ensures)))

pub overflow_add-p : goal.overflow_add-p
overflow_add-p c = omega (arith, number_le _ _ _ (sym c.in_ok-n.ensures))

pub returns-then-p-lt-LIMIT : goal.returns-then-p-lt-LIMIT
returns-then-p-lt-LIMIT c = sym (position_ok _ _ _ _ (sym c.in_ok-n.ensures) c.if-p-lt-LIMIT.true)

pub returns-else-p-lt-LIMIT : goal.returns-else-p-lt-LIMIT
returns-else-p-lt-LIMIT c = sym (position_large _ _ _ _ (sym c.in_ok-n.ensures) c.if-p-lt-LIMIT.false)
