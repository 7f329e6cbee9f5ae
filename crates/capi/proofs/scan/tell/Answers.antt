-- `capi::scan::tell` meets its contract: an outcome's number, and its four numbers stored for an accepted one.
-- Assumes nothing.
use mathlib.Core.Path.{refl}
use Rattle.capi.proofs.scan.tell.Goals as goal

pub returns-in-Err : goal.returns-in-Err
returns-in-Err c = rw c.in-Err.is (record { result_is = c.number.ensures; answer_is = refl })

pub returns-in-Ok : goal.returns-in-Ok
returns-in-Ok c = rw c.in-Ok.is (rw (c.stop_of.ensures, c.from.ensures, c.from-in-Ok.ensures, c.from-in-Ok-2.ensures) at c.four.ensures)
