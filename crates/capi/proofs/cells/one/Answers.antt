-- `capi::cells::one` meets its contract: one store is the number in front of the other cells.
-- Assumes nothing.
use mathlib.Core.Path.{refl}
use Rattle.capi.proofs.Telling.{one_cell}
use Rattle.capi.proofs.cells.one.Goals as goal

pub returns : goal.returns
returns c = record { result_is = refl; answer_is = one_cell c.args.answer.now _ c.requires }
