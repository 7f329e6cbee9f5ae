-- `capi::cells::two` meets its contract: two stores in front of the other cells.
-- Assumes nothing.
use mathlib.Core.Path.{refl}
use Rattle.capi.proofs.Telling.{two_cells}
use Rattle.capi.proofs.cells.two.Goals as goal

pub returns : goal.returns
returns c = record { result_is = refl; answer_is = two_cells c.args.answer.now c.args.a c.args.b c.requires }
