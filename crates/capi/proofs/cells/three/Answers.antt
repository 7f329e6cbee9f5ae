-- `capi::cells::three` meets its contract: three stores in front of the other cells.
-- Assumes nothing.
use mathlib.Core.Path.{refl}
use native.Mathlib.Omega.{arith}
use lib.ListN.{length-set}
use Rattle.capi.proofs.Telling.{three_cells}
use Rattle.capi.proofs.cells.three.Goals as goal

pub bounds-answer-1 : goal.bounds-answer-1
bounds-answer-1 c = simp length-set (omega arith)

pub returns : goal.returns
returns c = record { result_is = refl; answer_is = three_cells c.args.answer.now c.args.a c.args.b c.args.c c.requires }
