-- `capi::cells::four` meets its contract: four stores in front of the other cells.
-- Assumes nothing.
use mathlib.Core.Path.{refl}
use native.Mathlib.Omega.{arith}
use lib.ListN.{length-set}
use Rattle.capi.proofs.Telling.{four_cells}
use Rattle.capi.proofs.cells.four.Goals as goal

pub bounds-answer-1 : goal.bounds-answer-1
bounds-answer-1 c = simp length-set (omega arith)

pub bounds-answer-2 : goal.bounds-answer-2
bounds-answer-2 c = simp length-set (omega arith)

pub bounds-answer-3 : goal.bounds-answer-3
bounds-answer-3 c = simp length-set (omega arith)

pub returns : goal.returns
returns c =
    record { result_is = refl; answer_is = four_cells c.args.answer.now c.args.a c.args.b c.args.c c.args.d c.requires }
