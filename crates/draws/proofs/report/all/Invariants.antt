use Rattle.draws.specs.Growing.{Grows}
use Rattle.draws.proofs.report.all.Given as goal

abbrev pub invariant-loop-number : goal.invariant-loop-number
invariant-loop-number g l = Grows (g.W.Write.contents l.fn.out) (g.W.Write.contents l.out)
