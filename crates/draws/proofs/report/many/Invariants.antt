use Rattle.std.proofs.Common.{◌≡◌, ◌≤◌, [], ◌∷◌, ◌++◌, decimal}
use Rattle.std.specs.Io.KnownBytes.{Appends}
use Rattle.draws.specs.Growing.{Grows}
use Rattle.draws.proofs.report.many.Given as goal

abbrev pub invariant-loop-case : goal.invariant-loop-case
invariant-loop-case g l = record {
  few : l.wrong ≤ l.case;
  quiet : l.wrong ≡ 0 → Appends (g.W.Write.contents l.fn.out) (g.W.Write.contents l.out) (l.kind.name.now ++ (decimal l.kind.count ++ (10 ∷ [])));
  grows : Grows (g.W.Write.contents l.fn.out) (g.W.Write.contents l.out);
}
