use Rattle.std.proofs.Common.{[], ◌∷◌, ◌++◌, codes, decimal}
use Rattle.std.proofs.lemmas.Result.{on_ok_weaker}
use Rattle.std.specs.Io.KnownBytes.{Appends}
use Rattle.draws.proofs.Growing.{appends_both}
use Rattle.draws.proofs.report.disagreement.Goals as goal

pub returns : goal.returns
returns g c =
    let before = g.W.Write.contents c.args.out.now in
    let headed = g.W.Write.contents c.write_all.new.self in
    let named = g.W.Write.contents c.write_all-2.new.self in
    let after = g.W.Write.contents c.line.new.out in
    let number = codes "case " ++ (decimal c.args.case ++ (10 ∷ [])) in
    on_ok_weaker
    {P = Appends named after number}
    {Q = Appends before after (codes "disagreement: " ++ (c.args.kind.now ++ number))}
    c.line.result
    (λ p. appends_both before headed after _ _ c.in_ok-write_all.ensures.bytes (appends_both headed named after _ _ c.in_ok-write_all-2.ensures.bytes p))
    c.line.ensures
