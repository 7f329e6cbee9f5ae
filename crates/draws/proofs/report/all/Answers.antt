use Rattle.std.proofs.Common.{rules, ℕ, List, [], ◌∷◌, ◌++◌, codes, decimal}
use Rattle.std.proofs.lemmas.Result.{on_ok_weaker}
use Rattle.std.specs.Io.KnownBytes.{Appends}
use Rattle.draws.specs.Growing.{EndsWith}
use Rattle.draws.proofs.Growing.{grows_both, ends_with}
use Rattle.draws.proofs.report.all.Goals as goal

pub loop-number-preserved : goal.loop-number-preserved
loop-number-preserved g c = grows_both _ _ _ c.loop-number.invariant c.in_ok-more.ensures.grows

pub returns : goal.returns
returns g c =
    let before = g.W.Write.contents c.args.out.now in
    let cases = g.W.Write.contents c.loop-number.out in
    let after = g.W.Write.contents c.line.new.out in
    let text : ℕ → List ℕ = λ wrong. codes "disagreements " ++ (decimal wrong ++ (10 ∷ [])) in
    on_ok_weaker
    {P = Appends cases after (text c.loop-number.wrong)}
    {Q = (wrong : ℕ) × EndsWith before after (text wrong)}
    c.line.result
    (λ p. (c.loop-number.wrong, ends_with before cases after _ c.loop-number.invariant p))
    (search rules)
