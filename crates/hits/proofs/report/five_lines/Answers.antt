use Rattle.std.proofs.Common.{◌≡◌, ◌∙◌, arith}
use Rattle.hits.proofs.Reporting.{five_joined}
use Rattle.hits.proofs.report.five_lines.Goals as goal

pub returns : goal.returns
returns c =
    let all : c.loop-method.method-index ≡ 5 = omega arith in
    rw all at c.loop-method.invariant.appended ∙ five_joined _ _
