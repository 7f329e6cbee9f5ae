use Rattle.std.proofs.Common.{rules}
use Rattle.draws.proofs.Growing.{grows_on}
use Rattle.draws.proofs.report.many.Goals as goal
use Rattle.draws.proofs.report.many.Goals.{then-not-agrees+in_ok-disagreement, else-not-agrees}

pub loop-case-preserved : goal.loop-case-preserved
loop-case-preserved g c =
    elim c.if-not-agrees.branch [
      | then-not-agrees+in_ok-disagreement w ↦ record {
        few = search rules;
        quiet = search rules;
        grows = rw w.out-is (grows_on _ _ _ _ c.loop-case.invariant.grows w.in_ok-disagreement.ensures);
      }
      | else-not-agrees w ↦ record {
        few = search rules;
        quiet = search rules;
        grows = rw w.out-is c.loop-case.invariant.grows;
      }
    ]
