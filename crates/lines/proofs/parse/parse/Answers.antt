-- `lines::parse::parse` meets its contract.
-- Assumes nothing.
use Rattle.std.proofs.Common.{sym, ◌∙◌, rules}
use Rattle.lines.proofs.Input.{no_first, no_second, left_over, taken, not_taken}
use Rattle.lines.proofs.parse.parse.Goals as goal
use Rattle.lines.proofs.parse.parse.Goals.{else-is_empty-via-then-is_empty+else-fit, else-is_empty-via-else-is_empty}

pub returns-then-fit-clause-is : goal.returns-then-fit-clause-is
returns-then-fit-clause-is c =
    let first = c.in_ok-pattern.ensures.is in
    let second = c.in_ok-text.ensures.is in
    taken _ _ _ _ _ first second (search rules) (sym c.fit.ensures ∙ c.if-fit.true)

pub returns-in_err-pattern-clause-is : goal.returns-in_err-pattern-clause-is
returns-in_err-pattern-clause-is c =
    rw c.from_residual.ensures (sym (no_first _ c.in_err-pattern.ensures.is))

pub returns-in_err-text-clause-is : goal.returns-in_err-text-clause-is
returns-in_err-text-clause-is c =
    let first = c.in_ok-pattern.ensures.is in
    rw c.from_residual-in_err-text.ensures (sym (no_second _ _ _ first c.in_err-text.ensures.is))

pub returns-else-is_empty-clause-is : goal.returns-else-is_empty-clause-is
returns-else-is_empty-clause-is c =
    let first = c.in_ok-pattern.ensures.is in
    let second = c.in_ok-text.ensures.is in
    elim c.else-is_empty.branch [
      | else-is_empty-via-then-is_empty+else-fit w ↦ not_taken _ _ _ _ _ first second (search rules) (sym w.fit.ensures ∙ w.if-fit.false)
      | else-is_empty-via-else-is_empty w ↦ left_over _ _ _ _ _ first second (search rules)
    ]
