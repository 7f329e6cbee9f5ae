use Prim.Native.Nat.{ℕ, ◌+◌, ◌-◌}
use mathlib.Core.Path.{◌≡◌, sym, ap, ◌∙◌}
use native.Mathlib.Omega.{arith}
use Rattle.std.proofs.lemmas.Result.{err_from_is_err_and}
use Rattle.positions.specs.Decode.{read_body}
use Rattle.positions.specs.Inner.{rest_of}
use Rattle.positions.proofs.ReadBody.{position_taken, position_shorter, body_fault, body_step, rest_prepend}
use Rattle.positions.proofs.reader.judge.Goals as goal

pub returns-in_err-p : goal.returns-in_err-p
returns-in_err-p c =
    let l = c.loop-left in
    let p = err_from_is_err_and c.from_residual.result c.from_residual.ensures.1 in
    rw (p.1, p.2) (sym (ap rest_of (body_fault l.left l.next _ _ c.loop-left-test.true (sym c.in_err-p.ensures))) ∙ l.invariant.0)

pub overflow_add-next : goal.overflow_add-next
overflow_add-next c = omega (arith, (position_taken _ _ _ _ (sym c.in_ok-p.ensures)).3)

pub loop-left-smaller : goal.loop-left-smaller
loop-left-smaller c = position_shorter _ _ _ _ (sym c.in_ok-p.ensures)

pub loop-left-preserved : goal.loop-left-preserved
loop-left-preserved c =
    let l = c.loop-left in
    let p = c.in_ok-p.p in
    let body = read_body (l.left - 1) (p + 1) c.in_ok-p.after.now in
    let step = body_step l.left l.next _ _ _ c.loop-left-test.true (sym c.in_ok-p.ensures) in
    (sym (rest_prepend p body) ∙ sym (ap rest_of step) ∙ l.invariant.0, omega (arith, (position_taken _ _ _ _ (sym c.in_ok-p.ensures)).3))

-- after the loop no position is left
pub returns : goal.returns
unfolding read_body
returns c =
    let l = c.loop-left in
    let e : 0 ≡ l.left = omega arith in
    ap (λ (n : ℕ). rest_of (read_body n l.next l.rest.now)) e ∙ l.invariant.0
