use Prim.Native.Nat.{◌+◌, ◌-◌, ◌*◌}
use native.Mathlib.Omega.{arith}
use lib.Count.{trailing_le}
use lib.ListN.{get_or}
use Rattle.wide.proofs.WideMoves.{down_next, down_end}
use Rattle.wide.proofs.move_of.Goals as goal
use Rattle.wide.proofs.move_of.Goals.{then-loop-k-test+else-i-eq64, else-loop-k-test}

pub loop-k-preserved : goal.loop-k-preserved
loop-k-preserved c =
    let l = c.loop-k in
    let a = c.args in (
      omega arith,
      trailing_le 64 (get_or a.search.now.cells.now (2 * (l.k - 1) + a.c) 0),
      λ w e t. rw c.saturating_sub-k.ensures (down_next w a.c a.search.now.cells.now t (omega arith) l.k (omega arith) (omega arith) (l.invariant.2 w e t).above),
    )

pub returns : goal.returns
returns c =
    let l = c.loop-k in
    let a = c.args in
    record {
      move = λ w e t. down_end w a.c l.k l.i _ (l.invariant.2 w e t) (omega arith) l.invariant.1
          (elim c.loop-k-test.branch [
            | then-loop-k-test+else-i-eq64 s ↦ λ k. s.if-i-eq64.false
            | else-loop-k-test s ↦ λ k. absurd (omega arith)
          ])
          (omega arith);
      short = omega arith;
    }
