use mathlib.Core.Path.{◌≡◌}
use mathlib.Core.Logic.{◌⊎◌, inl, inr}
use Prim.Native.Nat.{ℕ, ◌+◌, ◌<◌}
use native.Mathlib.Omega.{arith}
use Rattle.rules.proofs.Ranges.{eq_or_below}
use Rattle.matcher.specs.Lined.{Only}
use Rattle.hash_tables.specs.HashWords.{Union}
use Rattle.matcher.proofs.LinedCells.{only_none, only_then, only_wider, words_same}
use Rattle.hash_tables.proofs.HashWords.{union_same}
use Rattle.hash_tables.proofs.line_up.Goals as goal
use Rattle.hash_tables.proofs.line_up.Goals.{At-loop-g}

-- only the cells of the words and of their unions are changed
only : (c : At-loop-g) → Only 256 342 c.args.cells.now c.loop-g.cells
only c =
    only_then (only_wider c.line_up.ensures.1 (omega arith) (omega arith)) (only_wider c.loop-g.invariant.only (omega arith) (omega arith))

pub line_up-requires : goal.line_up-requires
line_up-requires c = (omega arith, omega arith)

pub loop-g-init : goal.loop-g-init
loop-g-init c = record { only = only_none; united = λ h l. absurd (omega arith) }

pub unite-requires : goal.unite-requires
unite-requires c = (omega arith, omega (arith, (only (goal.at.unite-requires c).At-loop-g).size))

pub loop-g-preserved : goal.loop-g-preserved
loop-g-preserved c =
    let l = c.loop-g in
    let u = c.unite.ensures in
    record {
      only = only_then l.invariant.only (only_wider u.only (omega arith) (omega arith));
      united = λ h k. united h (eq_or_below (omega arith));
    }
  where
    united : (h : ℕ)
        → let l = c.loop-g in
        (h ≡ l.g) ⊎ (h < l.g) → Union h c.unite.new.cells
    united h (inl e) = rw e c.unite.ensures.union
    united h (inr k) =
        let l = c.loop-g in
        let u = c.unite.ensures.only in
        union_same h l.cells c.unite.new.cells (omega arith) (l.invariant.united h k) (λ i from to. u.low i (omega arith))

pub shape_of-cells : goal.shape_of-cells
shape_of-cells c = (only (goal.at.shape_of-cells c).At-loop-g).size

pub returns : goal.returns
returns c =
    let l = c.loop-g in
    record {
      words = words_same _ (c.args.d + 1) 4 262 c.line_up.new.cells l.cells c.line_up.ensures.0 (λ i from to. l.invariant.only.low i (omega arith));
      unions = λ g inside. l.invariant.united g (omega arith);
      only = only (goal.at.returns c).At-loop-g;
    }
