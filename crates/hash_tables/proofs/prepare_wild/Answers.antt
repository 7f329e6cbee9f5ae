use mathlib.Core.Logic.{◌⊎◌, inl, inr}
use Prim.Native.Nat.{◌≤◌}
use native.Mathlib.Omega.{arith}
use Rattle.rules.specs.declared.Method.TheVariants.{Hash}
use Rattle.matcher.specs.Asked.{lent}
use Rattle.matcher.specs.Tables.{Prepared}
use Rattle.matcher.specs.Lined.{Only}
use Rattle.hash_tables.specs.HashWords.{Settled, AllEntered}
use Rattle.matcher.proofs.LinedCells.{only_none, only_then, only_wider}
use Rattle.hash_tables.proofs.HashRows.{settled_none, settled_same, settled_all}
use Rattle.hash_tables.proofs.prepare_wild.Goals as goal
use Rattle.hash_tables.proofs.prepare_wild.Goals.{After-line_up, At-loop-d}

-- only the table's cells and those of the work on it are changed
only : (c : At-loop-d) → Only 0 358 c.args.cells.now c.loop-d.cells
only c = only_then (only_wider c.unset_all.ensures.only (omega arith) (omega arith)) c.loop-d.invariant.2

-- the next words change neither a row nor what tells of its cells
settled_now : (c : After-line_up)
    → let a = c.args in
    Settled (lent a.pattern.now) c.loop-d.d c.line_up.new.cells
settled_now c =
    let l = c.loop-d in
    settled_same _ l.d l.cells _ l.invariant.0 c.line_up.ensures.only

-- the table is made
all : (c : At-loop-d)
    → let a = c.args in
    (a.pattern.now.m ≤ c.loop-d.d) ⊎ AllEntered c.loop-d.cells
    → Prepared Hash (lent a.pattern.now) a.cells.now c.loop-d.cells
all c end =
    settled_all _ c.loop-d.d _ _ c.requires.good_pattern.some_bits c.loop-d.invariant.0 end (only c)

pub loop-d-init : goal.loop-d-init
loop-d-init c =
    (settled_none _ _ _ c.unset_all.ensures, λ e. absurd (omega arith), only_none)

pub line_up-requires : goal.line_up-requires
line_up-requires c = (omega arith, omega arith, omega (arith, (only (goal.at.line_up-requires c).At-loop-d).size))

pub settle-unset-requires : goal.settle-unset-requires
settle-unset-requires c = record {
  d_bound = (omega arith, omega (arith, (only (goal.at.settle-unset-requires c).At-loop-d).size, c.line_up.ensures.only.size));
  unions = c.line_up.ensures.unions;
}

pub loop-d-preserved : goal.loop-d-preserved
loop-d-preserved c =
    let l = c.loop-d in
    let r = c.settle-unset.ensures in (
      r.settled _ c.requires.good_pattern.some_bits c.line_up.ensures.words (settled_now (goal.at.loop-d-preserved c).After-line_up),
      r.all,
      only_then l.invariant.2 (only_then (only_wider c.line_up.ensures.only (omega arith) (omega arith)) r.only),
    )

pub shape_of-cells-else-unset-ne0 : goal.shape_of-cells-else-unset-ne0
shape_of-cells-else-unset-ne0 c = (only (goal.at.shape_of-cells-else-unset-ne0 c).At-loop-d).size

pub returns-else-unset-ne0 : goal.returns-else-unset-ne0
returns-else-unset-ne0 c = all (goal.at.returns-else-unset-ne0 c).At-loop-d (inr (c.loop-d.invariant.1 c.if-unset-ne0.false))

pub shape_of-cells-after-loop-d : goal.shape_of-cells-after-loop-d
shape_of-cells-after-loop-d c = (only (goal.at.shape_of-cells-after-loop-d c).At-loop-d).size

pub returns-after-loop-d : goal.returns-after-loop-d
returns-after-loop-d c = all (goal.at.returns-after-loop-d c).At-loop-d (inl (omega arith))
