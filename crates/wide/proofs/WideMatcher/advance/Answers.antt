use mathlib.Core.Path.{sym, ◌∙◌}
use mathlib.Core.Bool.{Bool}
use mathlib.Core.List.{List}
use Prim.Native.Nat.{ℕ, ◌≤◌}
use native.Mathlib.Omega.{arith}
use lib.ListN.{length}
use borrow.Author.Tests.{ltb-true}
use Rattle.rules.specs.declared.Method.TheVariants.{Wide}
use Rattle.wide.specs.Flags.{Flagged}
use Rattle.matcher.specs.Asked.{text_in, pattern_in}
use Rattle.matcher.specs.Progress.{Stepped, Advanced}
use Rattle.matcher.proofs.Advancing.{counted, advanced_none, advanced_step}
use Rattle.matcher.proofs.Rest.{stepped_rest}
use Rattle.wide.proofs.WideFlags.{flagged_of, settling_none, settled}
use Rattle.wide.proofs.WideMatcher.advance.Goals as goal
use Rattle.wide.proofs.WideMatcher.advance.Goals.{After-scan-flags, then-flags-ne0+in-Ok, else-flags-ne0}

pub loop-at-init : goal.loop-at-init
loop-at-init c =
    let a = c.args in
    advanced_none Wide (text_in a.search.now.query) (pattern_in a.search.now.query) a.s.0 a.budget a.list.now 0 (omega arith) c.requires

-- what the scan says of the turn's flags
flagged : (c : After-scan-flags)
    → let a = c.args in
    Flagged (text_in a.search.now.query) (pattern_in a.search.now.query) c.loop-at.at c.scan-flags.result
flagged c =
    let a = c.args in
    flagged_of (text_in a.search.now.query) (pattern_in a.search.now.query) a.search.now.cells.now c.loop-at.at c.scan-flags.result c.scan-flags.type_inv a.search.now.ready.tables c.scan-flags.ensures

pub settle-requires-clause-flagged : goal.settle-requires-clause-flagged
settle-requires-clause-flagged c = flagged (goal.at.settle-requires-clause-flagged c).After-scan-flags

-- the steps with the one that this turn makes
turned : (c : After-scan-flags) (at hits : ℕ) (full : Bool) (list : List ℕ)
    → let a = c.args in
    let l = c.loop-at in
    Stepped Wide (text_in a.search.now.query) (pattern_in a.search.now.query) l.at l.list l.hits at hits full list
    → Advanced Wide (text_in a.search.now.query) (pattern_in a.search.now.query) a.s.0 a.budget a.list.now 0 at (counted full l.steps) hits full list
turned c at hits full list u =
    let a = c.args in
    let l = c.loop-at in
    advanced_step Wide (text_in a.search.now.query) (pattern_in a.search.now.query) a.s.0 a.budget a.list.now 0 l.at l.steps l.hits l.list (omega arith)
    l.invariant at hits full list (omega (arith, ltb-true)) (omega (arith, ltb-true)) u

pub returns-in-Err : goal.returns-in-Err
returns-in-Err c =
    let a = c.args in
    let l = c.loop-at in
    let free : l.hits ≤ length l.list = omega (arith, l.invariant.writing.fits) in
    turned (goal.at.returns-in-Err c).After-scan-flags _ _ _ _
    (stepped_rest l.list l.hits free Wide (text_in a.search.now.query) (pattern_in a.search.now.query) l.at _ _ _ _ c.in-Err.ensures.0)

pub loop-at-preserved : goal.loop-at-preserved
loop-at-preserved c =
    let a = c.args in
    let l = c.loop-at in
    let t = text_in a.search.now.query in
    let w = pattern_in a.search.now.query in
    let here = (goal.at.loop-at-preserved c).After-scan-flags in
    let free : l.hits ≤ length l.list = omega (arith, l.invariant.writing.fits) in
    elim c.if-flags-ne0.branch [
      | then-flags-ne0+in-Ok u ↦
          rw (u.list-is, u.hits-is)
          (turned here _ _ _ _
          (rw (u.in-Ok.ensures.0.mark ∙ sym c.next_mark-to.ensures) at
          (stepped_rest l.list l.hits free Wide t w l.at _ _ _ _ u.in-Ok.ensures.0)))
      | else-flags-ne0 u ↦
          rw (u.list-is, u.hits-is)
          (turned here _ _ _ _
          (settled t w l.at l.list l.hits (omega (arith, ltb-true)) c.next_mark-to.result.0 l.list l.at c.scan-flags.result l.hits
          (settling_none t w l.at l.list l.hits (omega (arith, ltb-true)) c.scan-flags.result (flagged here) free) u.if-flags-ne0.false c.next_mark-to.ensures))
    ]
