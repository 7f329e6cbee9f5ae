use Rattle.std.proofs.Common.{◌≡◌, ℕ, ◌+◌, ◌-◌, ◌≤◌, ◌<◌, Bool, true, cond, List, length, arith, ◌↔◌}
use Rattle.std.proofs.lemmas.Grind.{common_steps}
use Rattle.rules.specs.declared.Method.TheVariants.{Plain}
use Rattle.rules.specs.Occurrence.{places}
use Rattle.matcher.specs.Tables.{row_chunks}
use Rattle.matcher.specs.Asked.{text_in, pattern_in}
use Rattle.matcher.specs.Progress.{Stepped, Advanced}
use Rattle.matcher.proofs.Advancing.{advanced_none}
use Rattle.plain.specs.RowCells.{cell_fits, NonePass, Small}
use Rattle.plain.proofs.RowCells.{with_first, cell_differs}
use Rattle.plain.proofs.PlainSteps.{pass_to, step_at, step_none, step_one, step_full}
use Rattle.plain.proofs.PlainMatcher.advance.Goals as goal
use Rattle.plain.proofs.PlainMatcher.advance.Goals.{At-loop-p, Else-le, After-row_fits}
use Rattle.plain.proofs.PlainMatcher.advance.Goals.{then-row_fits+else-list-hits, else-row_fits, in-Some+then-le, in_default}

-- the limit is not behind the end of the places, and within the budget
bounds : (c : At-loop-p) → let a = c.args in let q = a.search.now.query in (c.min.result ≤ places (text_in q) (pattern_in q)) × (c.min.result ≤ a.s.0 + a.budget)
bounds c =
    let least = c.min.ensures in
    let sum = c.saturating_add.ensures in
    (omega (arith, c.args.search.now.ready.inside), omega arith)

-- the candidate lies before the limit
near : (c : Else-le) → c.in-Some.p.0 < c.min.result
near c = grind (arith, common_steps)

-- the places up to the candidate, and the step there
more : (c : Else-le) (at hits : ℕ) (no_cell : Bool) (list : List ℕ)
    → let a = c.args in
    let l = c.loop-p in
    let p = c.in-Some.p.0 in
    let t = text_in a.search.now.query in
    let w = pattern_in a.search.now.query in
    Stepped Plain t w p l.list l.hits at hits no_cell list
    → Advanced Plain t w a.s.0 a.budget a.list.now 0 at (cond no_cell (p - a.s.0) (p + 1 - a.s.0)) hits no_cell list
more c at hits no_cell list u =
    let a = c.args in
    let q = a.search.now.query in
    let r = a.search.now.ready in
    let l = c.loop-p in
    let first = c.in-Some.ensures.first in
    let least = c.min.ensures in
    let sum = c.saturating_add.ensures in
    let i = r.inside in
    step_at (text_in q) (pattern_in q) a.s.0 a.budget a.list.now 0 l.at.0 l.hits l.list (omega arith) l.invariant.1 l.invariant.0
    c.in-Some.p.0 first.from (omega (arith, near c)) (omega (arith, near c))
    (λ s g h. cell_differs (text_in q) (pattern_in q) _ r.tables s c.in-Some.ensures.small 0 (omega (arith, r.pattern.some_bits)) (first.none_sooner s g h))
    at hits no_cell list u

-- the candidate lies before the end of the places
inside : (c : Else-le) → let q = c.args.search.now.query in c.in-Some.p.0 < places (text_in q) (pattern_in q)
inside c = let least = c.min.ensures in omega (arith, near c, c.args.search.now.ready.inside)

-- whether all cells of the candidate's row agree: its first cell does
test : (c : After-row_fits)
    → let q = c.args.search.now.query in
    (c.row_fits.result ≡ true) ↔ ((k : ℕ) → 0 ≤ k → k < row_chunks q.pattern.m → cell_fits q.text.now c.args.search.now.cells.now c.in-Some.p.0 k ≡ true)
test c = with_first _ _ _ c.in-Some.ensures.first.passes c.row_fits.ensures.agrees

pub loop-p-init : goal.loop-p-init
loop-p-init c =
    let a = c.args in
    let q = a.search.now.query in
    let none : a.s.0 - a.s.0 ≡ 0 = omega arith in
    let least = c.min.ensures in
    let sum = c.saturating_add.ensures in
    let i = a.search.now.ready.inside in
    (rw none (advanced_none Plain (text_in q) (pattern_in q) a.s.0 a.budget a.list.now 0 (omega arith) c.requires), omega arith, omega (arith, c.requires))

pub returns-then-list-hits : goal.returns-then-list-hits
returns-then-list-hits c =
    let a = c.args in
    let q = a.search.now.query in
    let l = c.loop-p in
    more (goal.at.returns-then-list-hits c).Else-le _ _ _ _
    (step_full (text_in q) (pattern_in q) _ a.search.now.ready c.row_fits.ensures.small c.in-Some.p.0
    (inside (goal.at.returns-then-list-hits c).Else-le) l.list l.hits (omega (arith, l.invariant.0.writing.fits, l.auto.list)) _
    (test (goal.at.returns-then-list-hits c).After-row_fits) c.if-row_fits.true c.if-list-hits.true)

pub loop-p-preserved : goal.loop-p-preserved
loop-p-preserved c =
    let a = c.args in
    let q = a.search.now.query in
    let l = c.loop-p in
    let first = c.in-Some.ensures.first in
    let here = inside (goal.at.loop-p-preserved c).Else-le in
    let same = test (goal.at.loop-p-preserved c).After-row_fits in
    let fits : l.hits ≤ length l.list = omega (arith, l.invariant.0.writing.fits, l.auto.list) in (
      more (goal.at.loop-p-preserved c).Else-le _ _ _ _
          (elim c.if-row_fits.branch [
            | then-row_fits+else-list-hits w ↦
                rw (w.list-is, w.hits-is)
                (step_one (text_in q) (pattern_in q) _ a.search.now.ready c.row_fits.ensures.small _ here l.list l.hits fits _ same w.if-row_fits.true w.if-list-hits.false)
            | else-row_fits w ↦
                rw (w.list-is, w.hits-is)
                (step_none (text_in q) (pattern_in q) _ a.search.now.ready c.row_fits.ensures.small _ here l.list l.hits fits _ same w.if-row_fits.false)
          ]),
      omega (arith, first.from, l.invariant.1),
      omega (arith, near (goal.at.loop-p-preserved c).Else-le),
    )

pub returns : goal.returns
returns c =
    let a = c.args in
    let q = a.search.now.query in
    let r = a.search.now.ready in
    let l = c.loop-p in
    let b = bounds (goal.at.returns c).At-loop-p in
    let passed : NonePass (λ p. cell_fits q.text.now a.search.now.cells.now p 0) l.at.0 c.min.result × Small a.search.now.cells.now = elim c.match-candidate.branch [
      | in-Some+then-le w ↦
          let far : c.min.result ≤ w.in-Some.p.0 = grind (arith, common_steps) in
          let first = w.in-Some.ensures.first in
          (λ i g u. first.none_sooner i g (omega arith), w.in-Some.ensures.small)
      | in_default w ↦ (w.in_default.ensures.first, w.in_default.ensures.small)
    ] in
    pass_to (text_in q) (pattern_in q) a.s.0 a.budget a.list.now 0 l.at.0 l.hits l.list (omega arith) l.invariant.1 l.invariant.0
    _ l.invariant.2 b.0 b.1
    (λ s g h. cell_differs (text_in q) (pattern_in q) _ r.tables s passed.1 0 (omega (arith, r.pattern.some_bits)) (passed.0 s g h))
