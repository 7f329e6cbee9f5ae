use borrow.Author.Tests.{ltb-true}
use mathlib.Core.Path.{◌≡◌, sym}
use mathlib.Core.Bool.{Bool, false}
use mathlib.Core.List.{List}
use Prim.Native.Nat.{ℕ, ◌+◌, ◌-◌, ◌≤◌, ◌<◌, min}
use native.Mathlib.Omega.{arith}
use lib.ListN.{length, get_or}
use Rattle.rules.specs.declared.Method.TheVariants.{Hash}
use Rattle.rules.specs.Occurrence.{places, matches}
use Rattle.matcher.specs.Asked.{text_in, pattern_in}
use Rattle.matcher.specs.Progress.{Stepped, Advanced}
use Rattle.matcher.proofs.Compared.{compared}
use Rattle.matcher.proofs.Writing.{writing_length}
use Rattle.matcher.proofs.Advancing.{counted, advanced_none, advanced_step}
use Rattle.hash_tables.proofs.HashValues.{long_enough}
use Rattle.hash.proofs.HashSteps.{CellAt, cell_at, eight_of_run, eight_inside, differs, stepped_hit, stepped_miss, stepped_cut}
use Rattle.hash.proofs.HashMatcher.advance.Goals as goal
use Rattle.hash.proofs.HashMatcher.advance.Goals.{After-byte_inside-v, After-same, At-loop-at, Joined-v-last-eq0, Then-steps-budget}
use Rattle.hash.proofs.HashMatcher.advance.Goals.{then-v-last-eq0+then-same+else-list-hits, then-v-last-eq0+else-same, else-v-last-eq0}

-- the list keeps its length
size : (c : At-loop-at) → length c.loop-at.list ≡ length c.args.list.now
size c = writing_length _ _ _ _ _ c.loop-at.invariant.0.writing

-- what the cell of the eight bits holds
cell : (c : After-byte_inside-v)
    → let a = c.args in
    CellAt (text_in a.search.now.query) (pattern_in a.search.now.query) a.search.now.cells.now c.loop-at.at c.byte_inside-v.result
cell c =
    let a = c.args in
    cell_at (text_in a.search.now.query) (pattern_in a.search.now.query) a.search.now.cells.now a.search.now.ready _ _ c.byte_inside-v.ensures

-- the comparison's answer, of the text with its bit count
stands : (c : After-same) (b : Bool) → c.same.result ≡ b
    → let a = c.args in
    matches (text_in a.search.now.query) (pattern_in a.search.now.query) c.loop-at.at ≡ b
stands c b e = compared _ _ _ _ _ b c.same.ensures e

-- a step more from the place of this turn, which lies before the end
more : (c : Then-steps-budget) (at hits : ℕ) (no_cell : Bool) (list : List ℕ)
    → let a = c.args in
    let l = c.loop-at in
    Stepped Hash (text_in a.search.now.query) (pattern_in a.search.now.query) l.at l.list l.hits at hits no_cell list
    → Advanced Hash (text_in a.search.now.query) (pattern_in a.search.now.query) a.s.0 a.budget a.list.now 0 at (counted no_cell l.steps) hits no_cell list
more c at hits no_cell list u =
    let a = c.args in
    let l = c.loop-at in
    let here : min l.at (places (text_in a.search.now.query) (pattern_in a.search.now.query)) ≡ l.at = omega arith in
    advanced_step Hash (text_in a.search.now.query) (pattern_in a.search.now.query) a.s.0 a.budget a.list.now 0 l.at l.steps l.hits l.list (omega arith) (rw here at l.invariant.0)
    at hits no_cell list (omega arith) (omega (arith, ltb-true)) u

-- whichever way the turn goes on, it makes one step
one : (c : Joined-v-last-eq0)
    → let a = c.args in
    let l = c.loop-at in
    Stepped Hash (text_in a.search.now.query) (pattern_in a.search.now.query) l.at l.list l.hits (min (l.at + get_or a.search.now.cells.now c.byte_inside-v.result 0) (places (text_in a.search.now.query) (pattern_in a.search.now.query))) c.if-v-last-eq0.hits false c.if-v-last-eq0.list
one c =
    let size : length c.loop-at.list ≡ length c.args.list.now = writing_length _ _ _ _ _ c.loop-at.invariant.0.writing in
    let a = c.args in
    let l = c.loop-at in
    let moves = cell_at (text_in a.search.now.query) (pattern_in a.search.now.query) a.search.now.cells.now a.search.now.ready _ _ c.byte_inside-v.ensures in
    let inside : l.at < places (text_in a.search.now.query) (pattern_in a.search.now.query) = omega arith in
    let moved = sym moves.moves in
    let fits : l.hits ≤ length l.list = omega (arith, size, l.invariant.0.writing.fits) in
    elim c.if-v-last-eq0.branch [
      | then-v-last-eq0+then-same+else-list-hits w ↦
          rw (w.list-is, w.hits-is)
          (stepped_hit (text_in a.search.now.query) (pattern_in a.search.now.query) a.search.now.cells.now a.search.now.ready l.at inside l.list l.hits _ moved
          (compared _ _ _ _ _ _ w.same.ensures w.if-same.true) (omega arith))
      | then-v-last-eq0+else-same w ↦
          rw (w.list-is, w.hits-is)
          (stepped_miss (text_in a.search.now.query) (pattern_in a.search.now.query) a.search.now.cells.now a.search.now.ready l.at inside l.list l.hits _ moved
          (compared _ _ _ _ _ _ w.same.ensures w.if-same.false) fits)
      | else-v-last-eq0 w ↦
          rw (w.list-is, w.hits-is)
          (stepped_miss (text_in a.search.now.query) (pattern_in a.search.now.query) a.search.now.cells.now a.search.now.ready l.at inside l.list l.hits _ moved
          (differs (text_in a.search.now.query) (pattern_in a.search.now.query) a.search.now.cells.now a.search.now.ready l.at inside
          c.byte_inside-v.ensures c.byte_inside-last.ensures c.byte_inside-care.ensures w.if-v-last-eq0.false) fits)
    ]

-- the mark is that of the rule
pub loop-at-preserved : goal.loop-at-preserved
loop-at-preserved c = (more (goal.at.loop-at-preserved c).Then-steps-budget _ _ _ _ (one (goal.at.loop-at-preserved c).Joined-v-last-eq0), omega (arith, (cell (goal.at.loop-at-preserved c).After-byte_inside-v).high))

pub byte_inside-last-requires : goal.byte_inside-last-requires
byte_inside-last-requires c =
    eight_of_run c.args.search.now.query.pattern.bytes.now _ c.args.search.now.ready.pattern (c.args.search.now.query.pattern.m - 8) (omega (arith, long_enough _ c.args.search.now.ready.pattern)) c.args.search.now.ready.pattern.bytes_there

pub byte_inside-care-requires : goal.byte_inside-care-requires
byte_inside-care-requires c =
    eight_of_run c.args.search.now.query.pattern.fixed.now _ c.args.search.now.ready.pattern (c.args.search.now.query.pattern.m - 8) (omega (arith, long_enough _ c.args.search.now.ready.pattern)) c.args.search.now.ready.pattern.fixed_there

pub loop-at-init : goal.loop-at-init
loop-at-init c =
    let a = c.args in
    let enough = long_enough _ c.args.search.now.ready.pattern in
    let here : min a.s.0 (places (text_in a.search.now.query) (pattern_in a.search.now.query)) ≡ a.s.0 = omega arith in
    (rw here (advanced_none Hash (text_in a.search.now.query) (pattern_in a.search.now.query) a.s.0 a.budget a.list.now 0 (omega arith) c.requires), omega arith)

pub byte_inside-v-requires : goal.byte_inside-v-requires
byte_inside-v-requires c =
    let a = c.args in
    eight_inside (text_in a.search.now.query) (pattern_in a.search.now.query) a.search.now.cells.now a.search.now.ready c.loop-at.at (omega arith)

pub same-requires : goal.same-requires
same-requires c =
    let r = c.args.search.now.ready in
    omega arith

pub shape_of-list-then-list-hits : goal.shape_of-list-then-list-hits
shape_of-list-then-list-hits c = size (goal.at.shape_of-list-then-list-hits c).At-loop-at

pub returns-then-list-hits : goal.returns-then-list-hits
returns-then-list-hits c =
    let a = c.args in
    let l = c.loop-at in
    more (goal.at.returns-then-list-hits c).Then-steps-budget _ _ _ _
    (stepped_cut (text_in a.search.now.query) (pattern_in a.search.now.query) a.search.now.cells.now a.search.now.ready l.at (omega arith) l.list l.hits
    (stands (goal.at.returns-then-list-hits c).After-same _ c.if-same.true) (omega (arith, size (goal.at.returns-then-list-hits c).At-loop-at, l.invariant.0.writing.fits)))

pub overflow_add-steps : goal.overflow_add-steps
overflow_add-steps c = omega (arith, ltb-true)

pub offset_bounds-search-v : goal.offset_bounds-search-v
offset_bounds-search-v c = omega (arith, (cell (goal.at.offset_bounds-search-v c).After-byte_inside-v).small)

pub bounds-search-v : goal.bounds-search-v
bounds-search-v c = (cell (goal.at.bounds-search-v c).After-byte_inside-v).there

pub overflow_cast-at : goal.overflow_cast-at
overflow_cast-at c = omega (arith, (cell (goal.at.overflow_cast-at c).After-byte_inside-v).high)

pub overflow_add-at-in-loop-at : goal.overflow_add-at-in-loop-at
overflow_add-at-in-loop-at c = omega (arith, (cell (goal.at.overflow_add-at-in-loop-at c).After-byte_inside-v).high)

pub loop-at-smaller : goal.loop-at-smaller
loop-at-smaller c = omega (arith, ltb-true)

pub shape_of-list : goal.shape_of-list
shape_of-list c = size (goal.at.shape_of-list c).At-loop-at

pub returns : goal.returns
returns c =
    let a = c.args in
    let end : a.search.now.query.n - a.search.now.query.pattern.m + 1 ≡ places (text_in a.search.now.query) (pattern_in a.search.now.query) = omega (arith, c.args.search.now.ready.inside) in
    rw (c.cut.ensures, end) c.loop-at.invariant.0
