-- `hash::next_mark` meets its contract: the cell of the eight bits is the move.
-- Assumes nothing.
use mathlib.Core.Path.{sym, ◌∙◌}
use native.Mathlib.Omega.{arith}
use Rattle.matcher.specs.Asked.{text_in, pattern_in}
use Rattle.hash.proofs.HashSteps.{CellAt, cell_at, eight_inside}
use Rattle.hash.proofs.next_mark.Goals as goal
use Rattle.hash.proofs.next_mark.Goals.{After-byte_inside-v}

-- what the cell holds
cell : (c : After-byte_inside-v)
    → let a = c.args in
    CellAt (text_in a.search.now.query) (pattern_in a.search.now.query) a.search.now.cells.now a.s.0 c.byte_inside-v.result
cell c =
    let a = c.args in
    cell_at (text_in a.search.now.query) (pattern_in a.search.now.query) a.search.now.cells.now a.search.now.ready a.s.0 _ c.byte_inside-v.ensures

pub byte_inside-v-requires : goal.byte_inside-v-requires
byte_inside-v-requires c =
    let a = c.args in
    eight_inside (text_in a.search.now.query) (pattern_in a.search.now.query) a.search.now.cells.now a.search.now.ready a.s.0 c.requires

pub offset_bounds-search-v : goal.offset_bounds-search-v
offset_bounds-search-v c = omega (arith, (cell (goal.at.offset_bounds-search-v c).After-byte_inside-v).small)

pub bounds-search-v : goal.bounds-search-v
bounds-search-v c = omega (arith, (cell (goal.at.bounds-search-v c).After-byte_inside-v).there)

pub overflow_cast-far : goal.overflow_cast-far
overflow_cast-far c = omega (arith, (cell (goal.at.overflow_cast-far c).After-byte_inside-v).high)

pub overflow_add-far : goal.overflow_add-far
overflow_add-far c = omega (arith, (cell (goal.at.overflow_add-far c).After-byte_inside-v).high)

pub returns : goal.returns
returns c =
    let k = cell (goal.at.returns c).After-byte_inside-v in
    c.cut.ensures ∙ sym (k.moves ∙ omega arith)
