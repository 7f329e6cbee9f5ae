-- `matcher::wild::line_up` meets its contract: the words of one bit, then those of two and of four.
-- Assumes nothing.
use mathlib.Core.Path.{refl}
use mathlib.Core.List.{List}
use Prim.Native.Nat.{ℕ, ◌+◌, ◌≤◌}
use native.Mathlib.Omega.{arith}
use lib.Bits.{bit_and, bit_xor}
use lib.ListN.{set, length}
use lib.Seq.{lt-length-set}
use Rattle.matcher.specs.Ready.{pattern_of}
use Rattle.matcher.specs.Asked.{lent}
use Rattle.matcher.specs.Lined.{Ending, Words, Only}
use Rattle.matcher.proofs.SingleBits.{all_ones}
use Rattle.matcher.proofs.LinedCells.{words_one, only_none, only_set, only_then, only_wider}
use Rattle.matcher.proofs.wild.line_up.Goals as goal
use Rattle.matcher.proofs.wild.line_up.Goals.{After-pair_up, After-pair_up-2}

-- the words of one bit are in their cells, and no others are changed
first_cells : List ℕ → ℕ → ℕ → ℕ → List ℕ
first_cells cells at p f = set (set cells at (bit_xor (bit_and p f) all_ones)) (at + 1) (bit_xor (bit_and f (bit_xor p all_ones)) all_ones)

first_two : (pattern fixed cells : List ℕ) (m d at p f : ℕ) → d ≤ m → at + 22 ≤ length cells → Ending pattern m d p → Ending fixed m d f
    → Words (pattern_of pattern fixed m) d 1 at (first_cells cells at p f) × Only at (at + 22) cells (first_cells cells at p f)
unfolding first_cells
first_two pattern fixed cells m d at p f few room ep ef = (
  words_one (pattern_of pattern fixed m) d p f at cells (omega arith) ep ef,
  only_set (at + 1) _ (only_set at _ only_none (omega arith) (omega arith)) (omega arith) (omega arith),
)

-- what the words of two bits leave
then_two : (c : After-pair_up)
    → let a = c.args in
    Words (lent a.pattern.now) a.d 2 (a.at + 2) c.pair_up.new.cells × Only a.at (a.at + 22) a.cells.now c.pair_up.new.cells
unfolding first_cells
then_two c =
    let a = c.args in
    let u = first_two a.pattern.now.bytes.now a.pattern.now.fixed.now a.cells.now a.pattern.now.m a.d a.at _ _ c.requires.0 c.requires.1 c.ending-p.ensures c.ending-f.ensures in
    let q = c.pair_up.ensures in
    (q.words _ _ u.0, only_then u.1 (only_wider q.only (omega arith) (omega arith)))

-- and those of four
then_four : (c : After-pair_up-2)
    → let a = c.args in
    Words (lent a.pattern.now) a.d 2 (a.at + 2) c.pair_up.new.cells × Only a.at (a.at + 22) a.cells.now c.pair_up.new.cells
    → Words (lent a.pattern.now) a.d 4 (a.at + 6) c.pair_up-2.new.cells × Only a.at (a.at + 22) a.cells.now c.pair_up-2.new.cells
then_four c u =
    let q = c.pair_up-2.ensures in
    (q.words _ _ u.0, only_then u.1 (only_wider q.only (omega arith) (omega arith)))

pub bounds-cells-at-2 : goal.bounds-cells-at-2
bounds-cells-at-2 c =
    let a = c.args in
    lt-length-set a.cells.now a.at _ (omega arith)

pub pair_up-requires : goal.pair_up-requires
unfolding first_cells
pair_up-requires c =
    let a = c.args in
    let u = first_two a.pattern.now.bytes.now a.pattern.now.fixed.now a.cells.now a.pattern.now.m a.d a.at _ _ c.requires.0 c.requires.1 c.ending-p.ensures c.ending-f.ensures in
    (omega arith, refl, omega arith, omega (arith, u.1.size))

pub pair_up-requires-2 : goal.pair_up-requires-2
pair_up-requires-2 c = (omega arith, refl, omega arith, omega (arith, (then_two (goal.at.pair_up-requires-2 c).After-pair_up).1.size))

pub shape_of-cells : goal.shape_of-cells
shape_of-cells c = (then_four (goal.at.shape_of-cells c).After-pair_up-2 (then_two (goal.at.shape_of-cells c).After-pair_up)).1.size

pub returns : goal.returns
returns c = then_four (goal.at.returns c).After-pair_up-2 (then_two (goal.at.returns c).After-pair_up)
