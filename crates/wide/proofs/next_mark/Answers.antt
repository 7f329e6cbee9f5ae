-- `wide::next_mark` meets its contract: the number of places, or the move by the bit after the window.
-- Assumes nothing.
use mathlib.Core.Path.{refl, ◌∙◌}
use Prim.Native.Nat.{◌+◌}
use native.Mathlib.Omega.{arith}
use Rattle.bits.proofs.Run.{bit_lt}
use Rattle.matcher.specs.Asked.{text_in, pattern_in}
use Rattle.wide.proofs.WideMoves.{marked_end, marked}
use Rattle.wide.proofs.next_mark.Goals as goal

pub overflow_sub-ahead : goal.overflow_sub-ahead
overflow_sub-ahead c =
    let a = c.args in
    omega (arith, bit_lt a.search.now.query.text.now (a.s.0 + 63 + a.search.now.query.pattern.m))

pub returns-then-after-n : goal.returns-then-after-n
returns-then-after-n c =
    let a = c.args in
    let w = pattern_in a.search.now.query in
    let zero = c.requires.moves.0.move w refl a.search.now.ready.tables in
    let one = c.requires.moves.1.move w refl a.search.now.ready.tables in
    c.min.ensures ∙ marked (text_in a.search.now.query) w a.s.0 a.by_bit.zero a.by_bit.one zero one c.from-c.result (omega arith) (c.from-c.ensures ∙ c.bit.ensures)

pub returns : goal.returns
returns c =
    let a = c.args in
    marked_end (text_in a.search.now.query) (pattern_in a.search.now.query) a.s.0 (omega (arith, a.search.now.ready.inside)) (omega arith)
