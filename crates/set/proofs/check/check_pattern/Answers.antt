-- `set::check::check_pattern` meets its contract: its tests are the rows of one pattern, in their order.
-- Assumes nothing.
use Rattle.set.proofs.Rows.{one_3_none, one_3_many, one_4, one_17, one_passed}
use Rattle.set.proofs.check.check_pattern.Goals as goal

pub returns-then-m-eq0 : goal.returns-then-m-eq0
returns-then-m-eq0 c = let a = c.args in one_3_none a.patterns.now.bytes.now a.patterns.now.fixed.now a.start a.m c.if-m-eq0.true

pub returns-then-m-gt2048 : goal.returns-then-m-gt2048
returns-then-m-gt2048 c = let a = c.args in one_3_many a.patterns.now.bytes.now a.patterns.now.fixed.now a.start a.m c.if-m-eq0.false c.if-m-gt2048.true

pub returns-then-patterns-end : goal.returns-then-patterns-end
returns-then-patterns-end c =
    let a = c.args in
    one_4 a.patterns.now.bytes.now a.patterns.now.fixed.now a.start a.m c.if-m-eq0.false c.if-m-gt2048.false
    (rw c.bytes_for.ensures at c.if-patterns-end.true)

pub returns-then-patterns-end-2 : goal.returns-then-patterns-end-2
returns-then-patterns-end-2 c =
    let a = c.args in
    one_17 a.patterns.now.bytes.now a.patterns.now.fixed.now a.start a.m c.if-m-eq0.false c.if-m-gt2048.false
    (rw c.bytes_for.ensures at c.if-patterns-end.false) (rw c.bytes_for.ensures at c.if-patterns-end-2.true)

pub returns : goal.returns
returns c =
    let a = c.args in
    one_passed a.patterns.now.bytes.now a.patterns.now.fixed.now a.start a.m c.if-m-eq0.false c.if-m-gt2048.false
    (rw c.bytes_for.ensures at c.if-patterns-end.false) (rw c.bytes_for.ensures at c.if-patterns-end-2.false)
