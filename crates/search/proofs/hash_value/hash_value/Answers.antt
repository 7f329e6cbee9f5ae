-- `search::hash_value::hash_value` meets its contract: at each `return` the tests that led there say which row of the
-- refusals holds, or that none does.
-- Assumes nothing.
use borrow.Author.Tests.{lt-ltb, le-ltb, eq-eqb, ne_eqb}
use native.Mathlib.Omega.{arith}
use Rattle.search.specs.Verdict.{judge, hash_verdict}
use Rattle.search.proofs.hash_value.hash_value.Goals as goal

pub returns-then-m-eq0 : goal.returns-then-m-eq0
unfolding hash_verdict judge
returns-then-m-eq0 c = simp (eq-eqb _ _ c.if-m-eq0.true)

pub returns-then-m-gt2048 : goal.returns-then-m-gt2048
unfolding hash_verdict judge
returns-then-m-gt2048 c = simp (ne_eqb _ _ c.if-m-eq0.false, lt-ltb _ _ c.if-m-gt2048.true)

pub returns-then-pattern-bytes_for : goal.returns-then-pattern-bytes_for
unfolding hash_verdict judge
returns-then-pattern-bytes_for c =
    let few = rw c.bytes_for.ensures at c.if-pattern-bytes_for.true in
    simp (ne_eqb _ _ c.if-m-eq0.false, le-ltb _ _ c.if-m-gt2048.false, lt-ltb _ _ few)

pub returns-then-fixed-bytes_for : goal.returns-then-fixed-bytes_for
unfolding hash_verdict judge
returns-then-fixed-bytes_for c =
    let enough = rw c.bytes_for.ensures at c.if-pattern-bytes_for.false in
    let few = rw c.bytes_for-2.ensures at c.if-fixed-bytes_for.true in
    simp (ne_eqb _ _ c.if-m-eq0.false, le-ltb _ _ c.if-m-gt2048.false, le-ltb _ _ enough, lt-ltb _ _ few)

pub hash_of-requires : goal.hash_of-requires
hash_of-requires c =
    let enough = rw c.bytes_for.ensures at c.if-pattern-bytes_for.false in
    let there = rw c.bytes_for-2.ensures at c.if-fixed-bytes_for.false in
    record { some_bits = omega arith; few_bits = c.if-m-gt2048.false; bytes_there = enough; fixed_there = there; fit = le-ltb c.args.m 8 (omega arith) }

pub returns : goal.returns
unfolding hash_verdict judge
returns c =
    let enough = rw c.bytes_for.ensures at c.if-pattern-bytes_for.false in
    let there = rw c.bytes_for-2.ensures at c.if-fixed-bytes_for.false in
    simp
    (ne_eqb _ _ c.if-m-eq0.false, le-ltb _ _ c.if-m-gt2048.false, le-ltb _ _ enough, le-ltb _ _ there, le-ltb c.args.m 8 (omega arith), c.hash_of.ensures)
