-- `search::call::by` meets its contract: with no place there is nothing to do; else the tables are made and the steps follow.
-- Assumes nothing.
use Rattle.std.proofs.Common.{◌≡◌, refl, ◌+◌, ◌-◌, true, arith}
use Rattle.std.specs.Prelude.{nat_eq}
use lib.Dec.{eqb}
use borrow.Author.Tests.{eq-eqb}
use Rattle.rules.specs.Occurrence.{places}
use Rattle.rules.specs.Machine.{stopped}
use Rattle.matcher.specs.Ready.{text_of}
use Rattle.matcher.specs.Asked.{lent}
use Rattle.search.proofs.Accepting.{few_come, leaves_none, leaves_of}
use Rattle.search.proofs.call.by.Goals as goal

pub returns-then-n-pattern : goal.returns-then-n-pattern
unfolding stopped
returns-then-n-pattern g c =
    let a = c.args in
    let text = text_of a.text.now a.n in
    let pattern = lent a.pattern in
    let there : a.mark.at.0 ≡ places text pattern = omega (arith, c.requires.inside) in
    let none : eqb a.mark.at.0 (places text pattern) ≡ true = eq-eqb _ _ there in
    leaves_none g.M.Rule.method text pattern a.mark.at.0 a.budget a.list.now a.scratch.now _ (omega (arith, c.requires.inside))
    (record { steps = refl; occurrences = refl; mark = refl; ending = rw none })

pub answer-requires : goal.answer-requires
answer-requires g c =
    let a = c.args in
    let q = c.requires in
    few_come g.M.Rule.method (text_of a.text.now a.n) (lent a.pattern) a.mark.at.0 a.budget a.list.now _ _ q.pattern.fit q.inside q.few_bits q.pattern.some_bits (rw (c.new.ensures.0, c.new.ensures.1, c.new.ensures.2) at c.run.ensures)

pub returns : goal.returns
returns g c =
    let a = c.args in
    let text = text_of a.text.now a.n in
    let pattern = lent a.pattern in
    let end : a.n - a.pattern.m + 1 ≡ places text pattern = omega (arith, c.if-n-pattern.false) in
    leaves_of g.M.Rule.method text pattern a.mark.at.0 a.budget a.list.now a.scratch.now _ _ _ _
    (rw (c.new.ensures.0, c.new.ensures.1, c.new.ensures.2) at c.run.ensures) (rw end at c.answer.ensures) c.prepare.ensures
