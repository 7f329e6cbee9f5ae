-- `capi::pattern_set::mitongory_search_set` meets its contract: few answer cells refuse, else answer and list are those of
-- `set::search_set`.
-- Assumes nothing.
use native.Mathlib.Omega.{arith}
use Rattle.capi.specs.PatternSet.{SetCall}
use Rattle.capi.proofs.PatternSet.{set_short, set_refused, set_accepted}
use Rattle.capi.proofs.pattern_set.mitongory_search_set.Goals as goal
use Rattle.capi.proofs.pattern_set.mitongory_search_set.Goals.{Start}

-- what the call was handed
abbrev asked : Start → SetCall
asked c =
    let a = c.args in
    record { text = a.text.now; n = a.n; patterns = a.patterns.now; fixed = a.fixed.now; counts = a.counts.now; mark = a.mark; budget = a.budget; list = a.list.now; answer = a.answer.now }

pub returns-then-answer-lt4 : goal.returns-then-answer-lt4
returns-then-answer-lt4 c = set_short (asked (goal.at.returns-then-answer-lt4 c).Start) c.if-answer-lt4.true

pub returns-in-Err : goal.returns-in-Err
returns-in-Err c =
    let q = asked (goal.at.returns-in-Err c).Start in
    let made = rw c.in-Err.is at c.search_set.ensures in
    set_refused q (omega arith) _ _ _ made c.number.ensures

pub returns-in-Ok : goal.returns-in-Ok
returns-in-Ok c =
    let q = asked (goal.at.returns-in-Ok c).Start in
    let made = rw c.in-Ok.is at c.search_set.ensures in
    set_accepted q (omega arith) _ _ _ _ made (rw (c.stop_of.ensures, c.from.ensures, c.from-in-Ok.ensures) at c.four.ensures)
