-- `capi::scan::mitongory_search` meets its contract: an unknown method or few answer cells refuse, else answer, list and scratch are those of
-- `search::Mark::search`.
-- Assumes nothing.
use mathlib.Core.Path.{sym}
use Rattle.capi.proofs.Calling.{search_unknown, search_short, search_tells}
use Rattle.capi.proofs.scan.mitongory_search.Goals as goal

pub returns-in_default : goal.returns-in_default
returns-in_default c =
    let named = c.in_default.is in
    search_unknown _ (rw named at (sym c.method_of.ensures))

pub returns-then-answer-lt4 : goal.returns-then-answer-lt4
returns-then-answer-lt4 c =
    let named = c.in-Some.is in
    search_short _ _ (rw named at (sym c.method_of.ensures)) c.if-answer-lt4.true

pub returns : goal.returns
returns c =
    let named = c.in-Some.is in
    let known = rw named at (sym c.method_of.ensures) in
    search_tells _ _ c.search.result _ _ _ _ known c.if-answer-lt4.false c.search.ensures c.tell.ensures
