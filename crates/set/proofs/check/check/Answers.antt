use Rattle.std.specs.Prelude.{Err}
use Rattle.std.proofs.lemmas.Result.{err_from_is_err_and}
use mathlib.Core.Path.{◌≡◌, refl, sym, ◌∙◌, ap}
use Prim.Native.Nat.{◌≤◌}
use native.Mathlib.Omega.{arith}
use lib.ListN.{length, get_or}
use Rattle.bits.specs.Packed.{Packed}
use Rattle.search.specs.Verdict.{accepted, judge}
use Rattle.search.proofs.Verdict.{judge_accepted}
use Rattle.matcher.specs.Ready.{text_of}
use Rattle.set_rules.specs.PatternSet.{PatternSet, start_of, pattern_at, set_places}
use Rattle.set_rules.specs.Verdict.{pattern_rows}
use Rattle.set_tables.specs.Parts.{lent}
use Rattle.set.specs.Parts.{check_of}
use Rattle.set.proofs.Rows.{row_1, row_2, row_18_none, row_of, row_6, no_row, rows_none, passing, one_good, start_small}
use Rattle.set_tables.proofs.Entering.{start_next}
use Rattle.set.proofs.check.check.Goals as goal
use Rattle.set.proofs.check.check.Goals.{In_ok-check_pattern, Start}

-- what the call was asked
abbrev asked_text : Start → Packed
asked_text c = text_of c.args.text.now c.args.n

abbrev asked_set : Start → PatternSet
asked_set c = lent c.args.patterns.now

-- the pattern passed
passes : (c : In_ok-check_pattern) → accepted tt ≡ judge {A = Unit {0}} (pattern_rows (pattern_at (lent c.args.patterns.now) c.loop-m.m-index)) tt
passes c = sym (ap check_of c.in_ok-check_pattern.was) ∙ rw c.loop-m.invariant.0 at c.check_pattern.ensures

-- so it has few bits
few : (c : In_ok-check_pattern) → get_or c.args.patterns.now.counts.now c.loop-m.m-index 0 ≤ 2048
few c =
    let a = (lent c.args.patterns.now) in
    let i = c.loop-m.m-index in
    (one_good a.bytes a.fixed (start_of a.counts i) (get_or a.counts i 0) (judge_accepted tt (pattern_rows (pattern_at a i)) tt (sym (passes c))).0).few_bits

pub returns-then-n-gt1073741824 : goal.returns-then-n-gt1073741824
returns-then-n-gt1073741824 c = row_1 (asked_text (goal.at.returns-then-n-gt1073741824 c).Start) (asked_set (goal.at.returns-then-n-gt1073741824 c).Start) c.args.mark.0 c.if-n-gt1073741824.true

pub returns-then-text-bytes_for : goal.returns-then-text-bytes_for
returns-then-text-bytes_for c = row_2 (asked_text (goal.at.returns-then-text-bytes_for c).Start) (asked_set (goal.at.returns-then-text-bytes_for c).Start) c.args.mark.0 c.if-n-gt1073741824.false (rw c.bytes_for.ensures at c.if-text-bytes_for.true)

pub returns-then-counts-eq0 : goal.returns-then-counts-eq0
returns-then-counts-eq0 c = row_18_none (asked_text (goal.at.returns-then-counts-eq0 c).Start) (asked_set (goal.at.returns-then-counts-eq0 c).Start) c.args.mark.0 c.if-n-gt1073741824.false (rw c.bytes_for.ensures at c.if-text-bytes_for.false) c.if-counts-eq0.true

pub loop-m-init : goal.loop-m-init
unfolding start_of
loop-m-init c = (refl, rw (rows_none (asked_set (goal.at.loop-m-init c).Start)) tt)

pub check_pattern-requires : goal.check_pattern-requires
check_pattern-requires c =
    let l = c.loop-m in
    omega (arith, start_small (asked_set (goal.at.check_pattern-requires c).Start) l.m-index l.invariant.1, l.invariant.0)

pub returns-in_err-check_pattern : goal.returns-in_err-check_pattern
returns-in_err-check_pattern c =
    let l = c.loop-m in
    let e = err_from_is_err_and c.from_residual.result c.from_residual.ensures.1 in
    let why : c.check_pattern.result ≡ Err e.0 = rw e.2 c.in_err-check_pattern.was in
    let says = rw l.invariant.0 at c.check_pattern.ensures in
    rw e.1 (row_of (asked_text (goal.at.returns-in_err-check_pattern c).Start) (asked_set (goal.at.returns-in_err-check_pattern c).Start) c.args.mark.0 c.if-n-gt1073741824.false (rw c.bytes_for.ensures at c.if-text-bytes_for.false) c.if-counts-eq0.false (omega arith) l.m-index (omega arith) l.invariant.1 _ (sym says ∙ ap check_of why))

pub bytes_for-requires-in-loop-m : goal.bytes_for-requires-in-loop-m
bytes_for-requires-in-loop-m c = omega (arith, few c)

pub overflow_add-start : goal.overflow_add-start
overflow_add-start c =
    let l = c.loop-m in
    omega (arith, few (goal.at.overflow_add-start c).In_ok-check_pattern, c.bytes_for-in-loop-m.ensures, start_small (asked_set (goal.at.overflow_add-start c).Start) l.m-index l.invariant.1, l.invariant.0)

pub loop-m-preserved : goal.loop-m-preserved
loop-m-preserved c =
    let l = c.loop-m in (
      rw (l.invariant.0, c.bytes_for-in-loop-m.ensures) (sym (start_next c.args.patterns.now.counts.now l.m-index)),
      passing (asked_set (goal.at.loop-m-preserved c).Start) l.m-index l.invariant.1 (passes (goal.at.loop-m-preserved c).In_ok-check_pattern),
    )

pub returns-then-places-mark : goal.returns-then-places-mark
unfolding set_places
returns-then-places-mark c =
    let l = c.loop-m in
    let all : l.m-index ≡ length c.args.patterns.now.counts.now = omega arith in
    row_6 (asked_text (goal.at.returns-then-places-mark c).Start) (asked_set (goal.at.returns-then-places-mark c).Start) c.args.mark.0 c.if-n-gt1073741824.false (rw c.bytes_for.ensures at c.if-text-bytes_for.false) c.if-counts-eq0.false (omega arith) (rw all at l.invariant.1) (rw c.places.ensures at c.if-places-mark.true)

pub returns : goal.returns
unfolding set_places
returns c =
    let l = c.loop-m in
    let all : l.m-index ≡ length c.args.patterns.now.counts.now = omega arith in
    no_row (asked_text (goal.at.returns c).Start) (asked_set (goal.at.returns c).Start) c.args.mark.0 c.if-n-gt1073741824.false (rw c.bytes_for.ensures at c.if-text-bytes_for.false) c.if-counts-eq0.false (omega arith) (rw all at l.invariant.1) (rw c.places.ensures at c.if-places-mark.false)
