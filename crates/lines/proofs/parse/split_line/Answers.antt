-- `lines::parse::split_line` meets its contract: the byte after the digits decides.
-- Assumes nothing.
use Rattle.std.proofs.Common.{◌≡◌, ◌∷◌, drop, length, arith}
use Rattle.std.proofs.lemmas.List.Sums.{prefix_len-le-length}
use Rattle.lines.specs.Input.{is_digit}
use Rattle.lines.proofs.Reading.{digits, ended, not_ended, all_digits}
use Rattle.lines.proofs.parse.split_line.Goals as goal

pub split_at-requires : goal.split_at-requires
split_at-requires c = omega (arith, prefix_len-le-length is_digit c.args.s.now)

pub returns-in_default-clause-is : goal.returns-in_default-clause-is
returns-in_default-clause-is c =
    let none = c.in_default.ensures.cases in
    let e : length (drop (digits c.args.s.now) c.args.s.now) ≡ 0 = cc in
    all_digits c.args.s.now e

pub returns-then-end-eq-LINE_END-clause-is : goal.returns-then-end-eq-LINE_END-clause-is
returns-then-end-eq-LINE_END-clause-is c =
    let first = c.in-Some.ensures.cases in
    let e : drop (digits c.args.s.now) c.args.s.now ≡ 10 ∷ c.in-Some.rest.now = cc in
    let r = ended c.args.s.now c.in-Some.rest.now e in
    cc

pub returns-else-end-eq-LINE_END-clause-is : goal.returns-else-end-eq-LINE_END-clause-is
returns-else-end-eq-LINE_END-clause-is c =
    let first = c.in-Some.ensures.cases in
    let e : drop (digits c.args.s.now) c.args.s.now ≡ c.in-Some.end.now ∷ c.in-Some.rest.now = cc in
    not_ended _ _ _ e c.if-end-eq-LINE_END.false
