-- `positions::writer::write` meets its contract: the byte count decides whether the list is taken and whether it fits, and only then
-- is anything stored.
-- Assumes nothing.
use mathlib.Core.Path.{sym, ap, ◌∙◌}
use native.Mathlib.Omega.{arith}
use Rattle.std.proofs.lemmas.Result.{err_from_is_err_and}
use Rattle.positions.specs.Promise.{refused}
use Rattle.positions.specs.declared.WriteRefusal.TheVariants.{TargetTooShort}
use Rattle.positions.proofs.Answers.{counted_rises, refused_falls, write_falling, write_short, writes_refused, writes_bytes}
use Rattle.positions.proofs.writer.write.Goals as goal

pub returns-in_err-needed : goal.returns-in_err-needed
returns-in_err-needed c =
    let list = c.args.list.now in
    let p = err_from_is_err_and c.from_residual.result c.from_residual.ensures.1 in
    let f = refused_falls list _ c.in_err-needed.ensures in
    rw (p.1, p.2) (writes_refused list _ _ (write_falling list _ f.0 ∙ ap refused (sym f.1)))

pub returns-then-target-needed : goal.returns-then-target-needed
returns-then-target-needed c =
    let list = c.args.list.now in
    let k = counted_rises list _ c.in_ok-needed.ensures in
    writes_refused list _ TargetTooShort (write_short list _ k.0 (omega (arith, k.1)))

pub store-requires : goal.store-requires
store-requires c =
    let k = counted_rises c.args.list.now _ c.in_ok-needed.ensures in
    record { list_rises = k.0; file_fits = omega (arith, k.1) }

pub returns : goal.returns
returns c =
    let k = counted_rises c.args.list.now _ c.in_ok-needed.ensures in
    rw c.store.ensures (writes_bytes _ _ _ k.0 k.1 c.if-target-needed.false)
