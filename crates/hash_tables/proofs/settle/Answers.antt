use mathlib.Core.Logic.{inl}
use native.Mathlib.Omega.{arith}
use Rattle.hash_tables.proofs.HashWords.{union_same}
use Rattle.hash_tables.proofs.HashRows.{rows_none, rows_more, rows_all}
use Rattle.hash_tables.proofs.settle.Goals as goal

pub loop-high-init : goal.loop-high-init
loop-high-init c = rows_none c.args.d c.args.cells.now

pub settle_row-kept-requires : goal.settle_row-kept-requires
settle_row-kept-requires c =
    let l = c.loop-high in
    let r = l.invariant in record { high_bound = (omega arith, omega arith, omega (arith, r.size)); unions = λ g small. union_same g c.args.cells.now l.cells small (c.requires.unions g small) (λ i h k. r.later i (omega arith) (inl (omega arith))) }

pub loop-high-preserved : goal.loop-high-preserved
loop-high-preserved c =
    let l = c.loop-high in
    let a = c.args in
    rows_more a.d a.cells.now l.cells l.high l.unset l.invariant (omega arith) _ _ c.settle_row-kept.ensures (omega arith)

pub returns : goal.returns
returns c =
    let a = c.args in
    let l = c.loop-high in
    rows_all a.d a.cells.now l.cells l.high l.unset l.invariant (omega arith)
