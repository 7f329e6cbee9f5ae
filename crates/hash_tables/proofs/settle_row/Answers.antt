use mathlib.Core.Path.{◌≡◌, sym, ap}
use Prim.Native.Nat.{ℕ, ◌+◌, ◌*◌, ◌/◌, ◌^◌}
use native.Mathlib.Omega.{arith}
use lib.Bits.{bit_and}
use lib.ListN.{get_or}
use Rattle.matcher.proofs.LinedCells.{only_none, only_then, words_same}
use Rattle.hash_tables.proofs.HashWords.{four_lt, union_none}
use Rattle.hash_tables.proofs.HashRows.{part_none, part_all, part_pass}
use Rattle.hash_tables.proofs.settle_row.Goals as goal
use Rattle.hash_tables.proofs.settle_row.Goals.{then-cells-g-ne0, else-cells-g-ne0}

pub loop-g-init : goal.loop-g-init
loop-g-init c = record { only = only_none; part = λ w long words r. part_none r }

pub overflow_add-g-in-loop-g : goal.overflow_add-g-in-loop-g
overflow_add-g-in-loop-g c = omega (arith, four_lt c.loop-g.kept c.loop-g.g)

pub offset_bounds-cells-g : goal.offset_bounds-cells-g
offset_bounds-cells-g c = omega (arith, four_lt c.loop-g.kept c.loop-g.g)

pub bounds-cells-g : goal.bounds-cells-g
bounds-cells-g c = let l = c.loop-g in omega (arith, four_lt l.kept l.g, l.invariant.only.size)

pub settle_four-kept-requires : goal.settle_four-kept-requires
settle_four-kept-requires c =
    let a = c.args in
    let u = c.loop-g.invariant.only in
    record { high_bound = (omega arith, omega arith, omega arith, omega (arith, u.size)); later_value = ap (λ (x : ℕ). x / 16) (sym (u.high (262 + a.high) (omega arith))) }

pub loop-g-preserved : goal.loop-g-preserved
loop-g-preserved c =
    let a = c.args in
    let l = c.loop-g in
    let next : 4 * (l.g + 1) ≡ 4 * l.g + 4 = omega arith in
    elim c.if-cells-g-ne0.branch [
      | then-cells-g-ne0 t ↦
          rw (t.cells-is, t.kept-is, next) (record {
            only = only_then l.invariant.only t.settle_four-kept.ensures.only;
            part = λ w long words r.
                t.settle_four-kept.ensures.part w long
                (words_same w (a.d + 1) 4 262 a.cells.now l.cells words (λ i g k. l.invariant.only.high i (omega arith))) (l.invariant.part w long words r);
          })
      | else-cells-g-ne0 t ↦
          let set = bit_and (l.kept / 2 ^ (4 * l.g)) 15 in
          let read : get_or l.cells (278 + 16 * l.g + set) 0 ≡ get_or a.cells.now (278 + 16 * l.g + set) 0 = l.invariant.only.high (278 + 16 * l.g + set) (omega arith) in
          rw (t.cells-is, t.kept-is, next) (record {
            only = l.invariant.only;
            part = λ w long words r.
                part_pass w long a.d a.cells.now words a.high (omega arith) (4 * l.g + 4) (omega arith) (l.invariant.part w long words r)
                (union_none l.kept l.g a.cells.now (get_or a.cells.now (262 + a.high) 0 / 2 ^ 4) (c.requires.unions l.g (omega arith)) (rw read at t.if-cells-g-ne0.false));
          })
    ]

pub returns : goal.returns
returns c =
    let l = c.loop-g in
    record { row = λ w long words r. part_all (l.invariant.part w long words r) (omega arith); only = l.invariant.only }
