use mathlib.Core.Path.{◌≡◌, sym, ap, ap₂, ◌∙◌}
use mathlib.Core.List.{List}
use Prim.Native.Nat.{ℕ, ◌+◌}
use native.Mathlib.Numerals.{add-one}
use native.Mathlib.Omega.{arith}
use lib.ListN.{length, get_or, set}
use lib.Seq.{paste, paste-zero, paste-suc, length-paste}
use Rattle.hash_tables.proofs.HashTables.{paste_front}
use Rattle.hash_tables.proofs.double.Goals as goal
use Rattle.hash_tables.proofs.double.Goals.{At-loop-i}

-- the copy is as long
same_size : (c : At-loop-i) → length c.loop-i.cells ≡ length c.args.cells.now
same_size c =
    let a = c.args in
    ap length c.loop-i.invariant ∙ length-paste a.cells.now a.size a.cells.now c.loop-i.i (omega arith) (omega arith)

pub loop-i-init : goal.loop-i-init
loop-i-init c = paste-zero c.args.cells.now c.args.size c.args.cells.now

pub bounds-cells-i : goal.bounds-cells-i
bounds-cells-i c = omega (arith, same_size (goal.at.bounds-cells-i c).At-loop-i)

pub bounds-cells-size : goal.bounds-cells-size
bounds-cells-size c = omega (arith, same_size (goal.at.bounds-cells-size c).At-loop-i)

pub loop-i-preserved : goal.loop-i-preserved
loop-i-preserved c =
    let a = c.args in
    let l = c.loop-i in
    let d = a.cells.now in
    ap₂ (λ (x : List ℕ) (v : ℕ). set x (a.size + l.i) v) l.invariant
    (ap (λ (x : List ℕ). get_or x l.i 0) l.invariant ∙ paste_front d a.size l.i (omega arith) l.i (omega arith))
    ∙ paste-suc d a.size d l.i 0 (omega arith) (omega arith)
    ∙ ap (paste d a.size d) (sym (add-one l.i))

pub shape_of-cells : goal.shape_of-cells
shape_of-cells c = same_size (goal.at.shape_of-cells c).At-loop-i
