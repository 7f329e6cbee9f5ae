use Prim.Native.Nat.{ℕ, ◌+◌, ◌-◌, ◌<◌}
use mathlib.Core.Path.{◌≡◌, refl, sym, ap, ◌∙◌}
use mathlib.Core.Bool.{true}
use mathlib.Core.List.{List, [], ◌∷◌, ◌++◌, append-nil, append_assoc}
use native.Mathlib.Omega.{arith}
use lib.ListN.{length, take, length-set}
use Rattle.std.proofs.lemmas.List.{take_all, take_more_set}
use Rattle.positions.specs.Decode.{read_body}
use Rattle.positions.specs.Inner.{reading_in, accepts, positions_of}
use Rattle.positions.proofs.ReadBody.{first_of, first_read, first_there, accepts_prepend, positions_prepend, read_ok}
use Rattle.positions.proofs.reader.store.Goals as goal

pub loop-cell-init : goal.loop-cell-init
loop-cell-init c =
    let all : length c.args.cells.now - 0 ≡ length c.args.cells.now = omega arith in
    (rw all c.requires, rw all refl, omega arith)

pub read_here-requires : goal.read_here-requires
read_here-requires c =
    let l = c.loop-cell in
    first_there (length l.cells - l.cell-index) l.next _ (omega arith) l.invariant.0

pub unwrap-n-requires : goal.unwrap-n-requires
unwrap-n-requires c =
    let l = c.loop-cell in
    let f = first_of (length l.cells - l.cell-index) l.next _ (omega arith) l.invariant.0 in
    read_ok c.read_here.result (c.read_here.ensures ∙ f.read)

pub overflow_add-p : goal.overflow_add-p
overflow_add-p c =
    let l = c.loop-cell in
    let e = sym (ap reading_in c.unwrap-n.ensures) ∙ c.read_here.ensures in
    omega (arith, (first_read (length l.cells - l.cell-index) l.next _ _ _ (omega arith) l.invariant.0 e).0)

pub overflow_add-next : goal.overflow_add-next
overflow_add-next c =
    let l = c.loop-cell in
    let e = sym (ap reading_in c.unwrap-n.ensures) ∙ c.read_here.ensures in
    omega (arith, (first_read (length l.cells - l.cell-index) l.next _ _ _ (omega arith) l.invariant.0 e).0)

pub loop-cell-preserved : goal.loop-cell-preserved
loop-cell-preserved c =
    let l = c.loop-cell in
    let i = l.cell-index in
    let p = l.next + c.unwrap-n.result.0 in
    let left = length l.cells - i in
    let body = read_body (left - 1) (p + 1) c.unwrap-n.result.1.now in
    let e = sym (ap reading_in c.unwrap-n.ensures) ∙ c.read_here.ensures in
    let found = first_read left l.next _ _ _ (omega arith) l.invariant.0 e in
    let good : accepts body ≡ true = sym (accepts_prepend p body) ∙ sym (ap accepts found.1) ∙ l.invariant.0 in
    let fewer : length l.cells - (i + 1) ≡ left - 1 = omega arith in
    let inside : i < length l.cells = omega arith in (
      rw (length-set, fewer) good,
      rw (length-set, fewer)
          (ap (λ (ps : List ℕ). ps ++ positions_of body) (take_more_set l.cells i p inside)
          ∙ append_assoc (take i l.cells) (p ∷ []) (positions_of body)
          ∙ ap (λ (ps : List ℕ). take i l.cells ++ ps) (sym (ap positions_of found.1 ∙ positions_prepend p body good))
          ∙ l.invariant.1),
      omega (arith, found.0),
    )

pub returns : goal.returns
unfolding read_body
returns c =
    let l = c.loop-cell in
    let none : length l.cells - l.cell-index ≡ 0 = omega arith in
    let same : length l.cells ≡ length c.args.cells.now = omega arith in
    sym (append-nil l.cells)
    ∙ ap (λ (cells : List ℕ). cells ++ []) (sym (take_all l.cell-index l.cells (omega arith)))
    ∙ ap (λ (n : ℕ). take l.cell-index l.cells ++ positions_of (read_body n l.next l.rest.now)) (sym none)
    ∙ l.invariant.1
    ∙ ap (λ (n : ℕ). positions_of (read_body n 0 c.args.body.now)) same
