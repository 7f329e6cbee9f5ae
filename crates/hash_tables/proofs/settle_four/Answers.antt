use mathlib.Core.Path.{◌≡◌, sym, ap, ap₂, ◌∙◌}
use mathlib.Core.Logic.{◌⊎◌, inl, inr}
use Prim.Native.Nat.{ℕ, ◌+◌, ◌*◌, ◌^◌, ◌≤◌, ◌<◌}
use native.Mathlib.Omega.{arith}
use lib.Bits.{bit_and, and_le_r, and_zero_l}
use lib.Count.{count_trailing_zeros, trailing_le}
use lib.ListN.{get_or}
use Rattle.bits.specs.Packed.{weight}
use Rattle.bits.proofs.Weight.{weight_lt, bit_or_bit, weight_zero}
use Rattle.matcher.proofs.LinedCells.{only_none, only_set}
use Rattle.hash_tables.proofs.HashRows.{moves_of, part_pass, part_set}
use Rattle.hash_tables.proofs.settle_four.Goals as goal
use Rattle.hash_tables.proofs.settle_four.Goals.{After-if_in, then-moves-ne0, else-moves-ne0}

-- the word of the moves of this turn's cell, if it has none yet
moves_is : (c : After-if_in)
    → let a = c.args in
    let l = c.loop-low in
    weight l.kept l.low ≡ 1 → bit_and c.if_in.result a.later ≡ moves_of a.cells.now a.high l.low
moves_is c one =
    let l = c.loop-low in
    ap₂ bit_and (c.if_in.ensures ∙ ap (λ (b : ℕ). get_or l.cells (262 + l.low) 0 * b) one ∙ omega arith ∙ l.invariant.only.high (262 + l.low) (omega arith)) c.requires.later_value

-- else it is 0
moves_zero : (c : After-if_in)
    → let a = c.args in
    let l = c.loop-low in
    weight l.kept l.low ≡ 0 → bit_and c.if_in.result a.later ≡ 0
moves_zero c none =
    let a = c.args in
    let l = c.loop-low in
    let gone : c.if_in.result ≡ 0 = c.if_in.ensures ∙ ap (λ (b : ℕ). get_or l.cells (262 + l.low) 0 * b) none ∙ omega arith in
    ap (λ (x : ℕ). bit_and x a.later) gone ∙ and_zero_l a.later

is_kept : (c : After-if_in)
    → let a = c.args in
    let l = c.loop-low in
    (bit_and c.if_in.result a.later ≡ 0 → ⊥) → weight l.kept l.low ≡ 1
is_kept c some =
    let l = c.loop-low in
    go (bit_or_bit (weight l.kept l.low) (weight_lt l.kept l.low))
  where
    go : let l = c.loop-low in (weight l.kept l.low ≡ 0) ⊎ (weight l.kept l.low ≡ 1) → weight l.kept l.low ≡ 1
    go (inl z) = absurd (some (moves_zero c z))
    go (inr e) = e

-- its lowest bit
few_moves : (c : After-if_in)
    → count_trailing_zeros 64 (bit_and c.if_in.result c.args.later) ≤ 64
few_moves c = trailing_le 64 _

pub loop-low-init : goal.loop-low-init
loop-low-init c = record { only = only_none; part = λ w long words r. r }

pub overflow_add-cells-then-moves-ne0 : goal.overflow_add-cells-then-moves-ne0
overflow_add-cells-then-moves-ne0 c = omega (arith, few_moves (goal.at.overflow_add-cells-then-moves-ne0 c).After-if_in)

pub overflow_cast-cells : goal.overflow_cast-cells
overflow_cast-cells c = omega (arith, few_moves (goal.at.overflow_cast-cells c).After-if_in)

pub loop-low-preserved : goal.loop-low-preserved
loop-low-preserved c =
    let a = c.args in
    let l = c.loop-low in
    elim c.if-moves-ne0.branch [
      | then-moves-ne0 w ↦
          let one = is_kept (goal.at.loop-low-preserved c).After-if_in w.if-moves-ne0.true in
          let moves = moves_is (goal.at.loop-low-preserved c).After-if_in one in
          let small : moves_of a.cells.now a.high l.low < 2 ^ 64 =
          omega (arith, moves, and_le_r c.if_in.result a.later) in
          rw (w.cells-is, w.kept-is) (record {
            only = only_set (16 * a.high + l.low) _ l.invariant.only (omega arith) (omega arith);
            part = λ p long words r.
                rw moves
                (part_set p long a.d a.cells.now words a.high (omega arith) (omega arith) (l.invariant.part p long words r) one small
                (λ z. w.if-moves-ne0.true (moves ∙ z)) (omega (arith, l.invariant.only.size)));
          })
      | else-moves-ne0 w ↦
          rw (w.cells-is, w.kept-is) (record {
            only = l.invariant.only;
            part = λ p long words r.
                part_pass p long a.d a.cells.now words a.high (omega arith) (l.low + 1) (omega arith) (l.invariant.part p long words r)
                (λ low from to one e.
                let here : low ≡ l.low = omega arith in
                let z : moves_of a.cells.now a.high l.low ≡ 0 = sym (moves_is (goal.at.loop-low-preserved c).After-if_in (rw here at one)) ∙ w.if-moves-ne0.false in
                rw here (ap (λ (x : ℕ). weight x e) z ∙ weight_zero e));
          })
    ]

pub returns : goal.returns
returns c =
    let l = c.loop-low in
    let end : l.low ≡ 4 * c.args.g + 4 = omega arith in
    record { part = λ w long words r. rw end at (l.invariant.part w long words r); only = l.invariant.only }
