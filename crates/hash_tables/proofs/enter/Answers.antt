use mathlib.Core.Path.{◌≡◌, ap, ◌∙◌}
use Prim.Native.Nat.{ℕ, ◌+◌, ◌-◌, ◌*◌, ◌/◌, ◌%◌, ◌^◌, ◌<◌}
use native.Mathlib.Omega.{arith}
use Rattle.bits.specs.Packed.{bits_at}
use Rattle.bits.proofs.Run.{bits_lt}
use Rattle.matcher.specs.Asked.{lent}
use Rattle.matcher.proofs.Shifted.{shifted_none, shifted_first, shifted_more}
use Rattle.hash_tables.proofs.HashTables.{entered_more}
use Rattle.hash_tables.proofs.enter.Goals as goal
use Rattle.hash_tables.proofs.enter.Goals.{In-loop-r}

-- the first eight bits of the shifted load
value : (c : In-loop-r)
    → let a = c.args in
    c.loop-r.x / 2 ^ 56 ≡ bits_at a.pattern.now.bytes.now (a.pattern.now.m - 8 - (a.d - c.loop-r.r)) 8
value c =
    let a = c.args in
    let l = c.loop-r in
    let there : a.pattern.now.m - 8 - a.d + l.r ≡ a.pattern.now.m - 8 - (a.d - l.r) = omega arith in
    ap (λ (y : ℕ). y / 2 ^ 56) l.invariant.shift
    ∙ shifted_first a.pattern.now.bytes.now (a.pattern.now.m - 8 - a.d) l.r (omega arith)
    ∙ ap (λ (n : ℕ). bits_at a.pattern.now.bytes.now n 8) there

value_lt : (c : In-loop-r) → c.loop-r.x / 2 ^ 56 < 256
value_lt c =
    let a = c.args in
    rw (value c) (bits_lt a.pattern.now.bytes.now (a.pattern.now.m - 8 - (a.d - c.loop-r.r)) 8)

pub loop-r-init : goal.loop-r-init
loop-r-init c =
    let a = c.args in
    let all : a.d - 0 ≡ a.d = omega arith in
    record { shift = c.word_at-x.ensures ∙ shifted_none a.pattern.now.bytes.now (a.pattern.now.m - 8 - a.d); entered = rw all c.requires.entered }

pub offset_bounds-cells-x : goal.offset_bounds-cells-x
offset_bounds-cells-x c = omega (arith, value_lt c)

pub bounds-cells-x : goal.bounds-cells-x
bounds-cells-x c = omega (arith, value_lt c, c.loop-r.invariant.entered.size)

pub loop-r-preserved : goal.loop-r-preserved
loop-r-preserved c =
    let a = c.args in
    let l = c.loop-r in
    let less : a.d - (l.r + 1) ≡ a.d - l.r - 1 = omega arith in
    record {
      shift = ap (λ (y : ℕ). (y * 2 ^ 1) % 2 ^ 64) l.invariant.shift ∙ shifted_more a.pattern.now.bytes.now (a.pattern.now.m - 8 - a.d) l.r (omega arith);
      entered = rw less (entered_more (lent a.pattern.now) c.requires.all_fixed a.cells.now l.cells (a.d - l.r) _ l.invariant.entered (omega arith) (omega arith) (omega arith) (value c));
    }

pub returns : goal.returns
returns c =
    let a = c.args in
    let l = c.loop-r in
    let all : l.r ≡ a.k = omega arith in
    rw all at l.invariant.entered
