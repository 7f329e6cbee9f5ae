use Prim.Native.Nat.{ℕ, ◌+◌, ◌*◌, ◌/◌, ◌%◌, ◌^◌, ◌<◌}
use mathlib.Core.Path.{◌≡◌, ap, ◌∙◌}
use native.Mathlib.Omega.{arith}
use Rattle.bits.specs.Packed.{bits_at}
use Rattle.bits.proofs.Run.{bits_lt}
use Rattle.matcher.specs.Asked.{lent}
use Rattle.matcher.proofs.Shifted.{shifted_first, shifted_more}
use Rattle.skip_tables.proofs.SkipFilling.{filled_more}
use Rattle.skip_tables.proofs.enter.Goals as goal
use Rattle.skip_tables.proofs.enter.Goals.{In-loop-r}

-- the first eight bits of the shifted load
value : (c : In-loop-r)
    → let a = c.args in
    c.loop-r.x / 2 ^ 56 ≡ bits_at a.pattern.now.bytes.now (a.j + c.loop-r.r) 8
value c =
    let a = c.args in
    let l = c.loop-r in
    ap (λ (y : ℕ). y / 2 ^ 56) l.invariant.0 ∙ shifted_first a.pattern.now.bytes.now a.j l.r (omega arith)

value_lt : (c : In-loop-r) → c.loop-r.x / 2 ^ 56 < 256
value_lt c =
    let a = c.args in
    rw (value c) (bits_lt a.pattern.now.bytes.now (a.j + c.loop-r.r) 8)

pub loop-r-preserved : goal.loop-r-preserved
loop-r-preserved c =
    let a = c.args in
    let l = c.loop-r in
    let w = lent a.pattern.now in
    let more : a.j + (l.r + 1) ≡ a.j + l.r + 1 = omega arith in (
      ap (λ (y : ℕ). (y * 2 ^ 1) % 2 ^ 64) l.invariant.0 ∙ shifted_more a.pattern.now.bytes.now a.j l.r (omega arith),
      rw more (filled_more w a.cells.now l.cells (a.j + l.r) _ l.invariant.1 (value (goal.at.loop-r-preserved c).In-loop-r) (omega arith) (omega arith)),
    )
