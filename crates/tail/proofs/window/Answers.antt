-- `tail::window` meets its contract: the first m of 57 or 64 bits.
-- Assumes nothing.
use mathlib.Core.Path.{ap, ◌∙◌}
use Prim.Native.Nat.{ℕ, ◌-◌, ◌/◌, ◌^◌}
use native.Mathlib.Omega.{arith}
use Rattle.bits.proofs.Run.{bits_first}
use Rattle.tail.proofs.TailSteps.{head_window}
use Rattle.tail.proofs.window.Goals as goal

pub returns-then-m-le57 : goal.returns-then-m-le57
returns-then-m-le57 c = let a = c.args in head_window a.bytes.now a.s.0 _ a.m c.if-m-le57.true c.head_inside.ensures

pub returns-then-byte-bytes : goal.returns-then-byte-bytes
returns-then-byte-bytes c =
    let a = c.args in
    ap (λ (x : ℕ). x / 2 ^ (64 - a.m)) c.word_inside.ensures ∙ bits_first a.bytes.now a.s.0 {j = a.m} {k = 64} (omega arith)

pub returns : goal.returns
returns c =
    let a = c.args in
    ap (λ (x : ℕ). x / 2 ^ (64 - a.m)) c.word_at.ensures ∙ bits_first a.bytes.now a.s.0 {j = a.m} {k = 64} (omega arith)
