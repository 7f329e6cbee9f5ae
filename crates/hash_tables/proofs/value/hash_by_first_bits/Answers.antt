use mathlib.Core.Path.{◌≡◌, refl, ap}
use mathlib.Core.Logic.{◌↔◌}
use mathlib.Core.Bool.{true}
use Prim.Native.Nat.{ℕ, ◌+◌, ◌-◌, ◌*◌, ◌/◌, ◌%◌, ◌^◌}
use native.Mathlib.Omega.{arith}
use lib.Bits.{bit_and, bit_xor}
use Rattle.rules.specs.Hash.{meets}
use Rattle.matcher.specs.Asked.{lent}
use Rattle.hash_tables.proofs.HashValues.{long_enough, none_more, hash_is, hash_last, one_shl, shown_first}
use Rattle.hash_tables.proofs.value.hash_by_first_bits.Goals as goal
use Rattle.hash_tables.proofs.value.hash_by_first_bits.Goals.{In-loop-k}

-- what the test in the loop says
tested : (c : In-loop-k)
    → let a = c.args in
    let k = c.loop-k.k - 1 in
    (meets (lent a.pattern.now) a.value (a.pattern.now.m - k) ≡ true)
    ↔ (bit_and (bit_xor (a.value % ((1 * 2 ^ k) % 2 ^ 32)) (c.byte_at-first.result / 2 ^ (8 - k))) (c.byte_at-care.result / 2 ^ (8 - k)) ≡ 0)
tested c =
    let a = c.args in
    let k = c.loop-k.k - 1 in
    let enough = long_enough _ c.requires.good_pattern in
    shown_first (lent a.pattern.now) a.value k _ _ _ (omega arith) (omega arith)
    (ap (λ (x : ℕ). a.value % x) (one_shl k (omega arith))) (ap (λ (x : ℕ). x / 2 ^ (8 - k)) c.byte_at-first.ensures)
    (ap (λ (x : ℕ). x / 2 ^ (8 - k)) c.byte_at-care.ensures)

pub loop-k-preserved : goal.loop-k-preserved
loop-k-preserved c =
    let a = c.args in
    let l = c.loop-k in
    let enough = long_enough _ c.requires.good_pattern in
    let up : a.pattern.now.m - (l.k - 1 - 1) ≡ a.pattern.now.m - (l.k - 1) + 1 = omega arith in
    rw up (none_more (lent a.pattern.now) a.value (a.pattern.now.m - (l.k - 1)) l.invariant (λ e. c.if-value-k-eq0.false ((tested (goal.at.loop-k-preserved c).In-loop-k).0 e)))

pub returns-then-value-k-eq0 : goal.returns-then-value-k-eq0
returns-then-value-k-eq0 c =
    let a = c.args in
    let l = c.loop-k in
    hash_is (lent a.pattern.now) a.value (a.pattern.now.m - (l.k - 1)) l.invariant ((tested (goal.at.returns-then-value-k-eq0 c).In-loop-k).1 c.if-value-k-eq0.true)

pub returns : goal.returns
returns c =
    let a = c.args in
    let l = c.loop-k in
    let all : a.pattern.now.m - (l.k - 1) ≡ a.pattern.now.m = omega arith in
    hash_last (lent a.pattern.now) a.value a.pattern.now.m refl (rw all at l.invariant)
