use mathlib.Core.Path.{◌≡◌}
use mathlib.Core.Logic.{◌↔◌}
use mathlib.Core.Bool.{true}
use native.Mathlib.Omega.{arith}
use lib.Bits.{bit_and, bit_xor}
use Rattle.rules.specs.Hash.{meets}
use Rattle.matcher.specs.Asked.{lent}
use Rattle.hash_tables.proofs.HashValues.{none_more, hash_is, shown_whole}
use Rattle.hash_tables.proofs.value.hash_of.Goals as goal
use Rattle.hash_tables.proofs.value.hash_of.Goals.{After-byte_at-in-loop-d}

-- what the test in the loop says
tested : (c : After-byte_at-in-loop-d)
    → let a = c.args in
    (meets (lent a.pattern.now) a.value c.loop-d.d ≡ true)
    ↔ (bit_and (bit_xor a.value c.byte_at.result) c.byte_at-in-loop-d.result ≡ 0)
tested c =
    let a = c.args in
    rw (c.byte_at.ensures, c.byte_at-in-loop-d.ensures)
    (shown_whole (lent a.pattern.now) a.value c.loop-d.d (omega arith) c.ranges.value.fits)

pub loop-d-init : goal.loop-d-init
loop-d-init c = λ e h. absurd (omega arith)

pub loop-d-preserved : goal.loop-d-preserved
loop-d-preserved c =
    let a = c.args in
    none_more (lent a.pattern.now) a.value c.loop-d.d c.loop-d.invariant
    (λ e. c.if-value-byte_at-eq0.false ((tested (goal.at.loop-d-preserved c).After-byte_at-in-loop-d).0 e))

pub returns-then-value-byte_at-eq0 : goal.returns-then-value-byte_at-eq0
returns-then-value-byte_at-eq0 c =
    let a = c.args in
    let l = c.loop-d in
    hash_is (lent a.pattern.now) a.value l.d l.invariant ((tested (goal.at.returns-then-value-byte_at-eq0 c).After-byte_at-in-loop-d).1 c.if-value-byte_at-eq0.true)

pub hash_by_first_bits-requires : goal.hash_by_first_bits-requires
hash_by_first_bits-requires c = record { good_pattern = c.requires; by_index = λ e h. c.loop-d.invariant e (omega arith) }
