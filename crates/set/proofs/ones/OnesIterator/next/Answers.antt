-- `set::ones::Ones` as an iterator gives the numbers of the bits that are 1, lowest first.
-- Assumes nothing.
use Prim.Native.Nat.{◌-◌, ◌<◌}
use mathlib.Core.Path.{ap}
use native.Mathlib.Omega.{arith}
use lib.Bits.{bit_and}
use lib.ListN.{length}
use Rattle.set.specs.Ones.{ones}
use Rattle.set.proofs.Lowest.{none_set, lowest_first}
use Rattle.set.proofs.ones.OnesIterator.next.Goals as goal

pub returns-then-self-eq0-clause-steps : goal.returns-then-self-eq0-clause-steps
returns-then-self-eq0-clause-steps c = rw c.if-self-eq0.true (none_set, none_set)

pub returns-clause-steps : goal.returns-clause-steps
returns-clause-steps c = lowest_first c.args.self.now.0 (omega arith) c.if-self-eq0.false

pub returns-clause-goes : goal.returns-clause-goes
returns-clause-goes c =
    let word = c.args.self.now.0 in
    let less : length (ones (bit_and word (word - 1))) < length (ones word) = omega (arith, ap length (lowest_first word (omega arith) c.if-self-eq0.false)) in
    record { on = λ f. (tt, tt, less); keeps = tt; rests = λ f. tt }
