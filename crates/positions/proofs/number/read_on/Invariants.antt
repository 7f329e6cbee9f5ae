-- `positions::number::read_on` meets its contract. The loop's invariant: reading on from the bytes that are left, with the weight, the
-- value and the groups left, gives what reading from the start gives.
-- Assumes nothing.
use Prim.Native.Nat.{◌-◌, ◌<◌}
use mathlib.Core.Path.{◌≡◌}
use Rattle.positions.specs.Decode.{read_groups}
use Rattle.positions.proofs.ReadGroups.{Weight}
use Rattle.positions.proofs.number.read_on.Given as goal

abbrev pub invariant-loop : goal.invariant-loop
invariant-loop l = (read_groups (4 - l.counter) l.weight l.value l.rest ≡ read_groups 4 128 l.low l.file)
    × (1 < l.weight)
    × (l.value < l.weight)
    × Weight l.weight (4 - l.counter)
