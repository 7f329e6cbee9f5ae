-- `lines::lent::put_numbers` meets its contract. The loop's invariant: the numbers passed are stored.
-- Assumes nothing.
use Rattle.std.proofs.Common.{◌+◌, ◌*◌, ◌≤◌, take}
use Rattle.lines.specs.Line.{numbers}
use Rattle.lines.specs.Inner.{Puts}
use Rattle.lines.proofs.lent.put_numbers.Given as goal

abbrev pub invariant-loop-n : goal.invariant-loop-n
invariant-loop-n l =
    record {
      stored : Puts l.initial.out l.start (numbers (take l.n-index l.list)) l.at l.out;
      short : l.at ≤ l.start + l.n-index * 11;
    }
