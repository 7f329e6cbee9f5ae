-- `lines::line::put_numbers` meets its contract. The loop's invariant: the numbers passed are appended.
-- Assumes nothing.
use Rattle.std.proofs.Common.{◌≡◌, ◌+◌, ◌*◌, ◌≤◌, ◌++◌, take}
use Rattle.arrayvec.specs.ArrayVec.{array_vec_len}
use Rattle.lines.specs.Line.{numbers}
use Rattle.lines.proofs.line.put_numbers.Given as goal

abbrev pub invariant-loop-n : goal.invariant-loop-n
invariant-loop-n g l =
    record {
      appended : l.page.items ≡ l.initial.page.items ++ numbers (take l.n-index l.list);
      short : array_vec_len l.page ≤ array_vec_len l.initial.page + l.n-index * 11;
    }
