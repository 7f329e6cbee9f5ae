-- `hits::report::five_lines` meets its contract. The loop's invariant: the lines of the methods passed are appended.
-- Assumes nothing.
use Rattle.std.proofs.Common.{◌≡◌, ◌*◌, ◌≤◌, take}
use Rattle.std.specs.List.{flat_map}
use Rattle.arrayvec.specs.ArrayVec.{array_vec_len}
use Rattle.hits.specs.Printed.{fixed_pattern, search_line}
use Rattle.hits.specs.Report.{line_most}
use Rattle.hits.proofs.report.five_lines.Given as goal

abbrev pub invariant-loop-method : goal.invariant-loop-method
invariant-loop-method l =
    record {
      appended : l.page.items ≡ flat_map (search_line (record { bytes = l.text; count = l.n }) (fixed_pattern l.pattern l.m)) (take l.method-index l.method-items);
      short : array_vec_len l.page ≤ l.method-index * line_most;
    }
