-- `hits::report::report` meets its contract.
-- Assumes nothing.
use Rattle.std.proofs.Common.{◌∙◌}
use Rattle.hits.specs.Printed.{printed_of}
use Rattle.hits.proofs.Reporting.{packed_printed, parsed_printed}
use Rattle.hits.proofs.report.report.Goals as goal

pub returns-in_default : goal.returns-in_default
unfolding printed_of
returns-in_default c =
    rw (c.put.ensures, c.requires) (parsed_printed _ _ c.in_default.ensures.is)

pub returns : goal.returns
returns c =
    c.five_lines.ensures
    ∙ packed_printed _ _ _ _ (c.as_slice-2.ensures.value ∙ c.pack-pattern_bytes.ensures) (c.as_slice.ensures.value ∙ c.pack-text_bytes.ensures)
    ∙ parsed_printed _ _ c.in-Some.ensures.is
