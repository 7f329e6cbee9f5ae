-- `hits::report::search_line` meets its contract: the call's promise decides which line is appended. The lengths of the
-- arrays come from a law, since computing them counts each cell.
-- Assumes nothing.
use lib.ListN.{replicate}
use borrow.Author.Rules.{rules}
use Rattle.rules.proofs.Scratch.{enough}
use Rattle.hits.specs.Printed.{fixed_pattern}
use Rattle.hits.proofs.Enough.{holds}
use Rattle.hits.proofs.Answers.{Call, refused_printed, accepted_printed}
use Rattle.hits.proofs.report.search_line.Goals as goal
use Rattle.hits.proofs.report.search_line.Goals.{After-search-outcome}

-- what the search promised
made : (c : After-search-outcome) → (let a = c.args in Call (record { bytes = a.text.now; count = a.n }) (fixed_pattern a.pattern.now a.m) a.method (replicate 4096 0) (replicate 4222 0) c.search-outcome.result c.search-outcome.new.list c.search-outcome.new.scratch)
made c =
    record {
      mark = _;
      fresh = c.new.ensures;
      cells = holds _ 4096 (search rules);
      room = holds _ 4222 (enough c.args.method c.args.m c.requires.1);
      promise = c.search-outcome.ensures;
    }

pub returns-in_default-clause-is : goal.returns-in_default-clause-is
returns-in_default-clause-is c =
    rw (← refused_printed (made (goal.at.returns-in_default-clause-is c).After-search-outcome) c.in_default.is (rw c.in_default.is at c.number_in.ensures)) c.refused.ensures.is

pub returns-clause-is : goal.returns-clause-is
returns-clause-is c =
    rw (← accepted_printed (made (goal.at.returns-clause-is c).After-search-outcome) c.in-Ok.is) c.accepted.ensures.is
