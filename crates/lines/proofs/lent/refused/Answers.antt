-- `lines::lent::refused` meets its contract.
-- Assumes nothing.
use Rattle.std.proofs.Common.{[]}
use Rattle.lines.proofs.Appending.{refused_parts}
use Rattle.lines.proofs.Putting.{puts_as, puts_then}
use Rattle.lines.proofs.lent.refused.Goals as goal

pub returns-clause-is : goal.returns-clause-is
returns-clause-is c =
    let name = puts_as c.name_of.ensures c.put-a.ensures in
    puts_as (refused_parts [] c.args.method c.args.number) (puts_then (puts_then (puts_then name c.put-b.ensures) c.put_numbers-c.ensures.is) c.put.ensures)
