use Rattle.lines.proofs.Appending.{refused_parts}
use Rattle.lines.proofs.line.refused.Goals as goal

pub returns-clause-is : goal.returns-clause-is
returns-clause-is g c =
    rw (c.push.ensures.items, c.put_numbers.ensures.is, c.put-2.ensures, c.put.ensures, c.name_of.ensures)
    (refused_parts c.args.page.now.items c.args.method c.args.number)
