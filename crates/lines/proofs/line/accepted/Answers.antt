use Rattle.lines.proofs.Appending.{accepted_parts}
use Rattle.lines.proofs.line.accepted.Goals as goal

pub returns-clause-is : goal.returns-clause-is
returns-clause-is g c =
    rw (c.push.ensures.items, c.put_numbers-2.ensures.is, c.put_numbers.ensures.is, c.put.ensures, c.name_of.ensures)
    (accepted_parts c.args.page.now.items c.args.method c.args.steps c.args.places.now)
