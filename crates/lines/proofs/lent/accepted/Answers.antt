-- `lines::lent::accepted` meets its contract.
-- Assumes nothing.
use Rattle.std.proofs.Common.{[], ◌∷◌, take, sym, ap, arith}
use lib.Seq.{length-take-le}
use Rattle.lines.specs.Line.{numbers}
use Rattle.lines.proofs.Appending.{accepted_parts}
use Rattle.lines.proofs.Putting.{puts_as, puts_then}
use Rattle.lines.proofs.lent.accepted.Goals as goal

pub returns-clause-is : goal.returns-clause-is
returns-clause-is c =
    let a = c.args in
    let count = length-take-le a.hits a.list.now (omega arith) in
    let name = puts_as c.name_of.ensures c.put-a.ensures in
    let two = puts_as (ap (λ n. numbers (a.steps ∷ n ∷ [])) (sym count)) c.put_numbers-b.ensures.is in
    puts_as (accepted_parts [] a.method a.steps (take a.hits a.list.now)) (puts_then (puts_then (puts_then name two) c.put_numbers-c.ensures.is) c.put.ensures)
