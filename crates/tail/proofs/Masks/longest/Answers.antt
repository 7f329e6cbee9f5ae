-- `Masks::longest` meets its contract: the greatest of the lengths that are left.
-- Assumes nothing.
use Rattle.tail.proofs.TailLengths.{longest_of}
use Rattle.tail.proofs.Masks.longest.Goals as goal

pub returns : goal.returns
returns c =
    let k = c.args.self.now in
    let d = c.lengths_left in
    longest_of k.m k.zeros k.ones c.args.x d.result _ c.requires.0 c.requires.1 d.ensures (rw c.requires.2.care_is at c.compare_down.ensures)
