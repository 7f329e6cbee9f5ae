-- `marking::merge::Merge::pass` meets its contract: eight positions that are the same are shared.
-- Assumes nothing.
use native.Mathlib.Omega.{arith}
use Rattle.marking.proofs.Merging.{same_counted}
use Rattle.marking.proofs.merge.Merge.pass.Goals as goal

pub invariant_of-self : goal.invariant_of-self
invariant_of-self c =
    let self = c.args.self.now in
    let eight = c.eight_same.ensures c.if-eight_same.true in
    record {
      in_key = eight.in_key;
      in_sheet = eight.in_sheet;
      some_steps = omega arith;
      few = omega (arith, self.few);
      counted = omega (arith, self.counted, same_counted self.key.list.now self.sheet.list.now self.i self.j 8 eight.in_key self.key.rises eight.same);
    }
