-- `Masks::new` meets its contract.
-- Assumes nothing.
use mathlib.Core.Path.{refl}
use Rattle.tail.proofs.Masks.new.Goals as goal

pub returns-clause-made : goal.returns-clause-made
returns-clause-made c =
    let first = c.new.ensures in
    let second = c.new-2.ensures in
    record {
      run = c.first_run-run.result;
      care_is = refl;
      below_is = refl;
      flip_is = c.every_bit-flip.ensures;
      run_is = c.first_run-run.ensures;
      past_is = refl;
      first = rw first.0 c.four-from.ensures;
      first_spread = first.1;
      second = rw second.0 c.four-other.ensures;
      second_spread = second.1;
    }
