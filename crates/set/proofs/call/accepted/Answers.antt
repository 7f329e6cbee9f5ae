-- `set::call::accepted` meets its contract: the tables are made, the steps are, and the answer tells what they left.
-- Assumes nothing.
use mathlib.Core.Path.{◌≡◌, refl}
use Prim.Native.Nat.{ℕ, zero, suc, ◌+◌, ◌-◌, ◌^◌}
use native.Mathlib.Omega.{arith}
use lib.ListN.{length, get_or, replicate}
use Rattle.matcher.specs.Ready.{text_of}
use Rattle.set_rules.specs.PatternSet.{set_places}
use Rattle.set_tables.specs.Parts.{lent}
use Rattle.set_rules.proofs.Hits.{largest_least}
use Rattle.set_tables.proofs.Entering.{tables_of}
use Rattle.set.proofs.Running.{leaves_of}
use Rattle.set.proofs.call.accepted.Goals as goal

-- the array begins with zeros alone
zeros : (k z : ℕ) → ◌≡◌ {A = ℕ} (get_or (replicate k 0) z 0) 0
zeros zero z = refl
zeros (suc k) zero = refl
zeros (suc k) (suc z) = zeros k z

pub enter_all-requires : goal.enter_all-requires
enter_all-requires c = record { good_set = c.requires.patterns; in_bounds = (omega arith, omega arith, zeros 128) }

pub overflow_cast-end : goal.overflow_cast-end
overflow_cast-end c =
    omega (arith, c.places.ensures, largest_least (λ i. (1 + c.args.n) - get_or c.args.patterns.now.counts.now i 0) (length c.args.patterns.now.counts.now) (2 ^ 30) (λ i l. omega (arith, c.requires.few_bits, (c.requires.patterns.each i l).some_bits)))

pub sure-requires : goal.sure-requires
sure-requires c = (c.requires.few_bits, c.requires.patterns.few)

pub invariant_of-finder : goal.invariant_of-finder
invariant_of-finder c =
    let made = c.enter_all.ensures in
    record {
      few_bits = c.requires.few_bits;
      good = c.requires.patterns;
      kept = made.0;
      rows_there = omega arith;
      lengths = c.sure.ensures;
      tables = tables_of (lent c.args.patterns.now) c.enter_all.new.halves c.pair_up.new.cells made.1 c.pair_up.ensures.0;
      cells_there = omega arith;
    }

pub run-requires : goal.run-requires
unfolding set_places
run-requires c = record { inside = omega (arith, c.requires.inside, c.places.ensures); end_value = c.places.ensures }

pub returns : goal.returns
unfolding set_places
returns c =
    let a = c.args in
    leaves_of (text_of a.text.now a.n) (lent a.patterns.now) a.mark.0 a.budget a.list.now c.answer.result c.run.result _
    c.run.ensures (rw c.places.ensures at c.answer.ensures)
