-- `marking::judge::all_rise` meets its contract. The loop's invariant: the sheets rise if those that are left do, which lie in the cells
-- that are left.
-- Assumes nothing.
use Prim.Native.Nat.{◌≤◌}
use mathlib.Core.Path.{◌≡◌}
use lib.ListN.{length, drop}
use Rattle.marking.specs.Sitting.{sum, sheets_of, all_rise}
use Rattle.marking.proofs.judge.all_rise.Given as goal

abbrev pub invariant-loop-count : goal.invariant-loop-count
invariant-loop-count l = (all_rise (sheets_of l.rest (drop l.count-index l.counts)) ≡ all_rise (sheets_of l.sheets l.counts))
    × (sum (drop l.count-index l.counts) ≤ length l.rest)
