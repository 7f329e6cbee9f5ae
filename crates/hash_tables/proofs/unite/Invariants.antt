-- `hash_tables::unite` meets its contract. The loop's invariant: the unions of the sets passed are made.
-- Assumes nothing.
use Prim.Native.Nat.{ℕ, ◌<◌, ◌+◌, ◌*◌}
use lib.ListN.{get_or}
use Rattle.matcher.specs.Lined.{Only}
use Rattle.hash_tables.specs.HashWords.{HasAll}
use Rattle.hash_tables.proofs.unite.Given as goal

abbrev pub invariant-loop-set : goal.invariant-loop-set
invariant-loop-set l =
    record {
      only : Only (278 + 16 * l.g) (278 + 16 * l.g + 16) l.initial.cells l.cells;
      united : (s : ℕ) → s < l.set → HasAll l.initial.cells (262 + 4 * l.g) s (get_or l.cells (278 + 16 * l.g + s) 0);
    }
