-- `skip_tables::prepare_words` meets its contract. The loop's invariant: the words of the blocks below k are made.
-- Assumes nothing.
use Prim.Native.Nat.{◌+◌}
use Rattle.matcher.specs.Lined.{Only}
use Rattle.matcher.specs.Asked.{lent}
use Rattle.skip_tables.proofs.SkipWords.{WordsTo}
use Rattle.skip_tables.proofs.prepare_words.Given as goal

abbrev pub invariant-loop-k : goal.invariant-loop-k
invariant-loop-k l = WordsTo (lent l.pattern) l.k l.cells × Only 0 (255 + l.pattern.m) l.initial.cells l.cells
