-- `set::finder::Finder::find` meets its contract. The loop's invariant: the patterns passed are settled, and the flags are those
-- of the patterns from here on.
-- Assumes nothing.
use Rattle.set.specs.Parts.{text_in, set_in}
use Rattle.set.proofs.Standing.{Finding}
use Rattle.set.proofs.finder.Finder.find.Given as goal

abbrev pub invariant-loop-i : goal.invariant-loop-i
invariant-loop-i l = Finding (text_in l.self) (set_in l.self) l.p.0 l.flags l.initial.numbers l.numbers l.i-iterator.0 l.count
