-- `set::finder::Finder::block` meets its contract. The loop's invariant: the marks passed are taken, and the hits of their places
-- stand in the list.
-- Assumes nothing.
use Rattle.set.specs.Parts.{text_in, set_in}
use Rattle.set.proofs.Blocks.{Turning}
use Rattle.set.proofs.finder.Finder.block.Given as goal

abbrev pub invariant-loop-e : goal.invariant-loop-e
invariant-loop-e l = Turning (text_in l.self) (set_in l.self) l.found l.base.0 l.from.0 l.to.0 l.initial.list l.list l.numbers l.e-iterator.0 l.hits
