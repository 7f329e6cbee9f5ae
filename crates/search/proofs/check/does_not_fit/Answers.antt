-- `search::check::does_not_fit` meets its contract: each arm is the method whose variant it is told.
-- Assumes nothing.
use Rattle.search.proofs.check.does_not_fit.Goals as goal

pub returns-in-Hash : goal.returns-in-Hash
returns-in-Hash c = rw c.in-Hash.is

pub returns-in-Skip : goal.returns-in-Skip
returns-in-Skip c = rw c.in-Skip.is

pub returns-in-Tail : goal.returns-in-Tail
returns-in-Tail c = rw c.in-Tail.is
