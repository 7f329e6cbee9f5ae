-- `search::call::answer` meets its contract: the ways out are the three ways to stop.
-- Assumes nothing.
use Rattle.search.proofs.call.answer.Goals as goal
