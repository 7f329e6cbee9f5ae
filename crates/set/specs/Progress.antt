-- When a search for a set goes on. A place whose hits do not all fit is not passed, so a call can stop with full, no step made and
-- the mark where it was. Two cells for each pattern are always enough.
use Rattle.std.specs.Prelude.{◌≤◌, ◌<◌, ◌≡◌, length}
use Rattle.rules.specs.Machine.{full}
use Rattle.search.specs.Verdict.{ending_of}
use Rattle.set.specs.declared.Answer.{Answer}
use Rattle.set_rules.specs.PatternSet.{set_places}
use Rattle.set_rules.specs.Hits.{hits_at}
use Rattle.set_rules.specs.Verdict.{Request, room_in}

-- What an accepted call does to the mark, where places are left and its budget has a step: it moves the mark, if the hits at the
-- mark fit; else it stays there, makes no step and stops with full. With two cells for each pattern they fit.
pub record Progress (q : Request) (a : Answer) : Type 0 where
  pub moves : q.mark < set_places q.text q.patterns → 0 < q.budget → length (hits_at q.text q.patterns q.mark) ≤ room_in q.list
      → q.mark < a.mark.at.0
  pub stays : q.mark < set_places q.text q.patterns → 0 < q.budget → room_in q.list < length (hits_at q.text q.patterns q.mark)
      → (a.steps ≡ 0) × (a.mark.at.0 ≡ q.mark) × (ending_of a.stop ≡ full q.mark)
  pub enough : length q.patterns.counts ≤ room_in q.list → length (hits_at q.text q.patterns q.mark) ≤ room_in q.list
