-- `matcher::query::Query::new` meets its contract: the first bits of a load of either run.
-- Assumes nothing.
use native.Mathlib.Omega.{arith}
use Rattle.matcher.proofs.Words.{head_is}
use Rattle.matcher.proofs.query.Query.new.Goals as goal

pub invariant_of-result : goal.invariant_of-result
invariant_of-result c =
    let p = c.args.pattern in
    record {
      some_bits = c.requires;
      head_of = head_is p.bytes.now p.fixed.now p.m c.word_near_end-2.ensures c.word_near_end.ensures (omega arith) c.front.ensures;
    }
