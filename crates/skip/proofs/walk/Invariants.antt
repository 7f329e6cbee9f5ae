-- `skip::walk` meets its contract. The loop's invariant: the link is one of the byte's chain, and the occurrences before its
-- place are written.
-- Assumes nothing.
use Rattle.std.proofs.Common.{◌+◌, ◌-◌, ◌*◌}
use Rattle.bits.specs.Packed.{bits_at}
use Rattle.rules.specs.Occurrence.{occurrences}
use Rattle.matcher.specs.Tables.{in_chain, chained}
use Rattle.matcher.specs.Asked.{text_in, pattern_in}
use Rattle.matcher.specs.Progress.{Writing}
use Rattle.skip_tables.proofs.SkipChain.{Headed}
use Rattle.skip.proofs.walk.Given as goal

abbrev pub invariant-loop-next : goal.invariant-loop-next
invariant-loop-next l = Headed (in_chain (pattern_in l.query) (bits_at l.query.text.now (8 * l.byte) 8)) (chained l.query.pattern.m) 0 l.next
    × Writing l.initial.list 0 (occurrences (text_in l.query) (pattern_in l.query) (8 * l.byte + 1 - chained l.query.pattern.m) (8 * l.byte + 1 - l.next)) l.list l.hits

abbrev pub decreases-loop-next : goal.decreases-loop-next
decreases-loop-next l = l.next
