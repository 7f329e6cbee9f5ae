-- What a search asks, as the rules have it.
use Rattle.bits.specs.Packed.{Packed}
use Rattle.rules.specs.Pattern as rules
use Rattle.matcher.specs.declared.query.Pattern.{Pattern}
use Rattle.matcher.specs.declared.query.Query.{Query}
use Rattle.matcher.specs.Ready.{text_of, pattern_of}

-- a pattern as it is lent
abbrev pub lent : Pattern → rules.Pattern
lent p = pattern_of p.bytes.now p.fixed.now p.m

-- text and pattern of a search
abbrev pub text_in : Query → Packed
text_in q = text_of q.text.now q.n

abbrev pub pattern_in : Query → rules.Pattern
pattern_in q = lent q.pattern
