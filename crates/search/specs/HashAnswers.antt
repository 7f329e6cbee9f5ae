-- What the call for H(B) answers: the value, or the number of a refusal.
use Rattle.std.specs.Prelude.{ℕ, Result, Ok, Err}
use Rattle.search.specs.declared.Refusal.{Refusal}
use Rattle.search.specs.Verdict.{Verdict, refused, accepted, number_of_refusal}

-- "H(B) can also be had by itself from a word and a value, with refusals 3, 4, 5", and 17 right after 4: the value or the number of
-- each answer
abbrev pub hash_answer : Result ℕ Refusal → Verdict ℕ
hash_answer (Ok d) = accepted d
hash_answer (Err r) = refused (number_of_refusal r)
