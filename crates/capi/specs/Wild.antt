-- What a pattern's second run is to a search and to H(B) from C: with every bit fixed a call answers as before there was one, and
-- patterns that are alike get the same answers. The theorems are in proofs/Wild.antt.
use Rattle.std.specs.Prelude.{ℕ, ◌≤◌, List, length}
use Rattle.bits.specs.Packed.{bytes_for}
use Rattle.rules.specs.Pattern.{Pattern}
use Rattle.rules.specs.Wild.{AllFixed}
use Rattle.rules.specs.Machine.{Run}
use Rattle.search.specs.Verdict.{Verdict, refused}
use Rattle.search.specs.Wild.{verdict_before, hash_verdict_before}
use Rattle.capi.specs.Told.{unknown_method, answer_cells_missing, Told, refuses, unless_cells}
use Rattle.capi.specs.Scan.{Named, known, unknown, method_named, Call, request_of, number_tells}
use Rattle.capi.specs.Scratch.{Enough}

-- the pattern of a call
abbrev pub pattern_in : Call → Pattern
pattern_in q = record { bytes = q.pattern; fixed = q.fixed; count = q.m }

-- what a call came to before, by the rules as they were, which look at no second run
abbrev pub before_by : Named → Call → Verdict Run
before_by unknown q = refused unknown_method
before_by (known x) q = unless_cells 4 q.answer (refused answer_cells_missing) (verdict_before (request_of x q))

unfoldable pub search_verdict_before : Call → Verdict Run
search_verdict_before q = before_by (method_named q.method) q

-- what `mitongory_hash_value` told before: 101 first, then refusals 3, 4 and 5, or H(B)
unfoldable pub hash_told_before : Pattern → ℕ → List ℕ → Told
hash_told_before w value answer =
    unless_cells 1 answer (refuses answer_cells_missing) (number_tells (hash_verdict_before w value))

-- "Given the scratch now needed, a word with every bit fixed": its second run is there and has a 1 for each bit
pub record EveryBitFixed (q : Call) : Type 0 where
  pub fixed_there : bytes_for q.m ≤ length q.fixed
  pub all_fixed : AllFixed (pattern_in q)
  pub enough : Enough q

-- the call with other bytes of the pattern and of its second run
abbrev pub with_pattern : Call → List ℕ → List ℕ → Call
with_pattern q pattern fixed =
    record {
      text = q.text;
      n = q.n;
      pattern = pattern;
      fixed = fixed;
      m = q.m;
      method = q.method;
      mark = q.mark;
      budget = q.budget;
      list = q.list;
      scratch = q.scratch;
      answer = q.answer;
    }
