-- What is proved of what is printed for a good input.
use Rattle.std.specs.Prelude.{ℕ, ◌+◌, ◌≤◌, ◌<◌, ◌≡◌, ◌↔◌, length, get_or}
use mathlib.Core.List.{List, Memᴰ}
use Rattle.rules.specs.declared.Method.{Method}
use Rattle.rules.specs.declared.Method.TheVariants.{Plain, Hash, Skip, Wide, Tail}
use Rattle.rules.specs.Ranges.{Rising}
use Rattle.rules.specs.Occurrence.{places, occurrences}
use Rattle.rules.specs.Machine.{Run, done}
use Rattle.search.specs.Verdict.{machine}
use Rattle.lines.specs.Line.{accepted_line, refused_line}
use Rattle.hits.specs.Printed.{text_in, pattern_in, asked, search_line, five_lines, printed}

-- the bits w stand in the bits t at the place p
pub record Stands (w t : List ℕ) (p : ℕ) : Type 0 where
  pub inside : p + length w ≤ length t
  pub same : (j : ℕ) → j < length w → get_or t (p + j) 0 ≡ get_or w j 0

-- The line of a way whose search is not refused: the search comes to its end with fewer steps than the budget, and the
-- places printed are all occurrences, rising, each once. They are those at which the first line of the input stands in the
-- second.
pub record Listed (w t : List ℕ) (x : Method) (r : Run) : Type 0 where
  pub line : search_line (text_in t) (pattern_in w) x ≡ accepted_line x r.steps r.written
  pub ended : r.ending ≡ done
  pub few : r.steps ≤ 4096
  pub all : r.written ≡ occurrences (text_in t) (pattern_in w) 0 (places (text_in t) (pattern_in w))
  pub rising : Rising r.written
  pub exactly : (p : ℕ) → Memᴰ p r.written ↔ Stands w t p

abbrev pub AllListed : List ℕ → List ℕ → Method → Type 0
AllListed w t x = Listed w t x (machine (asked (text_in t) (pattern_in w) x))

-- The line of a refused search: the number is 5.
abbrev pub Unfit : List ℕ → List ℕ → Method → Type 0
Unfit w t x = search_line (text_in t) (pattern_in w) x ≡ refused_line x 5

-- What is printed for the lines w and t: the ways list all occurrences, but for patterns that are too short for hash and skip,
-- or too long for tail.
pub record Prints (s w t : List ℕ) : Type 0 where
  pub five : printed s ≡ five_lines (text_in t) (pattern_in w)
  pub plain : AllListed w t Plain
  pub hash : 8 ≤ length w → AllListed w t Hash
  pub hash_short : length w < 8 → Unfit w t Hash
  pub skip : 15 ≤ length w → AllListed w t Skip
  pub skip_short : length w < 15 → Unfit w t Skip
  pub wide : AllListed w t Wide
  pub tail : length w ≤ 64 → AllListed w t Tail
  pub tail_long : 64 < length w → Unfit w t Tail
