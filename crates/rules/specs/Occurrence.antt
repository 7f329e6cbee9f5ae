-- Where a pattern stands in a text (document 01: a hit at a place of a recording).
use Rattle.std.specs.Prelude.{ℕ, ◌+◌, ◌-◌, ◌<◌, ◌≡◌, Bool, true, ◌&&◌, List, ltb}
use Rattle.bits.specs.Packed.{Packed, bit_at}
use Rattle.rules.specs.Ranges.{every, among}
use Rattle.rules.specs.Pattern.{Pattern, agrees}

-- "E is the number of places: n − m + 1 when m ≤ n, else 0." A difference stops at 0.
abbrev pub places : Packed → Pattern → ℕ
places t w = (1 + t.count) - w.count

-- "A hit is a place s, 0 ≤ s < E, with t[s+j] = w[j] for each j from 0 to m − 1." By document 02 only
-- the fixed bits are compared.
pub record Occurs (t : Packed) (w : Pattern) (s : ℕ) : Type 0 where
  pub inside : s < places t w
  pub same : (j : ℕ) → j < w.count → agrees w j (bit_at t.bytes (s + j)) ≡ true

-- s is compared: each bit of the pattern agrees with the text's from s on
unfoldable pub matches : Packed → Pattern → ℕ → Bool
matches t w s = every w.count (λ j. agrees w j (bit_at t.bytes (s + j)))

-- the test that computes an occurrence
unfoldable pub occurs : Packed → Pattern → ℕ → Bool
occurs t w s = ltb s (places t w) && matches t w s

-- all occurrences from a on and before b, rising
unfoldable pub occurrences : Packed → Pattern → ℕ → ℕ → List ℕ
occurrences t w a b = among (occurs t w) a (b - a)
