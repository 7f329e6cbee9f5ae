-- What a comparison says. The code compares with no bit count of the text; the rules speak of the text with its bit count.
-- Assumes nothing.
use mathlib.Core.Path.{◌≡◌, refl, sym, ◌∙◌}
use mathlib.Core.Bool.{Bool}
use mathlib.Core.List.{List}
use Prim.Native.Nat.{ℕ, ◌<◌}
use Rattle.rules.specs.Pattern.{Pattern}
use Rattle.rules.specs.Occurrence.{places, matches, occurs}
use Rattle.matcher.specs.Ready.{text_of}
use Rattle.rules.proofs.Occurrence.{occurs_inside}

-- a comparison does not look at the text's bit count
pub matches_any : (bytes : List ℕ) (n : ℕ) (w : Pattern) (s : ℕ) → matches (text_of bytes 0) w s ≡ matches (text_of bytes n) w s
unfolding matches
matches_any bytes n w s = refl

module _ (bytes : List ℕ) (n : ℕ) (w : Pattern) (s : ℕ) (answer said : Bool) (is : answer ≡ matches (text_of bytes 0) w s) (e : answer ≡ said) where
  -- the comparison's answer, of the text with its bit count
  pub compared : matches (text_of bytes n) w s ≡ said
  compared = sym (matches_any bytes n w s) ∙ sym is ∙ e

  -- and of a place of the text: it tells whether the pattern occurs there
  pub compared_place : s < places (text_of bytes n) w → occurs (text_of bytes n) w s ≡ said
  compared_place h = occurs_inside (text_of bytes n) w s h ∙ compared
