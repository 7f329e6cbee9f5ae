-- The skip method is right: every place from s to 8b contains byte b, so an occurrence there shows that byte.
use Prim.Native.Nat.{ℕ, ◌+◌, ◌-◌, ◌*◌, ◌≤◌, ◌<◌}
use mathlib.Core.Path.{◌≡◌}
use mathlib.Core.Bool.{true}
use native.Mathlib.Omega.{arith}
use lib.Dec.{ltb}
use Rattle.bits.specs.Packed.{Packed}
use Rattle.rules.specs.declared.Method.TheVariants.{Skip}
use Rattle.rules.specs.Pattern.{Pattern}
use Rattle.rules.specs.Occurrence.{places, matches, occurs, occurrences}
use Rattle.rules.specs.Skip.{last_byte, shows, shown_at, skip_finds}
use Rattle.rules.specs.Step.{finds, ahead, Sound}
use Rattle.rules.proofs.Ranges.{and_left, and_right, and_both, same_test, to_every, among_same}
use Rattle.rules.proofs.Occurrence.{matches_at}
use Rattle.rules.proofs.Step.{cut_at_places}

module _ (w : Pattern) (s : ℕ) (long : 15 ≤ w.count) where
  -- the places s..8b are not none
  pub reaches_byte : s ≤ 8 * last_byte w s
  reaches_byte = omega arith

  -- "All places s..8b contain byte b."
  pub contains_byte : (a : ℕ) → s ≤ a → a ≤ 8 * last_byte w s → 8 * last_byte w s + 8 ≤ a + w.count
  contains_byte a l u = omega arith

module _ (t : Packed) (w : Pattern) (s : ℕ) (long : 15 ≤ w.count) where
  occurrence_shows : (a : ℕ) → s ≤ a → a ≤ 8 * last_byte w s → matches t w a ≡ true → shows t w (last_byte w s) a ≡ true
  unfolding shows
  occurrence_shows a l u h =
      to_every 8 _ (λ j z.
      let at : a + (8 * last_byte w s - a + j) ≡ 8 * last_byte w s + j = omega arith in
      rw at at (matches_at t w a h (8 * last_byte w s - a + j) (omega (arith, contains_byte w s long a l u))))

  -- among the places s..8b the rule's test is the occurrence test
  pub shown_occurs : (a : ℕ) → s ≤ a → a ≤ 8 * last_byte w s → shown_at t w (last_byte w s) a ≡ occurs t w a
  unfolding shown_at occurs
  shown_occurs a l u =
      same_test _ _
      (λ h. and_both (and_left (ltb a (places t w)) _ h) (and_right (shows t w (last_byte w s) a) _ (and_right (ltb a (places t w)) _ h)))
      (λ h.
      let same = and_right (ltb a (places t w)) (matches t w a) h in
      and_both (and_left (ltb a (places t w)) _ h) (and_both (occurrence_shows a l u same) same))

  pub skip_sound : s < places t w → Sound Skip t w s
  unfolding finds ahead skip_finds occurrences
  skip_sound inside =
      cut_at_places Skip t w s inside (omega (arith, reaches_byte w s long))
      (among_same _ _ s _ (λ a l u. shown_occurs a l (omega (arith, reaches_byte w s long))))
