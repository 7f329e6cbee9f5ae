-- Laws of a step of the skip method: the places that it finds are the occurrences up to 8 b + 1, one after the other.
-- Assumes nothing.
use Prim.Native.Nat.{ℕ, ◌+◌, ◌-◌, ◌*◌, ◌%◌, ◌≤◌, ◌<◌, min}
use mathlib.Core.Path.{◌≡◌, refl, sym, ap, ◌∙◌}
use mathlib.Core.Bool.{Bool, true, false}
use mathlib.Core.List.{List, [], ◌∷◌, ◌++◌}
use native.Mathlib.Omega.{arith}
use lib.ListN.{length, set}
use Rattle.bits.specs.Packed.{Packed}
use Rattle.rules.specs.declared.Method.TheVariants.{Skip}
use Rattle.rules.specs.Ranges.{keep}
use Rattle.rules.specs.Pattern.{Pattern}
use Rattle.rules.specs.Occurrence.{places, occurs, occurrences}
use Rattle.rules.specs.Skip.{last_byte, skip_finds}
use Rattle.rules.specs.Step.{finds, ahead, next}
use Rattle.matcher.specs.Tables.{chained}
use Rattle.matcher.specs.Progress.{Stepped, Writing, Advanced}
use Rattle.rules.proofs.Ranges.{among_same}
use Rattle.rules.proofs.Occurrence.{occurrences_append, occurrences_one}
use Rattle.matcher.proofs.Advancing.{advanced_step}
use Rattle.matcher.proofs.Writing.{writing_none, writing_more, writing_length, stepped_whole, stepped_full}
use Rattle.rules.proofs.Skip.{reaches_byte, shown_occurs}
use Rattle.skip.proofs.SkipPlaces.{chained_span}

module _ (t : Packed) (w : Pattern) where
  -- the occurrences from s to e, from an occurrence a among them on
  pub occurrences_at : (s a e : ℕ) → s ≤ a → a < e → occurs t w a ≡ true
      → occurrences t w s e ≡ occurrences t w s a ++ a ∷ occurrences t w (a + 1) e
  occurrences_at s a e l h o =
      occurrences_append t w s a e l (omega arith)
      ∙ ap (λ (r : List ℕ). occurrences t w s a ++ r)
      (occurrences_append t w a (a + 1) e (omega arith) (omega arith)
      ∙ ap (λ (r : List ℕ). r ++ occurrences t w (a + 1) e) (occurrences_one t w a ∙ ap (λ (x : Bool). keep x a []) o))

  module _ (s : ℕ) (long : 15 ≤ w.count) where
    pub skip_finds_are : finds Skip t w s ≡ occurrences t w s (8 * last_byte w s + 1)
    unfolding finds skip_finds occurrences
    skip_finds_are = among_same _ _ s _ (λ a l u. shown_occurs t w s long a l (omega (arith, reaches_byte w s long)))

    pub skip_next_is : next Skip t w s ≡ min (8 * last_byte w s + 1) (places t w)
    unfolding next ahead
    skip_next_is = refl

  module _ (s : ℕ) (before : List ℕ) (had : ℕ) (list : List ℕ) (hits a : ℕ) (u : Writing before had (occurrences t w s a) list hits) where
    -- a is written, and nothing is found before q
    pub written_more : (q : ℕ) → occurrences t w s q ≡ occurrences t w s a ++ a ∷ [] → hits < length list
        → Writing before had (occurrences t w s q) (set list hits a) (hits + 1)
    written_more q e h =
        let size = writing_length before had (occurrences t w s a) list hits u in
        rw e (writing_more before had (occurrences t w s a) list hits a u (omega arith))

    -- a finds no cell
    pub skip_full : 15 ≤ w.count → had ≤ length before → s ≤ a → a < 8 * last_byte w s + 1 → occurs t w a ≡ true → length list ≤ hits
        → Stepped Skip t w s before had a hits true list
    skip_full long room l h o out =
        let size = writing_length before had (occurrences t w s a) list hits u in
        let all : hits ≡ length before = omega (arith, u.fits) in
        rw all
        (stepped_full Skip t w s before had (occurrences t w s a) (occurrences t w (a + 1) (8 * last_byte w s + 1)) list a room
        (skip_finds_are s long ∙ occurrences_at s a (8 * last_byte w s + 1) l h o)
        (rw all at u))

    -- no place is left
    pub skip_whole : (q : ℕ) → 15 ≤ w.count → occurrences t w s a ≡ occurrences t w s (8 * last_byte w s + 1)
        → q ≡ min (8 * last_byte w s + 1) (places t w) → Stepped Skip t w s before had q hits false list
    skip_whole q long e there =
        rw (there ∙ sym (skip_next_is s long))
        (stepped_whole Skip t w s before had list hits (rw (skip_finds_are s long ∙ sym e) u))

  -- all occurrences up to 8 b + 1 are written, and each lies below E
  pub skip_all : (s : ℕ) (before : List ℕ) (had : ℕ) (list : List ℕ) (hits b : ℕ) → last_byte w s ≡ b → 8 * b < places t w → 15 ≤ w.count
      → Writing before had (occurrences t w s (8 * b + 1)) list hits → Stepped Skip t w s before had (8 * b + 1) hits false list
  skip_all s before had list hits b last inside long u =
      let there : 8 * b + 1 ≡ min (8 * last_byte w s + 1) (places t w) = rw last (omega arith) in
      skip_whole s before had list hits (8 * b + 1) u (8 * b + 1) long (rw last refl) there

  -- a mark 8 a + 1, from its last byte b
  pub mark_from : (at b : ℕ) → 15 ≤ w.count → at % 8 ≡ 1 → b ≡ last_byte w at → 8 * b + 1 - chained w.count ≡ at
  mark_from at b long odd last = omega (arith, chained_span at w.count odd long, reaches_byte w at long)

  -- the mark lies below E where its last byte does
  pub mark_below : (at b : ℕ) → 15 ≤ w.count → b ≡ last_byte w at → 8 * b < places t w → at < places t w
  mark_below at b long last inside = omega (arith, reaches_byte w at long)

  -- A turn of many steps: a step more from a mark 8 a + 1, all of whose places lie below E, by its last byte b. Each has a cell.
  pub turn_whole : (s budget : ℕ) (before : List ℕ) (had at steps hits : ℕ) (list : List ℕ) → had ≤ length before
      → Advanced Skip t w s budget before had at steps hits false list → steps < budget → 15 ≤ w.count → (b : ℕ) → b ≡ last_byte w at → 8 * b < places t w
      → (at' hits' : ℕ) (list' : List ℕ) → Stepped Skip t w at list hits at' hits' false list'
      → Advanced Skip t w s budget before had (8 * b + 1) (steps + 1) hits' false list'
  turn_whole s budget before had at steps hits list room made few long b last inside at' hits' list' u =
      let ahead_is : at' ≡ 8 * b + 1 = u.mark ∙ skip_next_is at long ∙ ap (λ (x : ℕ). min (8 * x + 1) (places t w)) (sym last) ∙ omega arith in
      rw ahead_is at (advanced_step Skip t w s budget before had at steps hits list room made at' hits' false list' (mark_below at b long last inside) few u)

  -- The same by a byte that no index shows.
  pub turn_quiet : (s budget : ℕ) (before : List ℕ) (had at steps hits : ℕ) (list : List ℕ) → had ≤ length before
      → Advanced Skip t w s budget before had at steps hits false list → steps < budget → 15 ≤ w.count → (b : ℕ) → b ≡ last_byte w at → 8 * b < places t w
      → hits ≤ length list → occurrences t w at (8 * b + 1) ≡ [] → Advanced Skip t w s budget before had (8 * b + 1) (steps + 1) hits false list
  turn_quiet s budget before had at steps hits list room made few long b last inside fits none =
      turn_whole s budget before had at steps hits list room made few long b last inside (8 * b + 1) hits list
      (skip_all at list hits list hits b (sym last) inside long (rw none (writing_none list hits fits)))

-- 8 b + 1 as a mark
pub top_odd : (b at : ℕ) → at ≡ 8 * b + 1 → at % 8 ≡ 1
top_odd b at e = omega arith

pub below_top : (x j : ℕ) → 0 < j → j ≤ x → x - j < x
below_top x j g l = omega arith

-- a link j of a walk over the places p to 8 b: those links lie from E on that are not above 8 b + 1 less its cut at E
module _ (n m b p j stop : ℕ) (fits : m ≤ n) (is : stop ≡ min (8 * b + 1) (n - m + 1)) (up : j + p ≤ 8 * b + 1) where
  pub link_inside : 8 * b + 1 - stop < j → 8 * b + 1 - j < 1 + n - m
  link_inside h = omega arith

  pub link_outside : j ≤ 8 * b + 1 - stop → j ≤ 8 * b + 1 - (1 + n - m)
  link_outside h = omega arith

-- a place against E, as the code has it
pub below_end : (x n m : ℕ) → m ≤ n → x < n - m + 1 → x < 1 + n - m
below_end x n m h l = omega arith

-- the place of a link, where all places of the step lie below E
pub place_below : (x j e : ℕ) → 0 < j → x < e → x + 1 - j < e
place_below x j e h l = omega arith

-- a place below E is a small number
pub place_fits : (x n m k : ℕ) → x < 1 + n - m → n ≤ k → x ≤ k
place_fits x n m k h l = omega arith
