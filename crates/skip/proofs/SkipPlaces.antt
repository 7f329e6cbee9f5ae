-- Laws of the places of a step of the skip method: how its mark and its byte lie to each other, and what a walk over the indices
-- that show the byte says of the places that contain it.
-- Assumes nothing.
use Prim.Native.Nat.{ℕ, ◌+◌, ◌-◌, ◌*◌, ◌/◌, ◌%◌, ◌≤◌, ◌<◌}
use mathlib.Core.Path.{◌≡◌, sym, ap, ap₂, ◌∙◌}
use mathlib.Core.Bool.{Bool, true, false, true≢false}
use mathlib.Core.List.{List, [], ◌∷◌, ◌++◌, append-nil}
use native.Mathlib.Nat.{mul_comm}
use native.Mathlib.Omega.{arith}
use lib.Dec.{ltb}
use lib.ListN.{get_or}
use Rattle.bits.specs.Packed.{Packed, bit_at, bits_at}
use Rattle.bits.proofs.Loads.{byte_bits}
use Rattle.bits.proofs.Run.{bit_of_bits}
use Rattle.rules.specs.Ranges.{keep}
use Rattle.rules.specs.Pattern.{Pattern, agrees}
use Rattle.rules.specs.Occurrence.{places, matches, occurs, occurrences}
use Rattle.matcher.specs.Tables.{shows_byte, chained}
use Rattle.matcher.specs.Progress.{Writing}
use Rattle.skip_tables.specs.SkipChains.{last_shown, Flagging}
use Rattle.rules.proofs.Ranges.{and_right, not_true_false, to_every}
use Rattle.rules.proofs.Occurrence.{matches_at, occurrences_append, occurrences_none, occurrences_one, occurrences_further, none_from_places}
use Rattle.skip_tables.proofs.SkipBelow.{below_is}

-- the last index that is chained is among the pattern's last eight
pub chained_near : (m : ℕ) → 15 ≤ m → m < chained m + 15
unfolding chained
chained_near m long = omega arith

-- the indices that are chained are those of a step from a mark 8 b + 1
pub chained_span : (s m : ℕ) → s % 8 ≡ 1 → 15 ≤ m → 8 * ((s + m) / 8 - 1) + 1 - s ≡ chained m
unfolding chained
chained_span s m e long = omega arith

-- the byte of the next mark, 8 b + 1: it lies as many bits on as indices are chained
pub next_byte : (b m j k at : ℕ) → 15 ≤ m → j ≡ chained m → k ≡ j / 8 → at ≡ 8 * b + 1 → b + k ≡ (at + m) / 8 - 1
unfolding chained
next_byte b m j k at long e f g = omega arith

-- the last byte of a mark 8 a + 1: it lies so far from the text's start, and inside the text
module _ (s n m b : ℕ) (long : 15 ≤ m) (last : b ≡ (s + m) / 8 - 1) where
  pub byte_from : s % 8 ≡ 1 → chained m ≤ 8 * b
  unfolding chained
  byte_from e = omega arith

  pub byte_inside : s < 1 + n - m → 8 * b + 8 ≤ n
  byte_inside h = omega arith

-- the byte of the mark that lies so many places before it
pub mark_byte : (b m : ℕ) → chained m ≤ 8 * b → 15 ≤ m → (8 * b + 1 - chained m + m) / 8 - 1 ≡ b
unfolding chained
mark_byte b m low long = omega arith

-- a byte as its eight bits
pub byte_is : (bytes : List ℕ) (b : ℕ) → get_or bytes b 0 < 256 → get_or bytes b 0 ≡ bits_at bytes (8 * b) 8
byte_is bytes b h = sym (byte_bits bytes b h) ∙ ap (λ (p : ℕ). bits_at bytes p 8) (mul_comm b 8)

pub not_matching : (t : Packed) (w : Pattern) (q : ℕ) → matches t w q ≡ false → occurs t w q ≡ false
unfolding occurs
not_matching t w q e = not_true_false _ (λ h. true≢false (sym (and_right (ltb q (places t w)) (matches t w q) h) ∙ e))

module _ (t : Packed) (w : Pattern) (b : ℕ) where
  -- byte b of the text
  abbrev pub byte_of : ℕ
  byte_of = bits_at t.bytes (8 * b) 8

  -- a place that contains byte b, where the pattern does not show it, is no occurrence
  occurrence_shows : (a : ℕ) → a ≤ 8 * b → 8 * b + 8 ≤ a + w.count → matches t w a ≡ true → shows_byte w byte_of (8 * b - a) ≡ true
  unfolding shows_byte
  occurrence_shows a l h e =
      to_every 8 _ (λ j u.
      let there : a + (8 * b - a + j) ≡ 8 * b + j = omega arith in
      let same : agrees w (8 * b - a + j) (bit_at t.bytes (a + (8 * b - a + j))) ≡ true = matches_at t w a e (8 * b - a + j) (omega arith) in
      ap (agrees w (8 * b - a + j)) (bit_of_bits t.bytes (8 * b) u) ∙ rw there at same)

  pub no_occurrence : (a : ℕ) → a ≤ 8 * b → 8 * b + 8 ≤ a + w.count → shows_byte w byte_of (8 * b - a) ≡ false → occurs t w a ≡ false
  no_occurrence a l h none = not_matching t w a (not_true_false _ (λ e. true≢false (sym (occurrence_shows a l h e) ∙ none)))

  -- between the place of index k - 1 and that of a link i there is no occurrence, where the last index that shows the byte
  -- is not from the link on
  pub chain_gap : (k i : ℕ) → last_shown w byte_of k ≤ i → k ≤ 8 * b + 1 → k + 7 ≤ w.count
      → occurrences t w (8 * b + 1 - k) (8 * b + 1 - i) ≡ []
  chain_gap k i e l h =
      let u = below_is (shows_byte w byte_of) k in
      occurrences_none t w (8 * b + 1 - k) (8 * b + 1 - i)
      (λ q g z. no_occurrence q (omega arith) (omega arith) (u.none (8 * b - q) (omega arith) (omega arith)))

  module _ (p j : ℕ) (fits : 8 * b + 8 ≤ p + w.count) (low : j + p ≤ 8 * b + 1) where
    -- a walk over the places from p on begins with the link j: no occurrence is passed over
    pub walk_start : last_shown w byte_of (8 * b + 1 - p) ≤ j → occurrences t w p (8 * b + 1 - j) ≡ []
    walk_start e =
        let here : 8 * b + 1 - (8 * b + 1 - p) ≡ p = omega arith in
        rw here at (chain_gap (8 * b + 1 - p) j e (omega arith) (omega arith))

    module _ (i : ℕ) (less : i < j) (next : last_shown w byte_of (j - 1) ≤ i) where
      -- it goes on to the link i: the place of j may be an occurrence, and none between
      pub walk_on : occurrences t w p (8 * b + 1 - i) ≡ occurrences t w p (8 * b + 1 - j) ++ keep (occurs t w (8 * b + 1 - j)) (8 * b + 1 - j) []
      walk_on =
          let after : 8 * b + 1 - (j - 1) ≡ 8 * b + 1 - j + 1 = omega arith in
          let gap : occurrences t w (8 * b + 1 - j + 1) (8 * b + 1 - i) ≡ [] = rw after at (chain_gap (j - 1) i next (omega arith) (omega arith)) in
          occurrences_append t w p (8 * b + 1 - j) (8 * b + 1 - i) (omega arith) (omega arith)
          ∙ ap (λ (r : List ℕ). occurrences t w p (8 * b + 1 - j) ++ r)
          (occurrences_append t w (8 * b + 1 - j) (8 * b + 1 - j + 1) (8 * b + 1 - i) (omega arith) (omega arith)
          ∙ ap₂ (λ (x y : List ℕ). x ++ y) (occurrences_one t w (8 * b + 1 - j)) gap
          ∙ append-nil _)

      pub walk_by : occurs t w (8 * b + 1 - j) ≡ false → occurrences t w p (8 * b + 1 - i) ≡ occurrences t w p (8 * b + 1 - j)
      walk_by o =
          walk_on ∙ ap (λ (x : Bool). occurrences t w p (8 * b + 1 - j) ++ keep x (8 * b + 1 - j) []) o ∙ append-nil _

      pub walk_found : occurs t w (8 * b + 1 - j) ≡ true
          → occurrences t w p (8 * b + 1 - i) ≡ occurrences t w p (8 * b + 1 - j) ++ (8 * b + 1 - j) ∷ []
      walk_found o = walk_on ∙ ap (λ (x : Bool). occurrences t w p (8 * b + 1 - j) ++ keep x (8 * b + 1 - j) []) o

    -- it ends at a link whose place is not below E, or without a link
    pub walk_end : j ≤ 8 * b + 1 - places t w → occurrences t w p (8 * b + 1 - j) ≡ occurrences t w p (8 * b + 1)
    walk_end e =
        occurrences_further t w p (8 * b + 1 - j) (8 * b + 1) (omega arith) (omega arith)
        (λ q l h. none_from_places t w q (omega arith))

  -- a walk by flags: no occurrence lies between the places of index k - 1 and of a link j, where the last index below k that shows
  -- the byte is not from the link on
  pub sweep_gap : (p k j : ℕ) → 8 * b + 8 ≤ p + w.count → k + p ≤ 8 * b + 1 → last_shown w byte_of k ≤ j → j ≤ k
      → occurrences t w p (8 * b + 1 - j) ≡ occurrences t w p (8 * b + 1 - k)
  sweep_gap p k j fits low next less =
      occurrences_append t w p (8 * b + 1 - k) (8 * b + 1 - j) (omega arith) (omega arith)
      ∙ ap (λ (r : List ℕ). occurrences t w p (8 * b + 1 - k) ++ r) (chain_gap k j next (omega arith) (omega arith))
      ∙ append-nil _

-- A sweep: the indices below k are still to come, those of the flags f of the block c first, and the occurrences at the others' places
-- are written.
pub record Sweeping (t : Packed) (w : Pattern) (b v s : ℕ) (before : List ℕ) (had : ℕ) (list : List ℕ) (c f written : ℕ) : Type 0 where
  pub k : ℕ
  pub low : k + s ≤ 8 * b + 1
  pub flagging : Flagging w v k c f
  pub writing : Writing before had (occurrences t w s (8 * b + 1 - k)) list written
