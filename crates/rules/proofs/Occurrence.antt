-- Laws of occurrences: the test and the proposition are the same, and the list of all occurrences between two places
-- rises strictly and has exactly the occurrences there.
use Prim.Native.Nat.{ℕ, ◌+◌, ◌-◌, ◌≤◌, ◌<◌}
use mathlib.Core.Path.{◌≡◌, sym, ap, ◌∙◌}
use mathlib.Core.Logic.{◌↔◌}
use mathlib.Core.Bool.{true, false}
use mathlib.Core.List.{List, [], ◌++◌, append-nil, Memᴰ}
use native.Mathlib.Decide.{dec_le}
use native.Mathlib.Omega.{arith}
use lib.Dec.{ltb}
use lib.ListN.{length}
use borrow.Author.Tests.{ltb-true, lt-ltb}
use Rattle.bits.specs.Packed.{Packed, bit_at}
use Rattle.rules.specs.Ranges.{keep, among, Rising}
use Rattle.rules.specs.Pattern.{Pattern, is_fixed, agrees}
use Rattle.rules.specs.Occurrence.{places, Occurs, matches, occurs, occurrences}
use Rattle.rules.proofs.Pattern.{agrees_iff}
use Rattle.rules.proofs.Ranges.{and_left, and_right, and_both, not_true_false, every_at, to_every, among_append, among_none, among_length, among_rising, among_mem, mem_among}

module _ (t : Packed) (w : Pattern) where
  -- "n − m + 1 when m ≤ n, else 0"
  pub places_some : w.count ≤ t.count → places t w ≡ t.count - w.count + 1
  places_some h = omega arith

  pub places_none : t.count < w.count → places t w ≡ 0
  places_none h = omega arith

  -- "with t[s+j] = w[j] for each j from 0 to m − 1", "judged by fixed bits alone"
  pub occurs_bits : (s : ℕ)
      → Occurs t w s
      ↔ ((s < places t w) × ((j : ℕ) → j < w.count → is_fixed w j ≡ true → bit_at t.bytes (s + j) ≡ bit_at w.bytes j))
  occurs_bits s = (
    λ o. (o.inside, λ j l. (agrees_iff w j _).0 (o.same j l)),
    λ h. record { inside = h.0; same = λ j l. (agrees_iff w j _).1 (h.1 j l) },
  )

  -- s is compared: the test passes just if each bit agrees
  pub matches_at : (s : ℕ) → matches t w s ≡ true → (j : ℕ) → j < w.count → agrees w j (bit_at t.bytes (s + j)) ≡ true
  unfolding matches
  matches_at s h j l = every_at w.count _ h j l

  pub to_matches : (s : ℕ) → ((j : ℕ) → j < w.count → agrees w j (bit_at t.bytes (s + j)) ≡ true) → matches t w s ≡ true
  unfolding matches
  to_matches s h = to_every w.count _ h

  -- the test and the proposition are the same
  pub occurs_iff : (s : ℕ) → (occurs t w s ≡ true) ↔ Occurs t w s
  unfolding occurs
  occurs_iff s = (
    λ h. record { inside = ltb-true _ _ (and_left (ltb s (places t w)) (matches t w s) h); same = matches_at s (and_right (ltb s (places t w)) (matches t w s) h) },
    λ o. and_both (lt-ltb _ _ o.inside) (to_matches s o.same),
  )

  pub not_occurs : (s : ℕ) → (Occurs t w s → ⊥) → occurs t w s ≡ false
  not_occurs s h = not_true_false _ (λ e. h ((occurs_iff s).0 e))

  pub occurs_inside : (s : ℕ) → s < places t w → occurs t w s ≡ matches t w s
  unfolding occurs
  occurs_inside s h = rw (lt-ltb _ _ h)

  -- the list of all occurrences from a on and before b
  pub occurrences_append : (a b c : ℕ) → a ≤ b → b ≤ c → occurrences t w a c ≡ occurrences t w a b ++ occurrences t w b c
  unfolding occurrences
  occurrences_append a b c h g =
      let whole : c - a ≡ (b - a) + (c - b) = omega arith in
      let mid : a + (b - a) ≡ b = omega arith in
      rw whole (rw mid at (among_append (occurs t w) a (b - a) (c - b)))

  pub occurrences_none : (a b : ℕ) → ((p : ℕ) → a ≤ p → p < b → occurs t w p ≡ false) → occurrences t w a b ≡ []
  unfolding occurrences
  occurrences_none a b h = among_none (occurs t w) a (b - a) (λ p l u. h p l (omega arith))

  -- one place
  pub occurrences_one : (a : ℕ) → occurrences t w a (a + 1) ≡ keep (occurs t w a) a []
  unfolding occurrences among
  occurrences_one a = let one : a + 1 - a ≡ 1 = omega arith in rw one

  -- b or c, if there is none between them
  pub occurrences_further : (a b c : ℕ) → a ≤ b → b ≤ c → ((p : ℕ) → b ≤ p → p < c → occurs t w p ≡ false)
      → occurrences t w a b ≡ occurrences t w a c
  occurrences_further a b c h g n =
      sym (occurrences_append a b c h g ∙ ap (λ (l : List ℕ). occurrences t w a b ++ l) (occurrences_none b c n) ∙ append-nil _)

  -- two ends, with none between them, whichever is first
  pub occurrences_to : (a b c : ℕ) → a ≤ b → a ≤ c → ((p : ℕ) → b ≤ p → p < c → occurs t w p ≡ false)
      → ((p : ℕ) → c ≤ p → p < b → occurs t w p ≡ false) → occurrences t w a b ≡ occurrences t w a c
  occurrences_to a b c h g up down = go (dec_le b c)
    where
      go : Dec (b ≤ c) → occurrences t w a b ≡ occurrences t w a c
      go (yes l) = occurrences_further a b c h l up
      go (no n) = sym (occurrences_further a c b g (omega arith) down)

  -- there is none from E on
  pub none_from_places : (p : ℕ) → places t w ≤ p → occurs t w p ≡ false
  none_from_places p h = not_occurs p (λ o. omega (arith, o.inside))

  pub occurrences_rising : (a b : ℕ) → Rising (occurrences t w a b)
  unfolding occurrences
  occurrences_rising a b = among_rising (occurs t w) a (b - a)

  pub occurrences_exactly : (a b p : ℕ) → Memᴰ p (occurrences t w a b) ↔ (Occurs t w p × (a ≤ p) × (p < b))
  unfolding occurrences
  occurrences_exactly a b p = (
    λ m. let k = among_mem (occurs t w) a (b - a) p m in ((occurs_iff p).0 k.passes, k.low, omega arith),
    λ h. mem_among (occurs t w) a (b - a) p (record { low = h.1; high = omega arith; passes = (occurs_iff p).1 h.0 }),
  )

  -- no more occurrences than places
  pub occurrences_length : (a b : ℕ) → length (occurrences t w a b) ≤ b - a
  unfolding occurrences
  occurrences_length a b = among_length (occurs t w) a (b - a)
