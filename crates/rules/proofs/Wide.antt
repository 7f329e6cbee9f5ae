-- The wide method is right: below E a flag stands just if its place is an occurrence, and no occurrence lies from
-- s + 64 to the next mark, since each place there has bit s + ws at an index where the pattern differs from it.
use Prim.Native.Nat.{ℕ, ◌+◌, ◌-◌, ◌≤◌, ◌<◌}
use mathlib.Core.Path.{◌≡◌, refl, sym, ◌∙◌}
use mathlib.Core.Logic.{◌↔◌}
use mathlib.Core.Bool.{Bool, true, false, true≢false, ◌&&◌, cond}
use mathlib.Core.Option.{Option, none, some}
use native.Mathlib.Omega.{arith}
use lib.Dec.{ltb, leb}
use borrow.Author.Tests.{ltb-true, lt-ltb, leb-true, le-leb}
use Rattle.bits.specs.Packed.{Packed, bit_at}
use Rattle.rules.specs.declared.Method.TheVariants.{Wide}
use Rattle.rules.specs.Pattern.{Pattern, agrees}
use Rattle.rules.specs.Occurrence.{places, matches, occurs, occurrences}
use Rattle.rules.specs.Wide.{window, counts, stands, flagged, wide_finds, last_index, beyond, wide_next}
use Rattle.rules.specs.Step.{finds, ahead, Sound}
use Rattle.rules.proofs.Ranges.{and_left, and_right, and_both, implies_to, to_implies, same_test, every_at, to_every, among_same, IsGreatest, greatest_is}
use Rattle.rules.proofs.Occurrence.{matches_at, to_matches, not_occurs, occurrences_to, none_from_places}
use Rattle.rules.proofs.Step.{cut_at_places}

module _ (t : Packed) (w : Pattern) (s i : ℕ) where
  -- bit q counts for flag i
  pub record Counts (q : ℕ) : Type 0 where
    pub inside : s + q < t.count
    pub from : i ≤ q
    pub to : q - i < w.count

  counts_is : (q : ℕ) → counts t w s i q ≡ true → Counts q
  unfolding counts
  counts_is q h =
      let rest = and_right (ltb (s + q) t.count) (leb i q && ltb (q - i) w.count) h in
      record {
        inside = ltb-true _ _ (and_left (ltb (s + q) t.count) _ h);
        from = leb-true _ _ (and_left (leb i q) (ltb (q - i) w.count) rest);
        to = ltb-true _ _ (and_right (leb i q) (ltb (q - i) w.count) rest);
      }

  is_counts : (q : ℕ) → Counts q → counts t w s i q ≡ true
  unfolding counts
  is_counts q h = and_both (lt-ltb _ _ h.inside) (and_both (le-leb _ _ h.from) (lt-ltb _ _ h.to))

  pub to_stands : ((q : ℕ) → Counts q → agrees w (q - i) (bit_at t.bytes (s + q)) ≡ true) → stands t w s i ≡ true
  unfolding stands
  to_stands h = to_every (window w) _ (λ q l. to_implies (counts t w s i q) _ (λ c. h q (counts_is q c)))

  pub stands_at : stands t w s i ≡ true → (q : ℕ) → q < window w → Counts q → agrees w (q - i) (bit_at t.bytes (s + q)) ≡ true
  unfolding stands
  stands_at h q l c = implies_to (counts t w s i q) _ (every_at (window w) _ h q l) (is_counts q c)

  -- The rule of a flag, also of one whose place is not below E: bits from n on are not looked at.
  pub flag_iff : i < 64 → (stands t w s i ≡ true) ↔ ((q : ℕ) → Counts q → agrees w (q - i) (bit_at t.bytes (s + q)) ≡ true)
  flag_iff l = (λ h q c. stands_at h q (omega (arith, c.to)) c, to_stands)

module _ (t : Packed) (w : Pattern) (s : ℕ) where
  -- below E a flag stands just if its place is an occurrence
  pub stands_matches : (a : ℕ) → s ≤ a → a < s + 64 → a < places t w → stands t w s (a - s) ≡ matches t w a
  stands_matches a l u inside =
      same_test (stands t w s (a - s)) (matches t w a)
      (λ h. to_matches t w a (λ j z.
      let q : s + (a - s + j) ≡ a + j = omega arith in
      let i : a - s + j - (a - s) ≡ j = omega arith in
      rw (q, i) at (stands_at t w s (a - s) h (a - s + j) (omega arith)
      (record { inside = omega arith; from = omega arith; to = omega arith }))))
      (λ h. to_stands t w s (a - s) (λ q c.
      let at : a + (q - (a - s)) ≡ s + q = omega (arith, c.from) in
      rw at at (matches_at t w a h (q - (a - s)) c.to)))

  pub flagged_occurs : (a : ℕ) → s ≤ a → a < s + 64 → flagged t w s a ≡ occurs t w a
  unfolding flagged occurs
  flagged_occurs a l u =
      same_test _ _
      (λ h.
      let inside = and_left (ltb a (places t w)) (stands t w s (a - s)) h in
      and_both inside (rw (stands_matches a l u (ltb-true _ _ inside)) at (and_right (ltb a (places t w)) (stands t w s (a - s)) h)))
      (λ h.
      let inside = and_left (ltb a (places t w)) (matches t w a) h in
      and_both inside (rw (stands_matches a l u (ltb-true _ _ inside)) (and_right (ltb a (places t w)) _ h)))

  -- a place whose index of bit e differs from the pattern there is no occurrence
  differs : (e p : ℕ) → p ≤ e → agrees w (e - p) (bit_at t.bytes e) ≡ false → e - p < w.count → occurs t w p ≡ false
  differs e p l d u =
      not_occurs t w p (λ o.
      let at : p + (e - p) ≡ e = omega arith in
      true≢false (sym (rw at at (o.same (e - p) u)) ∙ d))

  -- x is beyond the place at which the pattern ends at bit e, and no occurrence that has bit e lies before x
  pub record Passed (e x : ℕ) : Type 0 where
    pub far : e < x + w.count
    pub none_there : (p : ℕ) → e < p + w.count → p < x → occurs t w p ≡ false

  pub beyond_passed : (e : ℕ) (k : Option ℕ) → w.count ≤ e → IsGreatest (λ k. agrees w k (bit_at t.bytes e)) w.count k → Passed e (beyond e k)
  beyond_passed e none b h =
      record {
        far = omega arith;
        none_there = λ p l u. differs e p (omega arith) (h (e - p) (omega arith)) (omega arith);
      }
  beyond_passed e (some k) b h =
      record {
        far = omega (arith, h.below);
        none_there = λ p l u. differs e p (omega arith) (h.above (e - p) (omega arith) (omega arith)) (omega arith);
      }

  -- the next mark is above s, and no occurrence lies between it and s + 64
  pub record Moved (x : ℕ) : Type 0 where
    pub up : s < x
    pub none_after : (p : ℕ) → s + 64 ≤ p → p < x → occurs t w p ≡ false
    pub none_before : (p : ℕ) → x ≤ p → p < s + 64 → occurs t w p ≡ false

  pub wide_move : s < places t w → Moved (wide_next t w s)
  unfolding wide_next last_index
  wide_move inside = go (leb t.count (s + window w)) refl
    where
      found : Option ℕ
      found = last_index w (bit_at t.bytes (s + window w))

      go : (b : Bool) → leb t.count (s + window w) ≡ b → Moved (cond b (places t w) (beyond (s + window w) found))
      go true e =
          let end : t.count ≤ s + window w = leb-true _ _ e in
          record {
            up = inside;
            none_after = λ p l u. absurd (omega arith);
            none_before = λ p l u. none_from_places t w p l;
          }
      go false e =
          let past = beyond_passed (s + window w) found (omega arith) (greatest_is _ w.count) in
          record {
            up = omega (arith, past.far);
            none_after = λ p l u. past.none_there p (omega arith) u;
            none_before = λ p l u. absurd (omega (arith, past.far));
          }

  finds_64 : wide_finds t w s ≡ occurrences t w s (s + 64)
  unfolding wide_finds occurrences
  finds_64 =
      let count : s + 64 - s ≡ 64 = omega arith in
      rw count (among_same _ _ s 64 flagged_occurs)

  pub wide_sound : s < places t w → Sound Wide t w s
  unfolding finds ahead
  wide_sound inside =
      let r = wide_move inside in
      cut_at_places Wide t w s inside r.up
      (finds_64 ∙ occurrences_to t w s (s + 64) (wide_next t w s) (omega arith) (omega (arith, r.up)) r.none_after r.none_before)
