-- The hash method is right: an occurrence at s + d meets the condition at d, so none lies strictly inside a move, and
-- where H(B) is not 0 none is at s.
use Prim.Native.Nat.{ℕ, ◌+◌, ◌-◌, ◌%◌, ◌^◌, ◌≤◌, ◌<◌}
use mathlib.Core.Path.{◌≡◌, refl, sym, ap, ◌∙◌}
use mathlib.Core.Logic.{◌↔◌}
use mathlib.Core.Bool.{Bool, true, false, true≢false, ◌&&◌, cond}
use mathlib.Core.List.{[]}
use native.Mathlib.Nat.{mod-lt}
use native.Mathlib.Decide.{dec_le}
use native.Mathlib.Omega.{arith}
use lib.Pow.{pow_pos}
use lib.Dec.{leb, eqb}
use borrow.Author.Tests.{leb-true, le-leb, eq-eqb, eqb-false}
use Rattle.bits.specs.Packed.{Packed, weight, bit_of, bits_at}
use Rattle.bits.proofs.Weight.{weight_mod, same_weights}
use Rattle.bits.proofs.Run.{bits_lt, bit_of_bits, weight_of_bits}
use Rattle.rules.specs.declared.Method.TheVariants.{Hash}
use Rattle.rules.specs.Ranges.{keep}
use Rattle.rules.specs.Pattern.{Pattern, is_fixed, agrees}
use Rattle.rules.specs.Occurrence.{places, Occurs, matches, occurs}
use Rattle.rules.specs.Hash.{meets, hash_of, hash_again, last_eight, hash_finds, hash_next}
use Rattle.rules.specs.Step.{finds, ahead, Sound}
use Rattle.rules.proofs.Ranges.{and_right, and_both, same_test, implies_to, to_implies, every_at, to_every, Least, least_is}
use Rattle.rules.proofs.Pattern.{fixed_iff, agrees_by}
use Rattle.rules.proofs.Occurrence.{occurs_iff, not_occurs, occurs_inside}
use Rattle.rules.proofs.Step.{Moved, one_place}

-- the condition, at each bit that it speaks of
pub meets_at : (w : Pattern) (B d : ℕ) → meets w B d ≡ true → (j : ℕ) → j < 8 → 8 + d ≤ w.count + j
    → agrees w (w.count + j - (8 + d)) (bit_of 8 B j) ≡ true
unfolding meets
meets_at w B d h j l c = implies_to (leb (8 + d) (w.count + j)) _ (every_at _ _ h j (omega arith)) (le-leb _ _ c)

pub to_meets : (w : Pattern) (B d : ℕ)
    → ((j : ℕ) → j < 8 → 8 + d ≤ w.count + j → agrees w (w.count + j - (8 + d)) (bit_of 8 B j) ≡ true) → meets w B d ≡ true
unfolding meets
to_meets w B d h = to_every _ _ (λ j l. to_implies (leb (8 + d) (w.count + j)) _ (λ c. h j l (leb-true _ _ c)))

-- The condition by loads: the last k bits of B are the pattern's k bits from p on, where the second run has a 1. They are all
-- eight bits of B, or fewer from the pattern's first bit on.
pub meets_where : (w : Pattern) (B d k p : ℕ) → p + k + d ≡ w.count → k ≤ 8 → (k < 8 → p ≡ 0)
    → (meets w B d ≡ true)
    ↔ ((i : ℕ) → i < k → weight (bits_at w.fixed p k) i ≡ 1 → weight B i ≡ weight (bits_at w.bytes p k) i)
meets_where w B d k p size few first = (to, from)
  where
    -- a bit j that the condition speaks of is one of the last k
    last : (j : ℕ) → j < 8 → 8 + d ≤ w.count + j → 8 ≤ k + j
    last j l c = go (dec_le 8 k)
      where
        go : Dec (8 ≤ k) → 8 ≤ k + j
        go (yes h) = omega arith
        go (no h) = omega (arith, first (omega arith))

    index : (j : ℕ) → 8 ≤ k + j → w.count + j - (8 + d) ≡ p + (k + j - 8)
    index j h = omega arith

    to : meets w B d ≡ true → (i : ℕ) → i < k → weight (bits_at w.fixed p k) i ≡ 1 → weight B i ≡ weight (bits_at w.bytes p k) i
    to h i l f =
        let there : 8 - 1 - (7 - i) ≡ i = omega arith in
        let right : k + (7 - i) - 8 ≡ k - 1 - i = omega arith in
        let agreed = (agrees_by w _ _).0 (rw (there, index (7 - i) (omega arith), right) at (meets_at w B d h (7 - i) (omega arith) (omega arith))) in
        agreed (sym (weight_of_bits w.fixed p l) ∙ f) ∙ sym (weight_of_bits w.bytes p l)

    from : ((i : ℕ) → i < k → weight (bits_at w.fixed p k) i ≡ 1 → weight B i ≡ weight (bits_at w.bytes p k) i) → meets w B d ≡ true
    from h = to_meets w B d (λ j l c.
        let inside = last j l c in
        let i : ℕ = 7 - j in
        let below : i < k = omega arith in
        let there : 8 - 1 - j ≡ i = omega arith in
        let right : k - 1 - i ≡ k + j - 8 = omega arith in
        rw (there, index j inside, ← right)
        ((agrees_by w _ _).1 (λ f. h i below (weight_of_bits w.fixed p below ∙ f) ∙ weight_of_bits w.bytes p below)))

-- where these bits are fixed: the last k bits of B are the pattern's
pub meets_load : (w : Pattern) (B d k p : ℕ) → p + k + d ≡ w.count → k ≤ 8 → (k < 8 → p ≡ 0)
    → ((j : ℕ) → j < k → is_fixed w (p + j) ≡ true) → (meets w B d ≡ true) ↔ (B % 2 ^ k ≡ bits_at w.bytes p k)
meets_load w B d k p size few first fixed = (
  λ h. same_weights k _ _ (mod-lt B (pow_pos k)) (bits_lt w.bytes p k) (λ i l. weight_mod B l ∙ rule.0 h i l (one i l)),
  λ e. rule.1 (λ i l f. sym (weight_mod B l) ∙ ap (λ (x : ℕ). weight x i) e),
)
  where
    rule : (meets w B d ≡ true)
        ↔ ((i : ℕ) → i < k → weight (bits_at w.fixed p k) i ≡ 1 → weight B i ≡ weight (bits_at w.bytes p k) i)
    rule = meets_where w B d k p size few first

    one : (i : ℕ) → i < k → weight (bits_at w.fixed p k) i ≡ 1
    one i l = weight_of_bits w.fixed p l ∙ (fixed_iff w _).0 (fixed (k - 1 - i) (omega arith))

-- d = m always meets it: it then speaks of no bit
pub meets_all : (w : Pattern) (B : ℕ) → meets w B w.count ≡ true
meets_all w B = to_meets w B w.count (λ j l c. absurd (omega arith))

-- "the least d in 0..m", and "in 1..m": it is in that range, it meets the condition, and no smaller one does
pub record LeastMeeting (w : Pattern) (B from d : ℕ) : Type 0 where
  pub low : from ≤ d
  pub high : d ≤ w.count
  pub meets_it : meets w B d ≡ true
  pub none_before : (e : ℕ) → from ≤ e → e < d → meets w B e ≡ false

within : (w : Pattern) (B from k d : ℕ) → from + k ≡ 1 + w.count → from ≤ w.count → Least (meets w B) from k d → LeastMeeting w B from d
within w B from k d e f r = record { low = r.low; high = top; meets_it = r.passes (omega (arith, top)); none_before = r.before }
  where
    top : d ≤ w.count
    top = go (dec_le d w.count)
      where
        go : Dec (d ≤ w.count) → d ≤ w.count
        go (yes l) = l
        go (no n) = absurd (true≢false (sym (meets_all w B) ∙ r.before w.count f (omega arith)))

pub hash_least : (w : Pattern) (B : ℕ) → LeastMeeting w B 0 (hash_of w B)
unfolding hash_of
hash_least w B = within w B 0 (1 + w.count) _ (omega arith) (omega arith) (least_is (meets w B) 0 (1 + w.count))

pub again_least : (w : Pattern) (B : ℕ) → 1 ≤ w.count → LeastMeeting w B 1 (hash_again w B)
unfolding hash_again
again_least w B h = within w B 1 w.count _ (omega arith) h (least_is (meets w B) 1 w.count)

module _ (t : Packed) (w : Pattern) (s : ℕ) (long : 8 ≤ w.count) where
  -- an occurrence at s + d meets the condition at d
  pub occurs_meets : (d : ℕ) → Occurs t w (s + d) → meets w (last_eight t w s) d ≡ true
  unfolding last_eight
  occurs_meets d o =
      to_meets w _ d (λ j l c.
      let at : s + d + (w.count + j - (8 + d)) ≡ s + w.count - 8 + j = omega arith in
      rw (bit_of_bits t.bytes (s + w.count - 8) l, ← at) (o.same (w.count + j - (8 + d)) (omega arith)))

  -- no occurrence lies before the least d that meets it
  pub none_inside : (from d : ℕ) → LeastMeeting w (last_eight t w s) from d
      → (p : ℕ) → s + from ≤ p → p < s + d → occurs t w p ≡ false
  none_inside from d r p l u =
      not_occurs t w p (λ o.
      let at : s + (p - s) ≡ p = omega arith in
      true≢false
      (sym (occurs_meets (p - s) (rw at o)) ∙ r.none_before (p - s) (omega arith) (omega arith)))

  -- where an occurrence is at s, H(B) is 0
  pub hash_at_occurrence : Occurs t w s → hash_of w (last_eight t w s) ≡ 0
  hash_at_occurrence o = go (dec_le 1 (hash_of w (last_eight t w s)))
    where
      go : Dec (1 ≤ hash_of w (last_eight t w s)) → hash_of w (last_eight t w s) ≡ 0
      go (yes l) =
          let at : s + 0 ≡ s = omega arith in
          absurd (true≢false
          (sym (occurs_meets 0 (rw at o)) ∙ (hash_least w (last_eight t w s)).none_before 0 (omega arith) l))
      go (no n) = omega arith

  -- "If H(B) = 0, s is compared": below E, that finds s just if it is an occurrence
  pub hash_compares : s < places t w → (eqb (hash_of w (last_eight t w s)) 0 && matches t w s) ≡ occurs t w s
  hash_compares inside =
      same_test _ _
      (λ h. occurs_inside t w s inside ∙ and_right (eqb (hash_of w (last_eight t w s)) 0) (matches t w s) h)
      (λ h.
      and_both (eq-eqb _ _ (hash_at_occurrence ((occurs_iff t w s).0 h))) (sym (occurs_inside t w s inside) ∙ h))

  -- the move
  pub hash_move : Moved t w s (hash_next t w s)
  unfolding hash_next
  hash_move = go (eqb (hash_of w (last_eight t w s)) 0) refl
    where
      B : ℕ
      B = last_eight t w s

      go : (z : Bool) → eqb (hash_of w B) 0 ≡ z → Moved t w s (s + cond z (hash_again w B) (hash_of w B))
      go true e =
          let g = again_least w B (omega arith) in
          record { up = omega (arith, g.low); none_strictly = none_inside 1 (hash_again w B) g }
      go false e =
          record {
            up = omega (arith, eqb-false (hash_of w B) 0 e);
            none_strictly = λ p l u. none_inside 0 (hash_of w B) (hash_least w B) p (omega arith) u;
          }

  pub hash_sound : s < places t w → Sound Hash t w s
  unfolding finds ahead hash_finds
  hash_sound inside = one_place Hash t w s inside (ap (λ (b : Bool). keep b s []) (hash_compares inside)) hash_move
