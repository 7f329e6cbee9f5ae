-- The tail method is right: an occurrence inside the window but after s has its first bits at the window's end, so their length is
-- at most r and it lies at s + m − r or later.
use Prim.Native.Nat.{ℕ, ◌+◌, ◌-◌, ◌≤◌, ◌<◌}
use mathlib.Core.Path.{◌≡◌, sym, ap, ◌∙◌}
use mathlib.Core.Bool.{Bool, true, true≢false}
use mathlib.Core.List.{[]}
use mathlib.Core.Option.{Option, none, some}
use native.Mathlib.Omega.{arith}
use Rattle.bits.specs.Packed.{Packed, bit_at}
use Rattle.rules.specs.declared.Method.TheVariants.{Tail}
use Rattle.rules.specs.Ranges.{keep, greatest}
use Rattle.rules.specs.Pattern.{Pattern, agrees}
use Rattle.rules.specs.Occurrence.{places, Occurs}
use Rattle.rules.specs.Wide.{beyond}
use Rattle.rules.specs.Tail.{prefix_ends, tail_length, tail_finds, tail_next}
use Rattle.rules.specs.Step.{finds, ahead, Sound}
use Rattle.rules.proofs.Ranges.{every_at, to_every, IsGreatest, greatest_is}
use Rattle.rules.proofs.Occurrence.{not_occurs, occurs_inside}
use Rattle.rules.proofs.Step.{Moved, one_place}

module _ (t : Packed) (w : Pattern) (s : ℕ) where
  -- the test of a length, at each bit
  pub to_prefix : (r : ℕ) → ((j : ℕ) → j < r → agrees w j (bit_at t.bytes (s + w.count - r + j)) ≡ true) → prefix_ends t w s r ≡ true
  unfolding prefix_ends
  to_prefix r h = to_every r _ h

  pub prefix_at : (r : ℕ) → prefix_ends t w s r ≡ true → (j : ℕ) → j < r → agrees w j (bit_at t.bytes (s + w.count - r + j)) ≡ true
  unfolding prefix_ends
  prefix_at r h j l = every_at r _ h j l

  -- length 0 always is one
  pub prefix_none : prefix_ends t w s 0 ≡ true
  prefix_none = to_prefix 0 (λ j l. absurd (omega arith))

  -- an occurrence at p, inside the window but after s, has its first bits at the window's end
  pub occurs_prefix : (p : ℕ) → s < p → p ≤ s + w.count → Occurs t w p → prefix_ends t w s (s + w.count - p) ≡ true
  occurs_prefix p l u o =
      to_prefix (s + w.count - p) (λ j h.
      let at : s + w.count - (s + w.count - p) + j ≡ p + j = omega arith in
      rw at (o.same j (omega arith)))

  -- the move
  pub tail_move : Moved t w s (tail_next t w s)
  unfolding tail_next tail_length
  tail_move = go (greatest (prefix_ends t w s) w.count) (greatest_is (prefix_ends t w s) w.count)
    where
      go : (o : Option ℕ) → IsGreatest (prefix_ends t w s) w.count o → Moved t w s (beyond (s + w.count) o)
      go none h =
          record {
            up = omega arith;
            none_strictly = λ p l u. absurd (true≢false (sym prefix_none ∙ h 0 (omega arith)));
          }
      go (some r) h =
          record {
            up = omega (arith, h.below);
            none_strictly = λ p l u.
                not_occurs t w p (λ o.
                true≢false (sym (occurs_prefix p (omega arith) (omega arith) o) ∙ h.above (s + w.count - p) (omega arith) (omega arith)));
          }

  pub tail_sound : s < places t w → Sound Tail t w s
  unfolding finds ahead tail_finds
  tail_sound inside = one_place Tail t w s inside (ap (λ (b : Bool). keep b s []) (sym (occurs_inside t w s inside))) tail_move
