-- Laws of what the pattern shows at an index, where all its bits are fixed: just the byte of its eight bits there.
-- Assumes nothing.
use Prim.Native.Nat.{ℕ, ◌+◌, ◌-◌, ◌≤◌, ◌<◌}
use mathlib.Core.Path.{◌≡◌, sym, ap, ◌∙◌}
use mathlib.Core.Bool.{true}
use native.Mathlib.Omega.{arith}
use borrow.Author.Tests.{eqb-true, eq-eqb}
use Rattle.bits.specs.Packed.{bits_at, bit_of}
use Rattle.bits.proofs.Weight.{same_weights}
use Rattle.bits.proofs.Run.{bits_lt, bit_of_bits, weight_of_bits}
use Rattle.rules.specs.Pattern.{Pattern}
use Rattle.rules.specs.Wild.{AllFixed}
use Rattle.matcher.specs.Tables.{last_below, shows_byte, in_chain}
use Rattle.skip_tables.specs.SkipChains.{last_shown}
use Rattle.rules.proofs.Ranges.{same_test, every_at, to_every}
use Rattle.rules.proofs.Pattern.{agrees_iff}
use Rattle.skip_tables.proofs.SkipBelow.{below_same}

module _ (w : Pattern) (k B : ℕ) where
  pub chain_byte : in_chain w B k ≡ true → bits_at w.bytes k 8 ≡ B
  unfolding in_chain
  chain_byte h = eqb-true _ _ h

  pub to_chain : bits_at w.bytes k 8 ≡ B → in_chain w B k ≡ true
  unfolding in_chain
  to_chain q = eq-eqb _ _ q

-- so the indices that show B are those of its chain
module _ (w : Pattern) (fixed : AllFixed w) (B : ℕ) (byte : B < 256) where
  pub shows_chain : (k : ℕ) → k + 8 ≤ w.count → shows_byte w B k ≡ in_chain w B k
  unfolding shows_byte
  shows_chain k h = same_test _ _ (λ s. to_chain w k B (to s)) (λ c. from (chain_byte w k B c))
    where
      to : shows_byte w B k ≡ true → bits_at w.bytes k 8 ≡ B
      to s =
          same_weights 8 _ B (bits_lt w.bytes k 8) byte (λ i l.
          let back : 8 - 1 - (8 - 1 - i) ≡ i = omega arith in
          let bit = (agrees_iff w (k + (8 - 1 - i)) (bit_of 8 B (8 - 1 - i))).0 (every_at 8 _ s (8 - 1 - i) (omega arith)) (fixed (k + (8 - 1 - i)) (omega arith)) in
          weight_of_bits w.bytes k l ∙ sym (rw back at bit))

      from : bits_at w.bytes k 8 ≡ B → shows_byte w B k ≡ true
      from q =
          to_every 8 _ (λ j l.
          (agrees_iff w (k + j) (bit_of 8 B j)).1 (λ f. ap (λ (x : ℕ). bit_of 8 x j) (sym q) ∙ bit_of_bits w.bytes k l))

  pub shown_chain : (k : ℕ) → k + 7 ≤ w.count → last_shown w B k ≡ last_below (in_chain w B) k
  shown_chain k h = below_same (shows_byte w B) (in_chain w B) k (λ i l. shows_chain i (omega arith))
