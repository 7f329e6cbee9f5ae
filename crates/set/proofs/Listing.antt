-- Laws of the flags of a place: where each flagged pattern fits and has no more than 32 bits, it stands; and of the lengths of the
-- patterns, which tell that.
-- Assumes nothing.
use Prim.Native.Nat.{ℕ, ◌+◌, ◌-◌, ◌^◌, ◌≤◌, ◌<◌, max}
use mathlib.Core.Path.{◌≡◌, refl, sym, ap, ◌∙◌}
use mathlib.Core.Logic.{◌⊎◌, inl, inr, ⊎_elim}
use mathlib.Core.Bool.{Bool, true, false, cond}
use mathlib.Core.List.{List}
use native.Mathlib.Omega.{arith}
use lib.Bits.{bit_and, bit_or}
use lib.Dec.{ltb}
use lib.ListN.{length, get_or}
use borrow.Author.Tests.{ltb-false, eq-eqb}
use Rattle.bits.specs.Packed.{Packed, weight, bits_at}
use Rattle.bits.proofs.Weight.{weight_lt, bit_or_bit, weight_zero, weight_and, weight_or}
use Rattle.rules.specs.Occurrence.{occurs}
use Rattle.rules.proofs.Ranges.{split, eq_or_below}
use Rattle.matcher.proofs.SingleBits.{weight_power}
use Rattle.set_rules.specs.PatternSet.{PatternSet, pattern_at}
use Rattle.set_tables.specs.Fronts.{begins, Flags}
use Rattle.set.specs.Lengths.{Lengths}
use Rattle.set.specs.Ones.{flagged}
use Rattle.set.proofs.Lowest.{not_flagged}
use Rattle.set.proofs.Standing.{stands_short, unset, set_begins}

-- Where every flagged pattern fits and is short, all of them stand

module _ (t : Packed) (ws : PatternSet) (p flags until long : ℕ) (few : length ws.counts ≤ 64) (lengths : Lengths t.count ws.counts until long)
    (marked : Flags ws (length ws.counts) (λ w. begins w 0 32 (bits_at t.bytes p 32)) flags) (early : p < until) (none : bit_and flags long ≡ 0) where
  -- a flagged pattern has no flag in `long`
  is_short : (i : ℕ) → weight flags i ≡ 1 → weight long i ≡ 0
  is_short i e = omega (arith, weight_and flags long i, ap (λ (x : ℕ). weight x i) none ∙ weight_zero i, weight_lt long i)

  pub stands_flagged : (i : ℕ) → i < length ws.counts → flagged flags i ≡ occurs t (pattern_at ws i) p
  stands_flagged i l = go (bit_or_bit (weight flags i) (weight_lt flags i))
    where
      go : (weight flags i ≡ 0) ⊎ (weight flags i ≡ 1) → flagged flags i ≡ occurs t (pattern_at ws i) p
      go (inl e) = not_flagged flags i e ∙ sym (unset t ws p flags marked i l e)
      go (inr e) =
          eq-eqb (weight flags i) 1 e
          ∙ stands_short t (pattern_at ws i) p (lengths.fits p i early l) (lengths.short i l (is_short i e)) (set_begins t ws p flags marked i e)

-- The lengths of the patterns

-- of the first i counts none is above `longest`, and one without a flag in `long` is at most 32
pub record Measured (counts : List ℕ) (longest long i : ℕ) : Type 0 where
  pub upto : i ≤ length counts
  pub below : (j : ℕ) → j < i → get_or counts j 0 ≤ longest
  pub short : (j : ℕ) → j < i → weight long j ≡ 0 → get_or counts j 0 ≤ 32

-- a pattern without its flag has at most 32 bits
unflagged : (m i : ℕ) → weight (cond (ltb 32 m) (2 ^ i) 0) i ≡ 0 → m ≤ 32
unflagged m i e = go (split (ltb 32 m))
  where
    go : (ltb 32 m ≡ true) ⊎ (ltb 32 m ≡ false) → m ≤ 32
    go (inl b) =
        let one : weight (cond (ltb 32 m) (2 ^ i) 0) i ≡ 1
        = ap (λ (b : Bool). weight (cond b (2 ^ i) 0) i) b ∙ weight_power i i ∙ ap (λ (b : Bool). cond b 1 0) (eq-eqb i i refl) in
        absurd (omega arith)
    go (inr b) = ltb-false 32 m b

module _ (counts : List ℕ) where
  pub measured_none : Measured counts 0 0 0
  measured_none = record { upto = omega arith; below = λ j l. absurd (omega arith); short = λ j l. absurd (omega arith) }

  -- one count more
  pub measured_more : (longest long i : ℕ) → Measured counts longest long i → i < length counts
      → Measured counts (max longest (get_or counts i 0)) (bit_or long (cond (ltb 32 (get_or counts i 0)) (2 ^ i) 0)) (i + 1)
  measured_more longest long i g l =
      let m : ℕ = get_or counts i 0 in
      record {
        upto = omega arith;
        below = λ j u.
            ⊎_elim
            (λ (e : j ≡ i). omega (arith, ap (λ (n : ℕ). get_or counts n 0) e))
            (λ (v : j < i). omega (arith, g.below j v))
            (eq_or_below (omega arith));
        short = λ j u e.
            let bits : max (weight long j) (weight (cond (ltb 32 m) (2 ^ i) 0) j) ≡ 0 = sym (weight_or long (cond (ltb 32 m) (2 ^ i) 0) j) ∙ e in
            ⊎_elim
            (λ (q : j ≡ i).
            let none : weight (cond (ltb 32 m) (2 ^ i) 0) j ≡ 0 = omega arith in
            omega (arith, ap (λ (n : ℕ). get_or counts n 0) q, unflagged m i (ap (weight (cond (ltb 32 m) (2 ^ i) 0)) (sym q) ∙ none)))
            (λ (v : j < i). g.short j v (omega arith))
            (eq_or_below (omega arith));
      }

  -- all of them measured
  pub measured_all : (n longest long i : ℕ) → Measured counts longest long i → length counts ≤ i → Lengths n counts ((1 + n) - longest) long
  measured_all n longest long i g l =
      record {
        fits = λ p j u v. omega (arith, g.below j (omega arith));
        short = λ j v. g.short j (omega arith);
      }
