-- `matcher::query::Query::same` meets its contract: the first load rules most places out, and `stands` settles the others.
-- Assumes nothing.
use mathlib.Core.Path.{◌≡◌, sym, ◌∙◌, ap}
use mathlib.Core.Bool.{true, false}
use mathlib.Core.List.{List}
use Prim.Native.Nat.{ℕ, ◌+◌, ◌-◌, ◌/◌, ◌^◌, ◌≤◌, ◌<◌, min}
use native.Mathlib.Omega.{arith}
use lib.Bits.{bit_and}
use borrow.Author.Tests.{eqb-true, eq-eqb}
use Rattle.bits.specs.Packed.{bit_at, bit_of, bits_at, weight}
use Rattle.bits.proofs.Run.{bit_of_bits}
use Rattle.bits.proofs.Weight.{weight_shr}
use Rattle.rules.specs.Pattern.{Pattern}
use Rattle.rules.specs.Occurrence.{matches}
use Rattle.rules.proofs.Ranges.{every_at, to_every, not_true_false}
use Rattle.rules.proofs.Occurrence.{matches_at, to_matches}
use Rattle.matcher.specs.Ready.{text_of, HeadOf}
use Rattle.matcher.proofs.query.Query.same.Goals as goal

-- what the first load shows of the text
head-bit : (bytes : List ℕ) (p x j : ℕ) → x / 2 ^ 7 ≡ bits_at bytes p 57 → j < 57 → bit_of 64 x j ≡ bit_at bytes (p + j)
head-bit bytes p x j e l =
    let there : 7 + (56 - j) ≡ 63 - j = omega arith in
    ap (weight x) (sym there)
    ∙ sym (weight_shr x 7 (56 - j))
    ∙ ap (λ (y : ℕ). weight y (56 - j)) e
    ∙ bit_of_bits bytes p {j = j} {k = 57} l

module _ (bytes : List ℕ) (w : Pattern) (s x head mask : ℕ) (is : HeadOf w head mask) (e : x / 2 ^ 7 ≡ bits_at bytes s 57) where
  -- a head that differs rules the place out
  head-differs : (bit_and x mask ≡ head → ⊥) → false ≡ matches (text_of bytes 0) w s
  head-differs ne = sym (not_true_false _ (λ m.
      ne (eqb-true _ _ (is x ∙ to_every (min w.count 57) _ (λ j l.
      rw (head-bit bytes s x j e (omega arith)) (matches_at (text_of bytes 0) w s m j (omega arith)))))))

  -- and one that agrees settles a short pattern
  head-decides : w.count ≤ 57 → bit_and x mask ≡ head → true ≡ matches (text_of bytes 0) w s
  head-decides few same = sym (to_matches (text_of bytes 0) w s (λ j l.
      rw (head-bit bytes s x j e (omega arith)) at (every_at (min w.count 57) _ (sym (is x) ∙ eq-eqb _ _ same) j (omega arith))))

pub overflow_add-byte : goal.overflow_add-byte
overflow_add-byte c = omega (arith, c.byte.ensures)

pub head_inside-requires : goal.head_inside-requires
head_inside-requires c = rw c.byte.ensures at c.if-byte-self.true

pub returns-then-head_inside-self : goal.returns-then-head_inside-self
returns-then-head_inside-self c =
    head-differs _ _ _ _ _ _ c.args.self.now.head_of c.head_inside.ensures c.if-head_inside-self.true

pub returns-then-self-le57 : goal.returns-then-self-le57
returns-then-self-le57 c =
    head-decides _ _ _ _ _ _ c.args.self.now.head_of c.head_inside.ensures c.if-self-le57.true c.if-head_inside-self.false
