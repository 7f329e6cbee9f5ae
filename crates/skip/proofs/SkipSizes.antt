-- The numbers of a step fit their types: stated over the mark and the two bit counts alone, so that each need is one citation.
-- Assumes nothing.
use Prim.Native.Nat.{ℕ, ◌+◌, ◌-◌, ◌*◌, ◌/◌, ◌^◌, ◌≤◌, ◌<◌}
use mathlib.Core.Path.{◌≡◌}
use mathlib.Core.List.{List}
use native.Mathlib.Omega.{arith}
use borrow.Author.Tests.{ltb-false}
use lib.ListN.{length}
use Rattle.bits.specs.Packed.{Packed}
use Rattle.rules.specs.declared.Method.TheVariants.{Skip}
use Rattle.rules.specs.Pattern.{Pattern}
use Rattle.rules.specs.Occurrence.{places}
use Rattle.matcher.specs.Ready.{Ready}

-- b is the last whole byte inside the place p, of `len` bytes of text
pub record Sizes (p n m len b : ℕ) : Type 0 where
  pub small : b < 2 ^ 29
  pub top : 8 * b + 1 < 2 ^ 32
  pub there : b < len
  pub within : p ≤ 8 * b + 1
  pub goes_on : b + m < 2 ^ 32

module _ (t : Packed) (w : Pattern) (cells : List ℕ) (ready : Ready Skip t w cells) where
  pub long_enough : 15 ≤ w.count
  long_enough = ltb-false w.count 15 ready.pattern.fit

  module _ (s : ℕ) where
    pub sizes : (b : ℕ) → b ≡ (s + w.count) / 8 - 1 → s < places t w → Sizes s t.count w.count (length t.bytes) b
    sizes b e h =
        let few = ready.few_bits in
        let there = ready.bytes_there in
        let long = long_enough in
        let short = ready.pattern.few_bits in
        let inside = ready.inside in
        record { small = omega arith; top = omega arith; there = omega arith; within = omega arith; goes_on = omega arith }
