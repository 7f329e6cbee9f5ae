-- Theorems about the second run: with every bit fixed agreement is equality of bits; what a pattern has at wild bits never
-- matters; one with every bit wild occurs at every place.
use Prim.Native.Nat.{ℕ, ◌<◌}
use mathlib.Core.Path.{◌≡◌, refl, sym, ◌∙◌}
use mathlib.Core.Bool.{Bool, true, false}
use lib.Dec.{eqb}
use Rattle.bits.specs.Packed.{Packed, bit_at}
use Rattle.rules.specs.declared.Method.{Method}
use Rattle.rules.specs.Pattern.{Pattern, is_fixed, agrees}
use Rattle.rules.specs.Wild.{AllFixed, AllWild, Alike}
use Rattle.rules.specs.Occurrence.{places, Occurs}
use Rattle.rules.specs.Hash.{hash_of}
use Rattle.rules.specs.Step.{unfit}
use Rattle.rules.specs.Machine.{run}
use Rattle.rules.proofs.Pattern.{agrees_wild, agrees_fixed}
use Rattle.rules.proofs.Padding.{pattern_bits, hash_of_same, run_same}

-- with every bit fixed `agrees` is the test "t[s+j] = w[j]" as document 01 has it
pub agrees_all_fixed : (w : Pattern) → AllFixed w → (j b : ℕ) → j < w.count → agrees w j b ≡ eqb b (bit_at w.bytes j)
agrees_all_fixed w f j b l = agrees_fixed w j b (f j l)

-- a pattern with every bit wild occurs at every place
pub all_wild_occurs : (t : Packed) (w : Pattern) → AllWild w → (s : ℕ) → s < places t w → Occurs t w s
all_wild_occurs t w a s inside = record { inside = inside; same = λ j l. agrees_wild w j _ (a j l) }

-- patterns that are alike agree with the same bits
pub agrees_alike : (w v : Pattern) → Alike w v → (j b : ℕ) → j < w.count → agrees w j b ≡ agrees v j b
agrees_alike w v a j b l = go (is_fixed w j) refl
  where
    go : (f : Bool) → is_fixed w j ≡ f → agrees w j b ≡ agrees v j b
    go true f =
        agrees_fixed w j b f
        ∙ rw (a.bits_alike j l f) (sym (agrees_fixed v j b (sym (a.fixed_alike j l) ∙ f)))
    go false f = agrees_wild w j b f ∙ sym (agrees_wild v j b (sym (a.fixed_alike j l) ∙ f))

-- so the machine's run is the same, by every method, and so is H(B); the two have as many bits
pub run_alike_bits : (x : Method) (t : Packed) (w v : Pattern) → Alike w v → unfit x w.count ≡ false → (budget s cells : ℕ)
    → run x t w budget s cells ≡ run x t (pattern_bits w.count v.bytes v.fixed) budget s cells
unfolding agrees is_fixed
run_alike_bits x t w v a fit budget s cells =
    run_same t.count w.count t.bytes t.bytes w.bytes w.fixed v.bytes v.fixed (λ p l. refl) (agrees_alike w v a) x fit budget s cells

pub run_alike : (x : Method) (t : Packed) (w v : Pattern) → Alike w v → unfit x w.count ≡ false → (budget s cells : ℕ)
    → run x t w budget s cells ≡ run x t v budget s cells
run_alike x t w v a fit budget s cells = rw (← a.as_many) (run_alike_bits x t w v a fit budget s cells)

pub hash_of_alike_bits : (w v : Pattern) → Alike w v → (B : ℕ) → hash_of w B ≡ hash_of (pattern_bits w.count v.bytes v.fixed) B
unfolding agrees is_fixed
hash_of_alike_bits w v a B =
    hash_of_same w.count w.bytes w.fixed v.bytes v.fixed (agrees_alike w v a) B

pub hash_of_alike : (w v : Pattern) → Alike w v → (B : ℕ) → hash_of w B ≡ hash_of v B
hash_of_alike w v a B = rw (← a.as_many) (hash_of_alike_bits w v a B)
