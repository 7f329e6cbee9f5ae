-- The move of a value, read off the words of its last and of its first four bits; and what the union of four words rules out.
-- Assumes nothing.
use Prim.Native.Nat.{ℕ, zero, suc, ◌+◌, ◌-◌, ◌*◌, ◌/◌, ◌%◌, ◌^◌, ◌≤◌, ◌<◌, min, max}
use mathlib.Core.Path.{◌≡◌, sym, ap, ◌∙◌}
use mathlib.Core.Bool.{Bool, true, false, ◌&&◌, cond}
use mathlib.Core.List.{List}
use native.Mathlib.Nat.{add-zero}
use native.Mathlib.Decide.{dec_le}
use native.Mathlib.Omega.{arith}
use lib.Bits.{bit_and, bit_or, and_mask}
use lib.Count.{count_trailing_zeros}
use lib.Dec.{leb}
use lib.ListN.{get_or}
use borrow.Author.Tests.{leb-true, le-leb}
use Rattle.bits.specs.Packed.{weight}
use Rattle.bits.proofs.Weight.{weight_shr, weight_zero, weight_mod, weight_and, weight_or}
use Rattle.rules.specs.Pattern.{Pattern}
use Rattle.rules.specs.Hash.{meets, hash_again}
use Rattle.matcher.specs.Lined.{Lined}
use Rattle.hash_tables.specs.HashWords.{HasAll, Union, NoneTo}
use Rattle.rules.proofs.Ranges.{and_left, and_right}
use Rattle.rules.proofs.Hash.{again_least}
use Rattle.matcher.proofs.SingleBits.{trailing_below, trailing_at, trailing_lt}
use Rattle.matcher.proofs.Lined.{one_true, zero_false, last_eight, lined_join}
use Rattle.hash_tables.proofs.HashValues.{first_meets}

-- The word of the moves d + 1, d + 2, .. of the value B, from the words of its last and of its first four bits: 57 of them
module _ (w : Pattern) (d B a b : ℕ) (f : Lined w (d + 1) 4 (B % 16) a) (g : Lined w (d + 1) 4 (B / 16) b) where
  moves_bit : (e : ℕ) → weight (bit_and a (b / 2 ^ 4)) e ≡ cond (leb (e + 8) 64 && meets w B (d + 1 + e)) 1 0
  moves_bit e = lined_join w (d + 1) 4 B a b f g e ∙ ap (λ (z : Bool). cond (leb (e + 8) 64 && z) 1 0) (last_eight w B (d + 1 + e))

  -- a bit that is 0 rules its move out
  unmet : (e : ℕ) → weight (bit_and a (b / 2 ^ 4)) e ≡ 0 → e < 57 → meets w B (d + 1 + e) ≡ false
  unmet e z l =
      let there : leb (e + 8) 64 ≡ true = le-leb (e + 8) 64 (omega arith) in
      zero_false (meets w B (d + 1 + e)) (sym (rw there at (moves_bit e)) ∙ z)

  more_none : (k : ℕ) → NoneTo w B d → ((e : ℕ) → e < k → meets w B (d + 1 + e) ≡ false) → NoneTo w B (d + k)
  more_none k none h e low top = go (dec_le e d)
    where
      go : Dec (e ≤ d) → meets w B e ≡ false
      go (yes l) = none e low l
      go (no n) =
          let there : d + 1 + (e - d - 1) ≡ e = omega arith in
          rw there at (h (e - d - 1) (omega arith))

  -- where it has no bit, none of them meets the condition
  pub moves_none : ((e : ℕ) → weight (bit_and a (b / 2 ^ 4)) e ≡ 0) → NoneTo w B d → NoneTo w B (d + 57)
  moves_none z none = more_none 57 none (λ e l. unmet e (z e) l)

  -- else the lowest bit is the least that does
  pub moves_some : bit_and a (b / 2 ^ 4) < 2 ^ 64 → (bit_and a (b / 2 ^ 4) ≡ 0 → ⊥) → 1 ≤ w.count → NoneTo w B d
      → d + 1 + count_trailing_zeros 64 (bit_and a (b / 2 ^ 4)) ≡ hash_again w B
  moves_some small some long none =
      first_meets w B 1 (d + 1 + t) (hash_again w B) (again_least w B long) (omega arith)
      (λ e low l. more_none t none (λ i u. unmet i (trailing_below 64 z i u) (omega (arith, few))) e low (omega arith))
      (and_right (leb (t + 8) 64) _ met)
    where
      z : ℕ
      z = bit_and a (b / 2 ^ 4)

      t : ℕ
      t = count_trailing_zeros 64 z

      met : (leb (t + 8) 64 && meets w B (d + 1 + t)) ≡ true
      met = one_true _ (sym (moves_bit t) ∙ trailing_at 64 z (trailing_lt 64 64 z small some))

      few : t < 57
      few = omega (arith, leb-true (t + 8) 64 (and_left (leb (t + 8) 64) _ met))

-- The number of a union: four bits of a set, from bit 4 g on
module _ (set g : ℕ) where
  pub four_is : bit_and (set / 2 ^ (4 * g)) 15 ≡ set / 2 ^ (4 * g) % 16
  four_is = and_mask (set / 2 ^ (4 * g)) 4

  pub four_lt : bit_and (set / 2 ^ (4 * g)) 15 < 16
  four_lt = omega (arith, four_is)

  four_bit : (j : ℕ) → j < 4 → weight (bit_and (set / 2 ^ (4 * g)) 15) j ≡ weight set (4 * g + j)
  four_bit j l =
      ap (λ (z : ℕ). weight z j) four_is
      ∙ weight_mod (set / 2 ^ (4 * g)) {w = 4} {i = j} l
      ∙ weight_shr set (4 * g) j

  -- where the union has no bit of a word, none of its words has one
  pub union_none : (cells : List ℕ) (later : ℕ) → Union g cells
      → bit_and (get_or cells (278 + 16 * g + bit_and (set / 2 ^ (4 * g)) 15) 0) later ≡ 0
      → (low : ℕ) → 4 * g ≤ low → low < 4 * g + 4 → weight set low ≡ 1 → (e : ℕ) → weight (bit_and (get_or cells (262 + low) 0) later) e ≡ 0
  union_none cells later u z low from to one e =
      let union = get_or cells (278 + 16 * g + bit_and (set / 2 ^ (4 * g)) 15) 0 in
      let word = get_or cells (262 + low) 0 in
      let there : 4 * g + (low - 4 * g) ≡ low = omega arith in
      let cell : 262 + 4 * g + (low - 4 * g) ≡ 262 + low = omega arith in
      let within : weight word e ≤ weight union e =
      rw cell at (u (bit_and (set / 2 ^ (4 * g)) 15) four_lt (low - 4 * g) e (omega arith) (four_bit (low - 4 * g) (omega arith) ∙ ap (weight set) there ∙ one)) in
      let none : min (weight union e) (weight later e) ≡ 0 = sym (weight_and union later e) ∙ ap (λ (x : ℕ). weight x e) z ∙ weight_zero e in
      weight_and word later e ∙ omega (arith, within, none)

-- unions depend on their own cells and on those of their words alone
pub union_same : (g : ℕ) (cells cells' : List ℕ) → g < 4 → Union g cells
    → ((i : ℕ) → 262 ≤ i → i < 278 + 16 * g + 16 → get_or cells' i 0 ≡ get_or cells i 0) → Union g cells'
union_same g cells cells' inside u same s small j e l one =
    rw (same (262 + 4 * g + j) (omega arith) (omega arith), same (278 + 16 * g + s) (omega arith) (omega arith)) (u s small j e l one)

-- the union of four words, each taken if it is in the set
module _ (cells : List ℕ) (from set : ℕ) where
  in_set : (j r : ℕ) → r ≡ get_or cells (from + j) 0 * weight set j → weight set j ≡ 1 → get_or cells (from + j) 0 ≡ r
  in_set j r e one = sym (e ∙ ap (λ (b : ℕ). get_or cells (from + j) 0 * b) one ∙ omega arith)

  pub union_has : (p q r s : ℕ) → p ≡ get_or cells from 0 * weight set 0 → q ≡ get_or cells (from + 1) 0 * weight set 1
      → r ≡ get_or cells (from + 2) 0 * weight set 2 → s ≡ get_or cells (from + 3) 0 * weight set 3
      → HasAll cells from set (bit_or (bit_or (bit_or p q) r) s)
  union_has p q r s ep eq er es j e l one = go j l one
    where
      bits : weight (bit_or (bit_or (bit_or p q) r) s) e ≡ max (max (max (weight p e) (weight q e)) (weight r e)) (weight s e)
      bits =
          weight_or (bit_or (bit_or p q) r) s e
          ∙ ap (λ (x : ℕ). max x (weight s e)) (weight_or (bit_or p q) r e ∙ ap (λ (x : ℕ). max x (weight r e)) (weight_or p q e))

      go : (j : ℕ) → j < 4 → weight set j ≡ 1 → weight (get_or cells (from + j) 0) e ≤ weight (bit_or (bit_or (bit_or p q) r) s) e
      go zero l one = rw (in_set 0 p (rw (add-zero from) ep) one, bits) (omega arith)
      go (suc zero) l one = rw (in_set 1 q eq one, bits) (omega arith)
      go (suc (suc zero)) l one = rw (in_set 2 r er one, bits) (omega arith)
      go (suc (suc (suc zero))) l one = rw (in_set 3 s es one, bits) (omega arith)
      go (suc (suc (suc (suc j)))) l one = absurd (omega arith)
