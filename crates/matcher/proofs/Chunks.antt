-- Comparison by loads: the pattern stands at a place just if the loads of the text and of the pattern that cover it are the same
-- where those of the second run have a 1.
-- Assumes nothing.
use mathlib.Core.Path.{◌≡◌, refl, sym, ap, ap₂, ◌∙◌}
use mathlib.Core.Logic.{◌↔◌, ◌⊎◌, inl, inr}
use mathlib.Core.Bool.{Bool, true, false, true≢false, not}
use mathlib.Core.List.{List}
use Prim.Native.Nat.{ℕ, zero, suc, ◌+◌, ◌-◌, ◌*◌, ◌/◌, ◌%◌, ◌≤◌, ◌<◌, min}
use native.Mathlib.Decide.{dec_le}
use native.Mathlib.Omega.{arith}
use native.Mathlib.Nat.{add_assoc}
use lib.Dec.{eqb}
use lib.ListN.{length, take, drop}
use borrow.Author.Tests.{eqb-true, eq-eqb}
use Rattle.std.proofs.lemmas.List.{get_or-drop, take_rest, drop_min}
use Rattle.bits.specs.Packed.{Packed, bit_at, bits_at, bit_of}
use Rattle.bits.proofs.Run.{bit_of_bits}
use Rattle.rules.specs.Pattern.{Pattern, agrees}
use Rattle.rules.specs.Occurrence.{matches}
use Rattle.rules.proofs.Pattern.{agrees_by}
use Rattle.rules.proofs.Ranges.{not_true_false, same_test, implies_to, to_implies, every_at, to_every}
use Rattle.rules.proofs.Occurrence.{matches_at, to_matches}
use Rattle.matcher.specs.Ready.{text_of, pattern_of}
use Rattle.matcher.specs.Words.{same_where}

below_or_from : (j o : ℕ) → (j < o) ⊎ (o ≤ j)
below_or_from j o = elim (dec_le o j) [ yes h ↦ inr h | no h ↦ inl (omega arith) ]

-- what a test of the code's `!` says
not_flips : (b a : Bool) → not b ≡ a → b ≡ not a
not_flips true true e = sym e
not_flips true false e = refl
not_flips false true e = refl
not_flips false false e = sym e

-- two words are the same where the third has a 1
pub same_where_iff : (x y care k : ℕ)
    → (same_where x y care k ≡ true) ↔ ((j : ℕ) → j < k → bit_of 64 care j ≡ 1 → bit_of 64 x j ≡ bit_of 64 y j)
unfolding same_where
same_where_iff x y care k = (
  λ h j l c. eqb-true _ _ (implies_to (eqb (bit_of 64 care j) 1) _ (every_at k _ h j l) (eq-eqb _ _ c)),
  λ h. to_every k _ (λ j l. to_implies (eqb (bit_of 64 care j) 1) _ (λ c. eq-eqb _ _ (h j l (eqb-true _ _ c)))),
)

module _ (t : Packed) (w : Pattern) (s : ℕ) where
  -- the bits from i on and before i + k agree
  abbrev pub AgreesIn : ℕ → ℕ → Type 0
  AgreesIn i k = (j : ℕ) → i ≤ j → j < i + k → agrees w j (bit_at t.bytes (s + j)) ≡ true

  -- the bits below o agree
  abbrev pub AgreesTo : ℕ → Type 0
  AgreesTo o = (j : ℕ) → j < o → agrees w j (bit_at t.bytes (s + j)) ≡ true

  -- loads that are the same where the second run has a 1: these bits agree
  pub loads_agree : {x y c : ℕ} (i k : ℕ) → k ≤ 64 → x ≡ bits_at t.bytes (s + i) 64 → y ≡ bits_at w.bytes i 64
      → c ≡ bits_at w.fixed i 64 → (same_where x y c k ≡ true) ↔ AgreesIn i k
  loads_agree {x} {y} {c} i k few ex ey ec = (
    λ h j l u.
        let here : i + (j - i) ≡ j = omega arith in
        let there : s + i + (j - i) ≡ s + j = omega arith in
        (agrees_by w j (bit_at t.bytes (s + j))).1 (λ f.
        ap (bit_at t.bytes) (sym there)
        ∙ sym (text_bit (j - i) (omega arith))
        ∙ (same_where_iff x y c k).0 h (j - i) (omega arith) (fixed_bit (j - i) (omega arith) ∙ ap (bit_at w.fixed) here ∙ f)
        ∙ pattern_bit (j - i) (omega arith)
        ∙ ap (bit_at w.bytes) here),
    λ h. (same_where_iff x y c k).1 (λ j l f.
        text_bit j (omega arith)
        ∙ ap (bit_at t.bytes) (add_assoc s i j)
        ∙ (agrees_by w (i + j) _).0 (h (i + j) (omega arith) (omega arith)) (sym (fixed_bit j (omega arith)) ∙ f)
        ∙ sym (pattern_bit j (omega arith))),
  )
    where
      text_bit : (j : ℕ) → j < 64 → bit_of 64 x j ≡ bit_at t.bytes (s + i + j)
      text_bit j l = ap (λ (z : ℕ). bit_of 64 z j) ex ∙ bit_of_bits t.bytes (s + i) l

      pattern_bit : (j : ℕ) → j < 64 → bit_of 64 y j ≡ bit_at w.bytes (i + j)
      pattern_bit j l = ap (λ (z : ℕ). bit_of 64 z j) ey ∙ bit_of_bits w.bytes i l

      fixed_bit : (j : ℕ) → j < 64 → bit_of 64 c j ≡ bit_at w.fixed (i + j)
      fixed_bit j l = ap (λ (z : ℕ). bit_of 64 z j) ec ∙ bit_of_bits w.fixed i l

  -- where the pattern stands, any part of it agrees
  pub part_agrees : (i k : ℕ) → i + k ≤ w.count → matches t w s ≡ true → AgreesIn i k
  part_agrees i k h e j l u = matches_at t w s e j (omega arith)

  -- a part that does not agree rules the place out
  pub part_differs : (i k : ℕ) → i + k ≤ w.count → (AgreesIn i k → ⊥) → matches t w s ≡ false
  part_differs i k h ne = not_true_false _ (λ e. ne (part_agrees i k h e))

  -- where all before the last k bits agree, those k bits decide
  pub part_decides : (b : Bool) (o k : ℕ) → AgreesTo o → k ≤ w.count → w.count ≤ o + k
      → ((b ≡ true) ↔ AgreesIn (w.count - k) k) → b ≡ matches t w s
  part_decides b o k below h l says =
      same_test _ _
      (λ e. to_matches t w s
      (λ j g. elim (below_or_from j (w.count - k)) [
        | inl u ↦ below j (omega arith)
        | inr v ↦ says.0 e j v (omega arith)
      ]))
      (λ e. says.1 (part_agrees (w.count - k) k (omega arith) e))

-- The bits of a text from byte k on.
bit_from : (bytes : List ℕ) (k p : ℕ) → bit_at (drop k bytes) p ≡ bit_at bytes (p + k * 8)
unfolding bit_at
bit_from bytes k p =
    let byte : k + p / 8 ≡ (p + k * 8) / 8 = omega arith in
    let offset : p % 8 ≡ (p + k * 8) % 8 = omega arith in
    rw (get_or-drop k bytes (p / 8) 0, byte, offset) refl

-- several of them
bits_drop : (bytes : List ℕ) (k p n : ℕ) → bits_at (drop k bytes) p n ≡ bits_at bytes (p + k * 8) n
unfolding bits_at
bits_drop bytes k p zero = refl
bits_drop bytes k p (suc n) =
    let there : p + n + k * 8 ≡ p + k * 8 + n = omega arith in
    ap₂ (λ (x y : ℕ). x * 2 + y) (bits_drop bytes k p n) (bit_from bytes k (p + n) ∙ ap (bit_at bytes) there)

-- and as they are read from `&bytes[k..]`
pub bits_from : (bytes : List ℕ) (k p n : ℕ) → bits_at (take (length bytes - k) (drop k bytes)) p n ≡ bits_at bytes (p + k * 8) n
bits_from bytes k p n = rw (take_rest bytes k) (bits_drop bytes k p n)

-- Where the pattern stands, the bytes before the place's own play no part: `&text[b..]` is enough, which is empty where the text
-- ends sooner.
pub matches_from : (text : List ℕ) (w : Pattern) (s b r : ℕ) → b ≡ min (s / 8) (length text) → r ≡ s % 8
    → matches (text_of (take (length text - b) (drop b text)) 0) w r ≡ matches (text_of text 0) w s
matches_from text w s b r from offset =
    rw (take_rest text b ∙ ap (λ (k : ℕ). drop k text) from ∙ drop_min (s / 8) text, offset)
    (same_test _ _
    (λ h. to_matches (text_of text 0) w s (λ j l. rw (bit j) at (matches_at (text_of (drop (s / 8) text) 0) w (s % 8) h j l)))
    (λ h. to_matches (text_of (drop (s / 8) text) 0) w (s % 8) (λ j l. rw (bit j) (matches_at (text_of text 0) w s h j l))))
  where
    bit : (j : ℕ) → bit_at (drop (s / 8) text) (s % 8 + j) ≡ bit_at text (s + j)
    bit j =
        let there : s % 8 + j + s / 8 * 8 ≡ s + j = omega arith in
        bit_from text (s / 8) (s % 8 + j) ∙ ap (bit_at text) there

-- Comparison by loads of 64 bits, however they are made: x is the load of the text, y that of the pattern, c that of its second
-- run, and b whether they are the same where that has a 1.
module _ (text pattern fixed : List ℕ) (m s : ℕ) where
  -- a pattern of at most 64 bits takes one load
  pub one_load : {x y c : ℕ} {b : Bool} → m ≤ 64 → x ≡ bits_at text s 64 → y ≡ bits_at pattern 0 64 → c ≡ bits_at fixed 0 64
      → b ≡ same_where x y c m → b ≡ matches (text_of text 0) (pattern_of pattern fixed m) s
  one_load {x} {y} {c} h e f g says =
      let none : m - m ≡ 0 = omega arith in
      let here : s + 0 ≡ s = omega arith in
      says
      ∙ part_decides (text_of text 0) (pattern_of pattern fixed m) s _ 0 m (λ j l. absurd (omega arith)) (omega arith) (omega arith)
      (rw none (loads_agree (text_of text 0) (pattern_of pattern fixed m) s 0 m h (rw here e) f g))

  -- a longer one takes several: the bits before o agree
  pub record Passed (o : ℕ) : Type 0 where
    pub below : o < m
    pub agree : AgreesTo (text_of text 0) (pattern_of pattern fixed m) s o

  pub none_passed : 0 < m → Passed 0
  none_passed h = record { below = h; agree = λ j l. absurd (omega arith) }

  module _ {x y c : ℕ} {b : Bool} (o : ℕ) (long : o + 64 < m) (e : x ≡ bits_at text (s + o) 64) (f : y ≡ bits_at pattern o 64)
      (g : c ≡ bits_at fixed o 64) (says : b ≡ same_where x y c 64) where
    pub next_differs : not b ≡ true → false ≡ matches (text_of text 0) (pattern_of pattern fixed m) s
    next_differs n =
        sym (part_differs (text_of text 0) (pattern_of pattern fixed m) s o 64 (omega arith)
        (λ a. true≢false (sym ((loads_agree (text_of text 0) (pattern_of pattern fixed m) s o 64 (omega arith) e f g).1 a) ∙ sym says ∙ not_flips b true n)))

    pub next_agrees : Passed o → not b ≡ false → Passed (o + 64)
    next_agrees p t =
        record {
          below = long;
          agree = λ j h. elim (below_or_from j o) [
            | inl l ↦ p.agree j l
            | inr v ↦ (loads_agree (text_of text 0) (pattern_of pattern fixed m) s o 64 (omega arith) e f g).0 (sym says ∙ not_flips b false t) j v h
          ];
        }

  -- the last load, which may overlap the one before it, decides by the k bits before the pattern's end
  pub last_decides : {x y c : ℕ} {b : Bool} (o k : ℕ) → Passed o → m ≤ o + k → k ≤ m → k ≤ 64 → x ≡ bits_at text (s + (m - k)) 64
      → y ≡ bits_at pattern (m - k) 64 → c ≡ bits_at fixed (m - k) 64 → b ≡ same_where x y c k
      → b ≡ matches (text_of text 0) (pattern_of pattern fixed m) s
  last_decides o k p h l few e f g says =
      says
      ∙ part_decides (text_of text 0) (pattern_of pattern fixed m) s _ o k p.agree l h
      (loads_agree (text_of text 0) (pattern_of pattern fixed m) s (m - k) k few e f g)
