-- Laws of the bits of a word that are 1, listed lowest first: the first of them is the lowest, and clearing it leaves the others.
-- Assumes nothing.
use Prim.Native.Nat.{ℕ, zero, suc, ◌+◌, ◌-◌, ◌^◌, ◌≤◌, ◌<◌}
use mathlib.Core.Path.{◌≡◌, refl, sym, ap, ◌∙◌}
use mathlib.Core.Logic.{⊎_elim}
use mathlib.Core.Bool.{Bool, true, false}
use mathlib.Core.List.{List, [], ◌∷◌, ◌++◌}
use native.Mathlib.Nat.{zero-add}
use native.Mathlib.Omega.{arith}
use lib.Bits.{bit_and}
use lib.Count.{count_trailing_zeros}
use lib.Dec.{eqb}
use borrow.Author.Tests.{eq-eqb}
use Rattle.bits.specs.Packed.{weight}
use Rattle.bits.proofs.Weight.{weight_zero}
use Rattle.rules.specs.Ranges.{keep, among}
use Rattle.rules.proofs.Ranges.{eq_or_below, among_append, among_same, among_none}
use Rattle.matcher.proofs.SingleBits.{trailing_below, trailing_at, trailing_lt, lowest_gone, others_stay}
use Rattle.set.specs.Ones.{flagged, ones}

pub not_flagged : (word i : ℕ) → weight word i ≡ 0 → flagged word i ≡ false
not_flagged word i e = rw e

-- with no bit below a
pub late : (word a : ℕ) → a ≤ 64 → ((i : ℕ) → i < a → weight word i ≡ 0) → ones word ≡ among (flagged word) a (64 - a)
late word a l none =
    let whole : 64 ≡ a + (64 - a) = omega arith in
    ap (among (flagged word) 0) whole
    ∙ among_append (flagged word) 0 a (64 - a)
    ∙ ap (λ (front : List ℕ). front ++ among (flagged word) (0 + a) (64 - a)) (among_none (flagged word) 0 a (λ i v u. not_flagged word i (none i (omega arith))))
    ∙ ap (λ (n : ℕ). among (flagged word) n (64 - a)) (zero-add a)

pub none_set : ones 0 ≡ []
none_set = among_none (flagged 0) 0 64 (λ i l u. not_flagged 0 i (weight_zero i))

module _ (word : ℕ) (small : word < 2 ^ 64) (some : word ≡ 0 → ⊥) where
  abbrev lowest : ℕ
  lowest = count_trailing_zeros 64 word

  abbrev others : ℕ
  others = bit_and word (word - 1)

  inside : lowest < 64
  inside = trailing_lt 64 64 word small some

  gone : (i : ℕ) → i < suc lowest → weight others i ≡ 0
  gone i l =
      ⊎_elim
      (λ (e : i ≡ lowest). ap (weight others) e ∙ lowest_gone 64 word small some)
      (λ (u : i < lowest). others_stay 64 word small some i (λ e. omega arith) ∙ trailing_below 64 word i u)
      (eq_or_below (omega arith))

  pub lowest_first : ones word ≡ count_trailing_zeros 64 word ∷ ones (bit_and word (word - 1))
  unfolding among
  lowest_first =
      let more : 64 - lowest ≡ suc (64 - suc lowest) = omega (arith, inside) in
      late word lowest (omega (arith, inside)) (λ i l. trailing_below 64 word i l)
      ∙ ap (among (flagged word) lowest) more
      ∙ ap (λ (b : Bool). keep b lowest (among (flagged word) (suc lowest) (64 - suc lowest))) (eq-eqb _ 1 (trailing_at 64 word inside))
      ∙ ap (λ (l : List ℕ). lowest ∷ l)
      (among_same (flagged word) (flagged others) (suc lowest) (64 - suc lowest) (λ i l u. ap (λ (w : ℕ). eqb w 1) (sym (others_stay 64 word small some i (λ e. omega arith))))
      ∙ sym (late others (suc lowest) (omega (arith, inside)) gone))

-- what is known of the first of a list kept from a range, and of the others
pub record Head (f : ℕ → Bool) (a k e : ℕ) (tail : List ℕ) : Type 0 where
  pub low : a ≤ e
  pub high : e < a + k
  pub passes : f e ≡ true
  pub between : (i : ℕ) → a ≤ i → i < e → f i ≡ false
  pub rest : tail ≡ among f (e + 1) (a + k - (e + 1))

pub among_head : (f : ℕ → Bool) (a k e : ℕ) (tail : List ℕ) → among f a k ≡ e ∷ tail → Head f a k e tail
unfolding among
among_head f a zero e tail h = absurd cc
among_head f a (suc k) e tail h = go (f a) refl (among_head f (suc a) k e tail) h
  where
    go : (b : Bool) → f a ≡ b → (among f (suc a) k ≡ e ∷ tail → Head f (suc a) k e tail) → keep b a (among f (suc a) k) ≡ e ∷ tail → Head f a (suc k) e tail
    go true is ih h =
        let first : a ≡ e = cc in
        let after : among f (suc a) k ≡ tail = cc in
        let from : suc a ≡ e + 1 = omega arith in
        let size : k ≡ a + suc k - (e + 1) = omega arith in
        record {
          low = omega arith;
          high = omega arith;
          passes = ap f (sym first) ∙ is;
          between = λ i l u. absurd (omega arith);
          rest = sym after ∙ (λ j. among f (from j) (size j));
        }
    go false is ih h =
        let r = ih h in
        let size : suc a + k - (e + 1) ≡ a + suc k - (e + 1) = omega arith in
        record {
          low = omega (arith, r.low);
          high = omega (arith, r.high);
          passes = r.passes;
          between = λ i l u.
              ⊎_elim
              (λ (q : a ≡ i). ap f (sym q) ∙ is)
              (λ (q : a < i). r.between i (omega arith) u)
              (eq_or_below (omega arith));
          rest = r.rest ∙ ap (among f (e + 1)) size;
        }

-- and where none is kept
pub among_nil : (f : ℕ → Bool) (a k : ℕ) → among f a k ≡ [] → (i : ℕ) → a ≤ i → i < a + k → f i ≡ false
unfolding among
among_nil f a zero h i l u = absurd (omega arith)
among_nil f a (suc k) h i l u = go (f a) refl (among_nil f (suc a) k) h
  where
    go : (b : Bool) → f a ≡ b → (among f (suc a) k ≡ [] → (i : ℕ) → suc a ≤ i → i < suc a + k → f i ≡ false) → keep b a (among f (suc a) k) ≡ [] → f i ≡ false
    go true is ih h = absurd cc
    go false is ih h =
        ⊎_elim
        (λ (q : a ≡ i). ap f (sym q) ∙ is)
        (λ (q : a < i). ih h i (omega arith) (omega arith))
        (eq_or_below (omega arith))
