-- Words in the cells of the scratch: which cells are changed, the words of one bit, and those of twice as many.
-- Assumes nothing.
use Prim.Native.Nat.{ℕ, ◌+◌, ◌-◌, ◌*◌, ◌/◌, ◌%◌, ◌^◌, ◌≤◌, ◌<◌}
use mathlib.Core.Path.{◌≡◌, refl, sym, ap, ◌∙◌}
use mathlib.Core.Logic.{◌⊎◌, inl, inr}
use mathlib.Core.List.{List}
use native.Mathlib.Nat.{add-zero, mod-lt, div-lt_iff_lt-mul}
use native.Mathlib.Omega.{arith}
use lib.Bits.{bit_and, bit_xor, and_mask}
use lib.ListN.{length, get_or, set, drop, length-set, length-drop}
use lib.Pow.{pow_pos}
use lib.Seq.{get_or-set_same, get_or-set_other, get_or-drop, ext_get_or}
use Rattle.bits.specs.Packed.{weight}
use Rattle.rules.specs.Pattern.{Pattern}
use Rattle.matcher.specs.Lined.{Ending, Lined, Words, Only}
use Rattle.rules.proofs.Ranges.{eq_or_below}
use Rattle.matcher.proofs.SingleBits.{all_ones}
use Rattle.matcher.proofs.Lined.{lined_zero, lined_ones, lined_join}

-- Which cells are changed

pub only_none : {from to : ℕ} {cells : List ℕ} → Only from to cells cells
only_none = record { size = refl; low = λ i l. refl; high = λ i l. refl }

pub only_then : {from to : ℕ} {before middle cells : List ℕ} → Only from to before middle → Only from to middle cells → Only from to before cells
only_then u v = record { size = v.size ∙ u.size; low = λ i l. v.low i l ∙ u.low i l; high = λ i l. v.high i l ∙ u.high i l }

pub only_wider : {from to from' to' : ℕ} {before cells : List ℕ} → Only from to before cells → from' ≤ from → to ≤ to' → Only from' to' before cells
only_wider u h l = record { size = u.size; low = λ i g. u.low i (omega arith); high = λ i g. u.high i (omega arith) }

pub only_set : {from to : ℕ} {before cells : List ℕ} (i v : ℕ) → Only from to before cells → from ≤ i → i < to → Only from to before (set cells i v)
only_set {cells = cells} i v u h l =
    record {
      size = length-set cells i v ∙ u.size;
      low = λ j g. get_or-set_other cells i j v 0 (λ e. absurd (omega arith)) ∙ u.low j g;
      high = λ j g. get_or-set_other cells i j v 0 (λ e. absurd (omega arith)) ∙ u.high j g;
    }

-- the cells after them are as they were
pub only_rest : {from to : ℕ} {before cells : List ℕ} (n : ℕ) → Only from to before cells → to ≤ n → drop n cells ≡ drop n before
only_rest {before = before} {cells = cells} n u h =
    ext_get_or 0 (drop n cells) (drop n before) (length-drop n cells ∙ ap (λ (k : ℕ). k - n) u.size ∙ sym (length-drop n before))
    (λ i l. get_or-drop n cells i 0 ∙ u.high (n + i) (omega arith) ∙ sym (get_or-drop n before i 0))

-- The words of one bit, in their cells
module _ (w : Pattern) (d p f at : ℕ) (before : List ℕ) (room : at + 2 ≤ length before) (ep : Ending w.bytes w.count d p) (ef : Ending w.fixed w.count d f) where
  pub words_one : Words w d 1 at (set (set before at (bit_xor (bit_and p f) all_ones)) (at + 1) (bit_xor (bit_and f (bit_xor p all_ones)) all_ones))
  words_one x l = go (eq_or_below (omega arith))
    where
      zero_word : ℕ
      zero_word = bit_xor (bit_and p f) all_ones

      one_word : ℕ
      one_word = bit_xor (bit_and f (bit_xor p all_ones)) all_ones

      size : length (set before at zero_word) ≡ length before
      size = length-set before at zero_word

      go : (x ≡ 1) ⊎ (x < 1) → Lined w d 1 x (get_or (set (set before at zero_word) (at + 1) one_word) (at + x) 0)
      go (inl e) = rw e (rw (get_or-set_same (set before at zero_word) (at + 1) one_word 0 (omega (arith, size))) (lined_ones w d p f ep ef))
      go (inr e) =
          let none : x ≡ 0 = omega arith in
          rw (none, add-zero at)
          (rw (get_or-set_other (set before at zero_word) (at + 1) at one_word 0 (λ e. absurd (omega arith)) ∙ get_or-set_same before at zero_word 0 (omega arith))
          (lined_zero w d p f ep ef))

-- Words of twice as many bits

-- what the next cell gets
abbrev pub pair_of : List ℕ → ℕ → ℕ → ℕ → ℕ → ℕ
pair_of cells from size k x = bit_and (get_or cells (from + bit_and x (size - 1)) 0) (get_or cells (from + x / 2 ^ k) 0 / 2 ^ k)

-- the words of the values below x are made
abbrev pub PairsTo : ℕ → ℕ → ℕ → List ℕ → List ℕ → ℕ → Type 0
PairsTo k from to before cells x = (w : Pattern) (d : ℕ) → Words w d k from before → (y : ℕ) → y < x → Lined w d (k + k) y (get_or cells (to + y) 0)

module _ (k from to size x : ℕ) (before cells : List ℕ) (power : size ≡ 2 ^ k) (inside : x < size * size) where
  last_is : bit_and x (size - 1) ≡ x % 2 ^ k
  last_is = rw power (and_mask x k)

  pub last_lt : bit_and x (size - 1) < size
  last_lt = rw (last_is, power) (mod-lt x (pow_pos k))

  pub first_lt : x / 2 ^ k < size
  first_lt = rw power ((div-lt_iff_lt-mul {k = 2 ^ k} {x = x} {y = 2 ^ k} (pow_pos k)).1 (rw power at inside))

  pub pairs_more : PairsTo k from to before cells x → from + size ≤ to → Only to (to + 2 ^ k * 2 ^ k) before cells → to + x < length cells
      → PairsTo k from to before (set cells (to + x) (pair_of cells from size k x)) (x + 1)
  pairs_more made apart u room w d words y l = go (eq_or_below (omega arith))
    where
      last : get_or cells (from + bit_and x (size - 1)) 0 ≡ get_or before (from + x % 2 ^ k) 0
      last = u.low (from + bit_and x (size - 1)) (omega (arith, last_lt)) ∙ ap (λ (n : ℕ). get_or before (from + n) 0) last_is

      first : get_or cells (from + x / 2 ^ k) 0 ≡ get_or before (from + x / 2 ^ k) 0
      first = u.low (from + x / 2 ^ k) (omega (arith, first_lt))

      this : Lined w d (k + k) x (pair_of cells from size k x)
      this =
          rw (last, first)
          (lined_join w d k x (get_or before (from + x % 2 ^ k) 0) (get_or before (from + x / 2 ^ k) 0)
          (words (x % 2 ^ k) (mod-lt x (pow_pos k))) (words (x / 2 ^ k) (rw power at first_lt)))

      go : (y ≡ x) ⊎ (y < x) → Lined w d (k + k) y (get_or (set cells (to + x) (pair_of cells from size k x)) (to + y) 0)
      go (inl q) =
          rw q (rw (get_or-set_same cells (to + x) (pair_of cells from size k x) 0 room) this)
      go (inr q) =
          rw (get_or-set_other cells (to + x) (to + y) (pair_of cells from size k x) 0 (λ e. absurd (omega arith))) (made w d words y q)

pub words_same : (w : Pattern) (d k from : ℕ) (cells cells' : List ℕ) → Words w d k from cells
    → ((i : ℕ) → from ≤ i → i < from + 2 ^ k → get_or cells' i 0 ≡ get_or cells i 0) → Words w d k from cells'
words_same w d k from cells cells' f same x l e =
    ap (λ (z : ℕ). weight z e) (same (from + x) (omega arith) (omega arith)) ∙ f x l e
