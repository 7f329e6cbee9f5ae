-- How 32 places are looked at: the bytes that the code takes are those of the 32 bits at each place, the cells of the four
-- places at an offset, the offsets one after the other, and the bits that mark the places with some flag.
-- Assumes nothing.
use Prim.Native.Nat.{ℕ, zero, suc, ◌+◌, ◌-◌, ◌*◌, ◌/◌, ◌%◌, ◌^◌, ◌≤◌, ◌<◌}
use mathlib.Core.Path.{◌≡◌, refl, sym, ap, ap₂, ◌∙◌}
use mathlib.Core.Logic.{◌⊎◌, inl, inr}
use mathlib.Core.Bool.{Bool, true, false, not}
use mathlib.Core.List.{List}
use native.Mathlib.Nat.{div-one, pow-suc, zero-add}
use native.Mathlib.Omega.{arith}
use lib.Bits.{bit_and, bit_or, or_add_and, and_le_l, and_le_r}
use lib.Dec.{eqb}
use lib.ListN.{length, get_or, set, length-set}
use lib.Pow.{pow_mono, shr-shr, shr_mod, field, mod-mod-pow}
use lib.Seq.{get_or-set_same, get_or-set_other}
use borrow.Author.Tests.{eqb-true}
use mir.Val.{bool_byte}
use Rattle.bits.specs.Packed.{weight, bits_at}
use Rattle.bits.proofs.Weight.{weight_shr, weight_mod, shl_high, same_weights}
use Rattle.bits.proofs.Run.{bits_lt, bits_first, bits_last}
use Rattle.rules.proofs.Ranges.{eq_or_below}
use Rattle.set_rules.specs.PatternSet.{PatternSet}
use Rattle.set_tables.specs.Fronts.{begins, Flags, Tables, front}
use Rattle.set_tables.specs.Parts.{FourFound, Looked}
use Rattle.set_tables.proofs.Entering.{front_flags}

-- The bits of a place

-- the 32 bits from bit e on are in the 64 bits that begin e bits before
pub bits_from : (text : List ℕ) (p e : ℕ) → e ≤ 32 → bits_at text p 64 / 2 ^ (32 - e) % 2 ^ 32 ≡ bits_at text (p + e) 32
bits_from text p e l =
    let above : 32 - e ≡ 64 - (32 + e) = omega arith in
    let below : 32 ≡ 32 + e - e = omega arith in
    ap (λ (n : ℕ). bits_at text p 64 / 2 ^ n % 2 ^ 32) above
    ∙ ap (λ (y : ℕ). y % 2 ^ 32) (bits_first text p {j = 32 + e} {k = 64} (omega arith))
    ∙ ap (λ (n : ℕ). bits_at text p (32 + e) % 2 ^ n) below
    ∙ bits_last text p {j = e} {k = 32 + e} (omega arith)
    ∙ ap (λ (n : ℕ). bits_at text (p + e) n) (sym below)

-- 32 bits of a word that is shifted to the left are those of the word, as many bits later
pub bits_shifted : (x i k : ℕ) → i ≤ k → k ≤ 32 → x * 2 ^ i % 2 ^ 64 / 2 ^ k % 2 ^ 32 ≡ x / 2 ^ (k - i) % 2 ^ 32
bits_shifted x i k l h = same_weights 32 _ _ (omega arith) (omega arith) same
  where
    same : (n : ℕ) → n < 32 → weight (x * 2 ^ i % 2 ^ 64 / 2 ^ k % 2 ^ 32) n ≡ weight (x / 2 ^ (k - i) % 2 ^ 32) n
    same n u =
        let there : k + n - i ≡ k - i + n = omega arith in
        weight_mod (x * 2 ^ i % 2 ^ 64 / 2 ^ k) {w = 32} {i = n} u
        ∙ weight_shr (x * 2 ^ i % 2 ^ 64) k n
        ∙ shl_high x i (k + n) (omega arith) (omega arith)
        ∙ ap (weight x) there
        ∙ sym (weight_shr x (k - i) n)
        ∙ sym (weight_mod (x / 2 ^ (k - i)) {w = 32} {i = n} u)

-- The four places at an offset

-- the flags that four bytes leave standing
abbrev pub by_bytes : List ℕ → ℕ → ℕ → ℕ → ℕ → ℕ
by_bytes tables a b c d =
    bit_and (bit_and (get_or tables a 0) (get_or tables (256 + b) 0)) (bit_and (get_or tables (512 + c) 0) (get_or tables (768 + d) 0))

-- the four bytes of 32 bits from bit k up
front_bytes : (tables : List ℕ) (y k : ℕ)
    → front tables (y / 2 ^ k % 2 ^ 32) ≡ by_bytes tables (y / 2 ^ (k + 24) % 2 ^ 8) (y / 2 ^ (k + 16) % 256) (y / 2 ^ (k + 8) % 256) (y / 2 ^ k % 256)
unfolding front
front_bytes tables y k =
    ap₂ bit_and
    (ap₂ (λ (a b : ℕ). bit_and (get_or tables a 0) (get_or tables (256 + b) 0)) first (byte 8 16))
    (ap₂ (λ (a b : ℕ). bit_and (get_or tables (512 + a) 0) (get_or tables (768 + b) 0)) (byte 16 8) (mod-mod-pow (y / 2 ^ k) 24 8))
  where
    first : y / 2 ^ k % 2 ^ 32 / 2 ^ 24 ≡ y / 2 ^ (k + 24) % 2 ^ 8
    first = field (y / 2 ^ k) 8 24 ∙ ap (λ (z : ℕ). z % 2 ^ 8) (shr-shr y k 24)

    byte : (j m : ℕ) → y / 2 ^ k % 2 ^ (j + 8 + m) / 2 ^ m % 2 ^ 8 ≡ y / 2 ^ (k + m) % 2 ^ 8
    byte j m =
        ap (λ (z : ℕ). z % 2 ^ 8) (field (y / 2 ^ k) (j + 8) m)
        ∙ mod-mod-pow (y / 2 ^ k / 2 ^ m) j 8
        ∙ ap (λ (z : ℕ). z % 2 ^ 8) (shr-shr y k m)

-- what is 0 in `or` is 0 in both
pub both_zero : (a b : ℕ) → bit_or a b ≡ 0 → (a ≡ 0) × (b ≡ 0)
both_zero a b e = (omega (arith, or_add_and a b, and_le_r a b), omega (arith, or_add_and a b, and_le_l a b))

-- the cells of four places
abbrev pub four_cells : List ℕ → ℕ → ℕ → ℕ → ℕ → ℕ → List ℕ
four_cells before i p q r s = set (set (set (set before i p) (8 + i) q) (16 + i) r) (24 + i) s

module _ (before : List ℕ) (i p q r s : ℕ) where
  -- the cells on the way
  abbrev one : List ℕ
  one = set before i p

  abbrev two : List ℕ
  two = set one (8 + i) q

  abbrev three : List ℕ
  three = set two (16 + i) r

  pub four_size : length (four_cells before i p q r s) ≡ length before
  four_size = length-set three (24 + i) s ∙ length-set two (16 + i) r ∙ length-set one (8 + i) q ∙ length-set before i p

  four_other : (z : ℕ) → (z ≡ i → ⊥) → (z ≡ 8 + i → ⊥) → (z ≡ 16 + i → ⊥) → (z ≡ 24 + i → ⊥)
      → get_or (four_cells before i p q r s) z 0 ≡ get_or before z 0
  four_other z a b c d =
      get_or-set_other three (24 + i) z s 0 d
      ∙ get_or-set_other two (16 + i) z r 0 c
      ∙ get_or-set_other one (8 + i) z q 0 b
      ∙ get_or-set_other before i z p 0 a

  module _ (room : 24 + i < length before) where
    four_first : get_or (four_cells before i p q r s) i 0 ≡ p
    four_first =
        get_or-set_other three (24 + i) i s 0 (λ e. absurd (omega arith))
        ∙ get_or-set_other two (16 + i) i r 0 (λ e. absurd (omega arith))
        ∙ get_or-set_other one (8 + i) i q 0 (λ e. absurd (omega arith))
        ∙ get_or-set_same before i p 0 (omega arith)

    four_second : get_or (four_cells before i p q r s) (8 + i) 0 ≡ q
    four_second =
        get_or-set_other three (24 + i) (8 + i) s 0 (λ e. absurd (omega arith))
        ∙ get_or-set_other two (16 + i) (8 + i) r 0 (λ e. absurd (omega arith))
        ∙ get_or-set_same one (8 + i) q 0 (simp length-set (omega arith))

    four_third : get_or (four_cells before i p q r s) (16 + i) 0 ≡ r
    four_third =
        get_or-set_other three (24 + i) (16 + i) s 0 (λ e. absurd (omega arith))
        ∙ get_or-set_same two (16 + i) r 0 (simp length-set (omega arith))

    four_fourth : get_or (four_cells before i p q r s) (24 + i) 0 ≡ s
    four_fourth = get_or-set_same three (24 + i) s 0 (simp length-set (omega arith))

-- the bytes of y from bit 56 down, by their places
module _ (tables : List ℕ) (y : ℕ) where
  abbrev pub place_first : ℕ
  place_first = by_bytes tables (y / 2 ^ 56) (y / 2 ^ 48 % 256) (y / 2 ^ 40 % 256) (y / 2 ^ 32 % 256)

  abbrev pub place_second : ℕ
  place_second = by_bytes tables (y / 2 ^ 48 % 256) (y / 2 ^ 40 % 256) (y / 2 ^ 32 % 256) (y / 2 ^ 24 % 256)

  abbrev pub place_third : ℕ
  place_third = by_bytes tables (y / 2 ^ 40 % 256) (y / 2 ^ 32 % 256) (y / 2 ^ 24 % 256) (y / 2 ^ 16 % 256)

  abbrev pub place_fourth : ℕ
  place_fourth = by_bytes tables (y / 2 ^ 32 % 256) (y / 2 ^ 24 % 256) (y / 2 ^ 16 % 256) (y / 2 ^ 8 % 256)

  abbrev pub place_any : ℕ
  place_any = bit_or (bit_or place_first place_second) (bit_or place_third place_fourth)

  pub four_found : (i : ℕ) (before : List ℕ) → y < 2 ^ 64 → i < 8 → 32 ≤ length before
      → FourFound tables y i before (four_cells before i place_first place_second place_third place_fourth) place_any
  four_found i before small l room = record { are = are; others = others; size = four_size before i _ _ _ _; none = none }
    where
      cells : List ℕ
      cells = four_cells before i place_first place_second place_third place_fourth

      are : (j : ℕ) → j < 4 → get_or cells (8 * j + i) 0 ≡ front tables (y / 2 ^ (32 - 8 * j) % 2 ^ 32)
      are zero h =
          ap (λ (z : ℕ). get_or cells z 0) (zero-add i)
          ∙ four_first before i _ _ _ _ (omega arith)
          ∙ ap (λ (a : ℕ). by_bytes tables a (y / 2 ^ 48 % 256) (y / 2 ^ 40 % 256) (y / 2 ^ 32 % 256)) (sym (shr_mod 8 56 small))
          ∙ sym (front_bytes tables y 32)
      are (suc zero) h = four_second before i _ _ _ _ (omega arith) ∙ sym (front_bytes tables y 24)
      are (suc (suc zero)) h = four_third before i _ _ _ _ (omega arith) ∙ sym (front_bytes tables y 16)
      are (suc (suc (suc zero))) h = four_fourth before i _ _ _ _ (omega arith) ∙ sym (front_bytes tables y 8)
      are (suc (suc (suc (suc j)))) h = absurd (omega arith)

      others : (z : ℕ) → (z % 8 ≡ i → ⊥) → get_or cells z 0 ≡ get_or before z 0
      others z apart =
          four_other before i _ _ _ _ z (λ e. apart (omega arith)) (λ e. apart (omega arith)) (λ e. apart (omega arith)) (λ e. apart (omega arith))

      none : place_any ≡ 0 → (j : ℕ) → j < 4 → get_or cells (8 * j + i) 0 ≡ 0
      none e = each
        where
          halves : (bit_or place_first place_second ≡ 0) × (bit_or place_third place_fourth ≡ 0)
          halves = both_zero _ _ e

          each : (j : ℕ) → j < 4 → get_or cells (8 * j + i) 0 ≡ 0
          each zero h = ap (λ (z : ℕ). get_or cells z 0) (zero-add i) ∙ four_first before i _ _ _ _ (omega arith) ∙ (both_zero _ _ halves.0).0
          each (suc zero) h = four_second before i _ _ _ _ (omega arith) ∙ (both_zero place_first _ halves.0).1
          each (suc (suc zero)) h = four_third before i _ _ _ _ (omega arith) ∙ (both_zero _ _ halves.1).0
          each (suc (suc (suc zero))) h = four_fourth before i _ _ _ _ (omega arith) ∙ (both_zero place_third _ halves.1).1
          each (suc (suc (suc (suc j)))) h = absurd (omega arith)

-- The offsets one after the other

-- the places at the offsets below i have their flags
pub record LookedTo (tables : List ℕ) (word : ℕ) (before found : List ℕ) (any i : ℕ) : Type 0 where
  pub are : (e : ℕ) → e < 32 → e % 8 < i → get_or found e 0 ≡ front tables (word / 2 ^ (32 - e) % 2 ^ 32)
  pub size : length found ≡ length before
  pub none : any ≡ 0 → (e : ℕ) → e < 32 → e % 8 < i → get_or found e 0 ≡ 0

module _ (tables : List ℕ) (word : ℕ) (before : List ℕ) where
  pub looked_more : (i : ℕ) (found found' : List ℕ) (any more : ℕ) → i < 8 → LookedTo tables word before found any i
      → FourFound tables (word * 2 ^ i % 2 ^ 64) i found found' more → LookedTo tables word before found' (bit_or any more) (i + 1)
  looked_more i found found' any more few so_far new =
      record {
        are = λ e l h. there e l (eq_or_below (omega arith));
        size = new.size ∙ so_far.size;
        none = λ z e l h. nothing z e l (eq_or_below (omega arith));
      }
    where
      there : (e : ℕ) → e < 32 → (e % 8 ≡ i) ⊎ (e % 8 < i) → get_or found' e 0 ≡ front tables (word / 2 ^ (32 - e) % 2 ^ 32)
      there e l (inl q) =
          let is : e ≡ 8 * (e / 8) + i = omega arith in
          let by : 32 - 8 * (e / 8) - i ≡ 32 - e = omega arith in
          ap (λ (z : ℕ). get_or found' z 0) is
          ∙ new.are (e / 8) (omega arith)
          ∙ ap (front tables) (bits_shifted word i (32 - 8 * (e / 8)) (omega arith) (omega arith))
          ∙ ap (λ (n : ℕ). front tables (word / 2 ^ n % 2 ^ 32)) by
      there e l (inr q) = new.others e (λ z. absurd (omega arith)) ∙ so_far.are e l q

      nothing : bit_or any more ≡ 0 → (e : ℕ) → e < 32 → (e % 8 ≡ i) ⊎ (e % 8 < i) → get_or found' e 0 ≡ 0
      nothing z e l (inl q) =
          let is : e ≡ 8 * (e / 8) + i = omega arith in
          ap (λ (n : ℕ). get_or found' n 0) is ∙ new.none (both_zero any more z).1 (e / 8) (omega arith)
      nothing z e l (inr q) = new.others e (λ n. absurd (omega arith)) ∙ so_far.none (both_zero any more z).0 e l q

-- what the flags then say of the patterns
pub looked_flags : (ws : PatternSet) (tables text found before : List ℕ) (base any : ℕ) → Tables ws tables
    → Looked tables (bits_at text base 64) before found any → (e : ℕ) → e < 32
    → Flags ws (length ws.counts) (λ w. begins w 0 32 (bits_at text (base + e) 32)) (get_or found e 0)
looked_flags ws tables text found before base any made looked e l i =
    ap (λ (z : ℕ). weight z i) (looked.are e l ∙ ap (front tables) (bits_from text base e (omega arith)))
    ∙ front_flags ws tables made (bits_at text (base + e) 32) (bits_lt text (base + e) 32) i

-- The bits that mark places

-- the places from e on have their bits, that of e lowest
pub record MarkedFrom (found : List ℕ) (e m : ℕ) : Type 0 where
  pub inside : e ≤ 32
  pub small : m < 2 ^ (32 - e)
  pub unset : (n : ℕ) → e ≤ n → n < 32 → weight m (n - e) ≡ 0 → get_or found n 0 ≡ 0

pub marked_small : {found : List ℕ} {e m : ℕ} → MarkedFrom found e m → m < 2 ^ 32
marked_small {found} {e} {m} s = omega (arith, s.small, pow_mono {i = 32 - e} {j = 32} (omega arith))

-- a bit that says whether a flag stands
pub some_flag : (flags : ℕ) → (bool_byte (not (eqb flags 0)) < 2) × (bool_byte (not (eqb flags 0)) ≡ 0 → flags ≡ 0)
some_flag flags = go (eqb flags 0) (eqb-true flags 0)
  where
    go : (b : Bool) → (b ≡ true → flags ≡ 0) → (bool_byte (not b) < 2) × (bool_byte (not b) ≡ 0 → flags ≡ 0)
    go true none = (omega arith, λ z. none refl)
    go false none = (omega arith, λ z. absurd (omega arith))

pub marked_more : (found : List ℕ) (e m r : ℕ) → 0 < e → r < 2 → (r ≡ 0 → get_or found (e - 1) 0 ≡ 0) → MarkedFrom found e m
    → MarkedFrom found (e - 1) (2 * m + r)
marked_more found e m r some bit tells so_far =
    record { inside = omega (arith, so_far.inside); small = small; unset = λ n l h z. at n h z (eq_or_below l) }
  where
    small : 2 * m + r < 2 ^ (32 - (e - 1))
    small =
        let more : 32 - (e - 1) ≡ suc (32 - e) = omega (arith, so_far.inside) in
        rw (more, pow-suc) (omega (arith, so_far.small))

    at : (n : ℕ) → n < 32 → weight (2 * m + r) (n - (e - 1)) ≡ 0 → (e - 1 ≡ n) ⊎ (e - 1 < n) → get_or found n 0 ≡ 0
    at n h z (inl q) =
        let here : n - (e - 1) ≡ 0 = omega arith in
        let last : (2 * m + r) % 2 ≡ 0 = ap (λ (x : ℕ). x % 2) (sym (div-one (2 * m + r))) ∙ ap (weight (2 * m + r)) (sym here) ∙ z in
        rw (← q) (tells (omega arith))
    at n h z (inr q) =
        let above : 1 + (n - e) ≡ n - (e - 1) = omega arith in
        let half : m ≡ (2 * m + r) / 2 ^ 1 = omega arith in
        so_far.unset n (omega arith) h
        (ap (λ (x : ℕ). weight x (n - e)) half ∙ weight_shr (2 * m + r) 1 (n - e) ∙ ap (weight (2 * m + r)) above ∙ z)
