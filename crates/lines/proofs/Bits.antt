-- Laws of bits that are packed into bytes.
-- Assumes nothing.
use Prim.Native.Nat.{ℕ, zero, suc, min, ◌+◌, ◌-◌, ◌*◌, ◌/◌, ◌%◌, ◌^◌, ◌≤◌, ◌<◌}
use mathlib.Core.Path.{◌≡◌, refl, sym, ap, ◌∙◌}
use mathlib.Core.Bool.{Bool, true, false}
use mathlib.Core.List.{List, [], ◌∷◌, ◌++◌, map, append-nil}
use native.Mathlib.Omega.{arith}
use native.Mathlib.Decide.{dec_le}
use native.Mathlib.Nat.{pow-suc, add-zero, zero-add, lt_of_lt_of_le}
use native.Mathlib.Numerals.{add-one}
use lib.Pow.{pow_mono}
use lib.Dec.{eqb}
use lib.ListN.{length, get_or, set, take, drop, length-append, length-map, get_or-map, drop_of_length-le}
use Rattle.std.proofs.Common.{get_or-take}
use Rattle.std.proofs.lemmas.List.{nil_from_length}
use lib.Seq.{drop-drop, get_or-drop, take-append_seam, drop-append_seam, take_all, take-suc-set, drop-set-lt}
use borrow.Author.Tests.{eqb-true, eqb-false}
use Rattle.bits.specs.Packed.{weight, bit_at, bytes_for}
use Rattle.bits.proofs.Weight.{weight_shr}
use Rattle.lines.specs.Input.{bit_of, Bits}
use Rattle.lines.specs.Packing.{bits_from, bytes_from, packed, Packs}

-- ---- several bits as a number

abbrev Small : List ℕ → Type 0
Small bits = (i : ℕ) → get_or bits i 0 < 2

module _ (bits : List ℕ) (small : Small bits) (p : ℕ) where
  from_lt : (k : ℕ) → bits_from bits p k < 2 ^ k
  unfolding bits_from
  from_lt zero = omega arith
  from_lt (suc k) = rw pow-suc (omega (arith, from_lt k, small (p + k)))

  -- bit j from the left of k bits
  from_bit : (k j : ℕ) → j < k → weight (bits_from bits p k) (k - 1 - j) ≡ get_or bits (p + j) 0
  unfolding bits_from
  from_bit zero j h = absurd (omega arith)
  from_bit (suc k) j h = go (eqb j k) refl (λ g. from_bit k j g)
    where
      last : get_or bits (p + k) 0 < 2
      last = small (p + k)

      up : weight ((bits_from bits p k * 2 + get_or bits (p + k) 0) / 2 ^ 1) (k - 1 - j) ≡ weight (bits_from bits p k) (k - 1 - j)
      up = let half : (bits_from bits p k * 2 + get_or bits (p + k) 0) / 2 ≡ bits_from bits p k = omega (arith, last) in ap (λ (x : ℕ). weight x (k - 1 - j)) half

      go : (b : Bool) → eqb j k ≡ b → (j < k → weight (bits_from bits p k) (k - 1 - j) ≡ get_or bits (p + j) 0) → weight (bits_from bits p k * 2 + get_or bits (p + k) 0) (suc k - 1 - j) ≡ get_or bits (p + j) 0
      go true e ih =
          let same : j ≡ k = eqb-true j k e in
          let none : suc k - 1 - k ≡ 0 = omega arith in
          rw (same, none) (omega (arith, last))
      go false e ih =
          let other = eqb-false j k e in
          let below : j < k = omega arith in
          let there : suc k - 1 - j ≡ 1 + (k - 1 - j) = omega arith in
          ap (λ (i : ℕ). weight (bits_from bits p k * 2 + get_or bits (p + k) 0) i) there
          ∙ sym (weight_shr (bits_from bits p k * 2 + get_or bits (p + k) 0) 1 (k - 1 - j))
          ∙ up
          ∙ ih below

-- ---- the characters' bits, as the code joins them

chars_small : (chars : List ℕ) → Small (map bit_of chars)
chars_small chars i = rw (get_or-map bit_of chars i 0) (omega arith)

pub chars_byte : (chars : List ℕ) (k : ℕ) → k < 8 → bits_from (map bit_of chars) 0 k < 2 ^ 7
chars_byte chars k h =
    lt_of_lt_of_le (from_lt (map bit_of chars) (chars_small chars) 0 k) (pow_mono {i = k} {j = 7} (omega arith))

-- one character more, or past the last one a character 0
pub chars_more : (chars : List ℕ) (k x : ℕ) → x ≡ bits_from (map bit_of chars) 0 k → x * 2 + get_or chars k 48 % 2 ≡ bits_from (map bit_of chars) 0 (k + 1)
unfolding bits_from
chars_more chars k x e = rw (e, add-one k, zero-add k, get_or-map bit_of chars k 48)

-- ---- eight characters, taken off the front of those that are left

off_front : (all eight rest : List ℕ) → all ≡ eight ++ rest → length eight ≡ min 8 (length all) → (eight ≡ take 8 all) × (rest ≡ drop 8 all)
off_front all eight rest e h = go (dec_le 8 (length all))
  where
    sizes : length all ≡ length eight + length rest
    sizes = simp length-append at (ap length e)

    go : Dec (8 ≤ length all) → (eight ≡ take 8 all) × (rest ≡ drop 8 all)
    go (yes more) =
        let whole : length eight ≡ 8 = omega arith in
        (rw (e, ← whole) (sym (take-append_seam eight rest)), rw (e, ← whole) (sym (drop-append_seam eight rest)))
    go (no less) =
        let none : rest ≡ [] = nil_from_length rest (omega (arith, sizes)) in
        let all_in : all ≡ eight = e ∙ ap (λ (l : List ℕ). eight ++ l) none ∙ append-nil eight in
        let few : length all ≤ 8 = omega arith in
        (sym all_in ∙ sym (take_all 8 all few), none ∙ sym (drop_of_length-le all few))

same_bits : (xs ys : List ℕ) (p q k : ℕ) → ((j : ℕ) → j < k → get_or xs (p + j) 0 ≡ get_or ys (q + j) 0) → bits_from xs p k ≡ bits_from ys q k
unfolding bits_from
same_bits xs ys p q zero h = refl
same_bits xs ys p q (suc k) h = rw (same_bits xs ys p q k (λ j l. h j (omega arith)), h k (omega arith))

pub eight_more : (chars eight rest : List ℕ) (b : ℕ) → drop (b * 8) chars ≡ eight ++ rest → length eight ≡ min 8 (length (drop (b * 8) chars))
    → (rest ≡ drop ((b + 1) * 8) chars) × (bits_from (map bit_of eight) 0 8 ≡ bits_from (map bit_of chars) (b * 8) 8)
eight_more chars eight rest b e h =
    let parts = off_front (drop (b * 8) chars) eight rest e h in
    (parts.1 ∙ drop-drop 8 (b * 8) chars ∙ ap (λ (k : ℕ). drop k chars) (omega arith), same_bits (map bit_of eight) (map bit_of chars) 0 (b * 8) 8 (λ j l. at parts.0 j l))
  where
    at : eight ≡ take 8 (drop (b * 8) chars) → (j : ℕ) → j < 8 → get_or (map bit_of eight) (0 + j) 0 ≡ get_or (map bit_of chars) (b * 8 + j) 0
    at is j l =
        rw (zero-add j, get_or-map bit_of eight j 0, get_or-map bit_of chars (b * 8 + j) 0, is)
        (ap bit_of (rw (get_or-take, get_or-drop)))

-- ---- the bytes

bytes_snoc : (bits : List ℕ) (b k : ℕ) → bytes_from bits b (suc k) ≡ bytes_from bits b k ++ (bits_from bits ((b + k) * 8) 8 ∷ [])
unfolding bytes_from
bytes_snoc bits b zero = rw (add-zero b)
bytes_snoc bits b (suc k) =
    let there : suc b + k ≡ b + suc k = omega arith in
    ap (λ (l : List ℕ). bits_from bits (b * 8) 8 ∷ l) (rw there at (bytes_snoc bits (suc b) k))

bytes_length : (bits : List ℕ) (b k : ℕ) → length (bytes_from bits b k) ≡ k
unfolding bytes_from
bytes_length bits b zero = refl
bytes_length bits b (suc k) = ap suc (bytes_length bits (suc b) k)

bytes_at : (bits : List ℕ) (b k i : ℕ) → i < k → get_or (bytes_from bits b k) i 0 ≡ bits_from bits ((b + i) * 8) 8
unfolding bytes_from
bytes_at bits b zero i h = absurd (omega arith)
bytes_at bits b (suc k) zero h = rw (add-zero b)
bytes_at bits b (suc k) (suc i) h =
    let there : suc b + i ≡ b + suc i = omega arith in
    rw there at (bytes_at bits (suc b) k i (omega arith))

-- one byte more, and all of them
pub bytes_more : (bits : List ℕ) (b : ℕ) → bytes_from bits 0 b ++ (bits_from bits (b * 8) 8 ∷ []) ≡ bytes_from bits 0 (b + 1)
bytes_more bits b = rw (add-one b) (sym (rw (zero-add b) at (bytes_snoc bits 0 b)))

pub bytes_all : (chars : List ℕ) (b : ℕ) → b ≡ bytes_for (length chars) → bytes_from (map bit_of chars) 0 b ≡ packed (map bit_of chars)
unfolding packed
bytes_all chars b e = rw (e, length-map chars bit_of)

-- ---- the bytes in a lent buffer

-- the first b bytes are packed, and the others are as they were
pub record Filled (chars before : List ℕ) (b : ℕ) (out : List ℕ) : Type 0 where
  pub front : take b out ≡ bytes_from (map bit_of chars) 0 b
  pub rest : drop b out ≡ drop b before

pub filled_none : (chars before : List ℕ) → Filled chars before 0 before
unfolding bytes_from
filled_none chars before = record { front = refl; rest = refl }

pub filled_more : (chars before out : List ℕ) (b x : ℕ) → b < length out → x ≡ bits_from (map bit_of (drop (b * 8) chars)) 0 8 → Filled chars before b out → Filled chars before (b + 1) (set out b x)
filled_more chars before out b x h e f =
    record {
      front = rw (add-one b, take-suc-set out b x h, f.front, e, at) (rw add-one at (bytes_more (map bit_of chars) b));
      rest =
          drop-set-lt (b + 1) out b x (omega arith)
          ∙ sym (drop-drop 1 b out)
          ∙ ap (drop 1) f.rest
          ∙ drop-drop 1 b before;
    }
  where
    at : bits_from (map bit_of (drop (b * 8) chars)) 0 8 ≡ bits_from (map bit_of chars) (b * 8) 8
    at =
        same_bits (map bit_of (drop (b * 8) chars)) (map bit_of chars) 0 (b * 8) 8
        (λ j l. rw (zero-add j, get_or-map bit_of (drop (b * 8) chars) j 0, get_or-map bit_of chars (b * 8 + j) 0) (ap bit_of (rw get_or-drop)))

pub filled_packs : (chars before out : List ℕ) (n : ℕ) → n ≡ bytes_for (length chars) → n ≤ length out → Filled chars before n out → Packs chars before n out
filled_packs chars before out n e h f =
    let whole : n ≡ length (take n out) = rw f.front (sym (bytes_length (map bit_of chars) 0 n)) in
    record { is = f.front ∙ bytes_all chars n e; counts = (h, whole); rest = f.rest }

-- ---- what a reader of the packed bytes finds

pub packed_length : (bits : List ℕ) → length (packed bits) ≡ bytes_for (length bits)
unfolding packed
packed_length bits = bytes_length bits 0 (bytes_for (length bits))

bits_small : (bits : List ℕ) → Bits bits → Small bits
bits_small [] b i = omega arith
bits_small (x ∷ bits) b zero = b.0
bits_small (x ∷ bits) b (suc i) = bits_small bits b.1 i

-- bit p of the bytes, by what reading a bit means, is bit p of the list
pub packed_bit : (bits : List ℕ) → Bits bits → (p : ℕ) → p < length bits → bit_at (packed bits) p ≡ get_or bits p 0
unfolding packed bit_at
packed_bit bits b p h =
    let whole : p / 8 * 8 + p % 8 ≡ p = omega arith in
    rw (bytes_at bits 0 (bytes_for (length bits)) (p / 8) (omega arith), zero-add (p / 8))
    (from_bit bits (bits_small bits b) (p / 8 * 8) 8 (p % 8) (omega arith) ∙ ap (λ (i : ℕ). get_or bits i 0) whole)
