-- Laws of `encode_number`: its first byte and the rest, and how many bytes it has. Whoever uses `encode_number` goes by these.
use Prim.Native.Nat.{ℕ, zero, suc, ◌+◌, ◌*◌, ◌/◌, ◌%◌, ◌^◌, ◌≤◌, ◌<◌}
use mathlib.Core.Path.{◌≡◌, refl, sym, ap, ◌∙◌}
use mathlib.Core.Bool.{true}
use mathlib.Core.List.{List, [], ◌∷◌}
use native.Mathlib.Omega.{arith}
use native.Mathlib.Nat.{pow-le-pow_right}
use native.Mathlib.Decide.{dec_lt}
use lib.ListN.{length}
use lib.Pow.{are_bytes}
use borrow.Author.Tests.{lt-ltb, le-ltb}
use Rattle.positions.specs.Encode.{groups, encode_number}

groups_one : (k n : ℕ) → n < 128 → groups k n ≡ n ∷ []
unfolding groups
groups_one zero n h = refl
groups_one (suc k) n h = rw (lt-ltb n 128 h)

groups_more : (k n : ℕ) → 128 ≤ n → groups (suc k) n ≡ (n % 128 + 128) ∷ groups k (n / 128)
unfolding groups
groups_more k n h = rw (le-ltb n 128 h)

-- the bound does not matter once it is large enough
groups_same : (k j n : ℕ) → n ≤ k → n ≤ j → groups k n ≡ groups j n
groups_same zero j n hk hj = groups_one zero n (omega arith) ∙ sym (groups_one j n (omega arith))
groups_same (suc k) zero n hk hj = groups_one (suc k) n (omega arith) ∙ sym (groups_one zero n (omega arith))
groups_same (suc k) (suc j) n hk hj =
    elim (dec_lt n 128) [
      | yes h ↦ groups_one (suc k) n h ∙ sym (groups_one (suc j) n h)
      | no h ↦
          let m : 128 ≤ n = omega arith in
          groups_more k n m
          ∙ ap (λ (l : List ℕ). (n % 128 + 128) ∷ l) (groups_same k j (n / 128) (omega arith) (omega arith))
          ∙ sym (groups_more j n m)
    ]

-- a number below 128 is one byte
pub one_byte : (n : ℕ) → n < 128 → encode_number n ≡ n ∷ []
unfolding encode_number
one_byte n h = groups_one n n h

-- any other is its lowest group, with 128 added, and then the groups above it
pub more_bytes : (n : ℕ) → 128 ≤ n → encode_number n ≡ (n % 128 + 128) ∷ encode_number (n / 128)
unfolding encode_number
more_bytes zero h = absurd (omega arith)
more_bytes (suc m) h =
    groups_more m (suc m) h
    ∙ ap (λ (l : List ℕ). (suc m % 128 + 128) ∷ l)
    (groups_same m (suc m / 128) (suc m / 128) (omega arith) (omega arith))

-- ---- how many bytes a number has

pub size_one : (n : ℕ) → n < 128 → length (encode_number n) ≡ 1
size_one n h = ap length (one_byte n h)

pub size_more : (n : ℕ) → 128 ≤ n → length (encode_number n) ≡ suc (length (encode_number (n / 128)))
size_more n h = ap length (more_bytes n h)

pub size_pos : (n : ℕ) → 0 < length (encode_number n)
size_pos n = elim (dec_lt n 128) [ yes h ↦ omega (arith, size_one n h) | no h ↦ omega (arith, size_more n (omega arith)) ]

pub size_two : (n : ℕ) → 128 ≤ n → n < 16384 → length (encode_number n) ≡ 2
size_two n l h = size_more n l ∙ ap suc (size_one (n / 128) (omega arith))

pub size_three : (n : ℕ) → 16384 ≤ n → n < 2097152 → length (encode_number n) ≡ 3
size_three n l h = size_more n (omega arith) ∙ ap suc (size_two (n / 128) (omega arith) (omega arith))

pub size_four : (n : ℕ) → 2097152 ≤ n → n < 268435456 → length (encode_number n) ≡ 4
size_four n l h = size_more n (omega arith) ∙ ap suc (size_three (n / 128) (omega arith) (omega arith))

pub size_five : (n : ℕ) → 268435456 ≤ n → n < 34359738368 → length (encode_number n) ≡ 5
size_five n l h = size_more n (omega arith) ∙ ap suc (size_four (n / 128) (omega arith) (omega arith))

-- a power of two that is at most a number below another power has the smaller exponent
pub exponent_lt : (j k a : ℕ) → 2 ^ j ≤ a → a < 2 ^ k → j < k
exponent_lt j k a l h = elim (dec_lt j k) [
  | yes g ↦ g
  | no g ↦
      let below : k ≤ j = omega arith in
      let power : 2 ^ k ≤ 2 ^ j = pow-le-pow_right {n = 2} (omega arith) below in
      absurd (omega arith)
]

-- One byte for each seven bits: j is the number's bit count, the place of the highest bit of 2 n + 1.
pub size_by_bits : (n j : ℕ) → n < 2 ^ 32 → 2 ^ j ≤ 2 * n + 1 → 2 * n + 1 < 2 ^ (1 + j) → length (encode_number n) ≡ (9 * j + 64) / 64
size_by_bits n j small l h = elim (dec_lt n 128) [
  | yes a ↦ size_one n a ∙ omega (arith, below 8 (omega arith))
  | no a ↦
      elim (dec_lt n 16384) [
        | yes b ↦ size_two n (omega arith) b ∙ omega (arith, from 8 (omega arith), below 15 (omega arith))
        | no b ↦
            elim (dec_lt n 2097152) [
              | yes c ↦ size_three n (omega arith) c ∙ omega (arith, from 15 (omega arith), below 22 (omega arith))
              | no c ↦
                  elim (dec_lt n 268435456) [
                    | yes d ↦ size_four n (omega arith) d ∙ omega (arith, from 22 (omega arith), below 29 (omega arith))
                    | no d ↦ size_five n (omega arith) (omega arith) ∙ omega (arith, from 29 (omega arith), below 33 (omega arith))
                  ]
            ]
      ]
]
  where
    below : (k : ℕ) → 2 * n + 1 < 2 ^ k → j < k
    below k g = exponent_lt j k (2 * n + 1) l g

    from : (k : ℕ) → 2 ^ k ≤ 2 * n + 1 → k < 1 + j
    from k g = exponent_lt k (1 + j) (2 * n + 1) g h

-- ---- each is a byte

groups_bytes : (k n : ℕ) → n ≤ k → are_bytes (groups k n) ≡ true
unfolding groups
groups_bytes zero n h = rw (lt-ltb n 256 (omega arith))
groups_bytes (suc k) n h =
    elim (dec_lt n 128) [
      | yes l ↦ ap are_bytes (groups_one (suc k) n l) ∙ rw (lt-ltb n 256 (omega arith))
      | no l ↦
          let m : 128 ≤ n = omega arith in
          ap are_bytes (groups_more k n m) ∙ rw (lt-ltb (n % 128 + 128) 256 (omega arith)) (groups_bytes k (n / 128) (omega arith))
    ]

pub number_bytes : (n : ℕ) → are_bytes (encode_number n) ≡ true
unfolding encode_number
number_bytes n = groups_bytes n n (omega arith)
