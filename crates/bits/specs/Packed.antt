-- What reading a bit means: a packed run of bits, one bit of it, and several bits as a number.
-- A recording and a word are both packed so (document 01, "Recording, word, place").
use Rattle.std.specs.Prelude.{◌≡◌, ℕ, zero, suc, ◌+◌, ◌-◌, ◌*◌, ◌/◌, ◌%◌, ◌^◌, ◌<◌, List, get_or}

-- "A recording is bytes and a bit count n."
pub record Packed : Type 0 where
  pub bytes : List ℕ
  pub count : ℕ

-- ceil(k/8), the bytes that k bits take
abbrev pub bytes_for : ℕ → ℕ
bytes_for k = (k + 7) / 8

-- the bit of weight 2^i in x
abbrev pub weight : ℕ → ℕ → ℕ
weight x i = x / 2 ^ i % 2

-- bit j, counted from the left, of the w bits of x
abbrev pub bit_of : ℕ → ℕ → ℕ → ℕ
bit_of w x j = weight x (w - 1 - j)

-- "Bit p is the bit of weight 2^(7 − p mod 8) in byte p div 8." Past the last byte it reads as 0.
unfoldable pub bit_at : List ℕ → ℕ → ℕ
bit_at bytes p = weight (get_or bytes (p / 8) 0) (7 - p % 8)

-- the k bits from bit p on as a number, bit p leftmost
unfoldable pub bits_at : List ℕ → ℕ → ℕ → ℕ
bits_at bytes p zero = 0
bits_at bytes p (suc k) = bits_at bytes p k * 2 + bit_at bytes (p + k)

-- the first n bits of both are the same
abbrev pub AgreeBelow : ℕ → List ℕ → List ℕ → Type 0
AgreeBelow n a b = (p : ℕ) → p < n → bit_at a p ≡ bit_at b p
