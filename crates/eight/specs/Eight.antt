-- Eight bits from a bit number, by themselves, with how many of them lie before n, and refusals 1 and 2 (document 01,
-- "Recording, word, place" and "When the panel says no", as A8 of document 02 changes them).
use Rattle.std.specs.Prelude.{ℕ, zero, suc, ◌+◌, ◌-◌, ◌*◌, ◌^◌, min, cond, length, ltb, Result, Ok, Err}
use Rattle.bits.specs.Packed.{Packed, bytes_for, bit_at}
use Rattle.eight.specs.declared.Shown.{Shown}
use Rattle.eight.specs.declared.Refusal.{Refusal}
use Rattle.eight.specs.declared.Refusal.TheVariants.{TextTooLong, TextBytesMissing}

-- "The read of eight bits should also give how many of them lie before n": the least of 8 and n − p, which is 0 where p is n
-- or more.
abbrev pub count_at : ℕ → ℕ → ℕ
count_at n p = min 8 (n - p)

-- "with zeros for the others": bit j of the byte is the text's bit p + j for j below the count, else 0
abbrev pub shown_at : Packed → ℕ → ℕ → ℕ
shown_at t p j = cond (ltb j (count_at t.count p)) (bit_at t.bytes (p + j)) 0

-- the number of k bits, bit 0 leftmost
unfoldable pub from_bits : (ℕ → ℕ) → ℕ → ℕ
from_bits bit zero = 0
from_bits bit (suc k) = from_bits bit k * 2 + bit k

-- "as a byte with bit p leftmost"
abbrev pub byte_at : Packed → ℕ → ℕ
byte_at t p = from_bits (shown_at t p) 8

-- what a call comes to: a byte and the count, or the number of a refusal
pub data Verdict : Type 0 where
  shown : ℕ → ℕ → Verdict
  number : ℕ → Verdict

-- "and accept any bit number, so it no longer gives 6". 1: n above 2^30. 2: recording bytes fewer than ceil(n/8).
unfoldable pub eight_at : Packed → ℕ → Verdict
eight_at t p =
    cond (ltb (2 ^ 30) t.count) (number 1)
    (cond (ltb (length t.bytes) (bytes_for t.count)) (number 2)
    (shown (byte_at t p) (count_at t.count p)))

-- the papers' number of each refusal
abbrev pub number_of : Refusal → ℕ
number_of TextTooLong = 1
number_of TextBytesMissing = 2

-- what the papers say for each answer of the code
abbrev pub verdict_of : Result Shown Refusal → Verdict
verdict_of (Ok s) = shown s.byte s.count
verdict_of (Err r) = number (number_of r)
