-- The plain method: every place, compared by bytes with shifted rows ("Plain", after document 003).
use Rattle.std.specs.Prelude.{ℕ, zero, suc, ◌+◌, ◌-◌, ◌*◌, ◌/◌, ◌%◌, Bool, ◌&&◌, cond, List, [], leb, ltb, eqb, get_or}
use Rattle.std.specs.Int.Bits.{bit_and}
use Rattle.bits.specs.Packed.{Packed, bit_at, bytes_for}
use Rattle.rules.specs.Ranges.{every, keep}
use Rattle.rules.specs.Pattern.{Pattern, is_fixed}

-- the number of k bits whose bit j from the left is f j
unfoldable pub from_bits : (ℕ → ℕ) → ℕ → ℕ
from_bits f zero = 0
from_bits f (suc k) = from_bits f k * 2 + f k

-- "that index is in 0..m−1": 8h − i + j, for row i, byte h and bit j
unfoldable pub in_row : Pattern → ℕ → ℕ → ℕ → Bool
in_row w i h j = leb i (8 * h + j) && ltb (8 * h + j - i) w.count

-- it is, and the pattern's bit there is fixed: "hits are now judged by fixed bits alone" (document 02)
unfoldable pub fixed_in_row : Pattern → ℕ → ℕ → ℕ → Bool
fixed_in_row w i h j = in_row w i h j && is_fixed w (8 * h + j - i)

-- "bit j counted from the left is w[8h − i + j] where that index is in 0..m−1, else 0", of the fixed bits
unfoldable pub row_bit : Pattern → ℕ → ℕ → ℕ → ℕ
row_bit w i h j = cond (fixed_in_row w i h j) (bit_at w.bytes (8 * h + j - i)) 0

-- "the row's mask has 1 there, else 0"
unfoldable pub mask_bit : Pattern → ℕ → ℕ → ℕ → ℕ
mask_bit w i h j = cond (fixed_in_row w i h j) 1 0

unfoldable pub row_byte : Pattern → ℕ → ℕ → ℕ
row_byte w i h = from_bits (row_bit w i h) 8

unfoldable pub row_mask : Pattern → ℕ → ℕ → ℕ
row_mask w i h = from_bits (mask_bit w i h) 8

-- row i, "byte h (0 to ceil((m+i)/8) − 1)", laid on the text's bytes from byte b on
unfoldable pub row_fits : Packed → Pattern → ℕ → ℕ → Bool
row_fits t w i b =
    every (bytes_for (w.count + i)) (λ h. eqb (bit_and (get_or t.bytes (b + h) 0) (row_mask w i h)) (row_byte w i h))

-- "Place s uses row s mod 8 from byte s div 8 on."
unfoldable pub plain_finds : Packed → Pattern → ℕ → List ℕ
plain_finds t w s = keep (row_fits t w (s % 8) (s / 8)) s []

-- "Next is s + 1."
abbrev pub plain_next : Packed → Pattern → ℕ → ℕ
plain_next t w s = s + 1
