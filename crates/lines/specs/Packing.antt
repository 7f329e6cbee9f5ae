-- The bits of a line in bytes, packed as a text and a pattern are.
use Rattle.std.specs.Prelude.{ℕ, zero, suc, ◌+◌, ◌*◌, List, [], ◌∷◌, ◌≡◌, ◌≤◌, map, length, get_or, take, drop}
use Rattle.bits.specs.Packed.{bytes_for}
use Rattle.lines.specs.Input.{bit_of}

-- the k bits of a list from p on as a number, the first one leftmost; past the last bit they are 0
unfoldable pub bits_from : List ℕ → ℕ → ℕ → ℕ
bits_from bits p zero = 0
bits_from bits p (suc k) = bits_from bits p k * 2 + get_or bits (p + k) 0

-- k bytes of the bits, from byte b on: eight bits at a time
unfoldable pub bytes_from : List ℕ → ℕ → ℕ → List ℕ
bytes_from bits b zero = []
bytes_from bits b (suc k) = bits_from bits (b * 8) 8 ∷ bytes_from bits (suc b) k

-- the bytes of a list of bits: bit p of the bytes is bit p of the list, and the last byte is filled with 0
unfoldable pub packed : List ℕ → List ℕ
packed bits = bytes_from bits 0 (bytes_for (length bits))

-- A buffer that is `before` at entry and `after` at exit: its first n bytes are the characters' bits, and the bytes after
-- them stay.
pub record Packs (chars before : List ℕ) (n : ℕ) (after : List ℕ) : Type 0 where
  pub is : take n after ≡ packed (map bit_of chars)
  pub counts : (n ≤ length after) × (n ≡ length (take n after))
  pub rest : drop n after ≡ drop n before
