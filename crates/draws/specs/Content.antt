use Rattle.std.specs.Prelude.{ℕ, ◌*◌, ◌%◌, ◌^◌, bit_xor}

-- what lies in cell i of a buffer before a call: another number in each cell
unfoldable pub content : ℕ → ℕ → ℕ
content x i = bit_xor (bit_xor x (i * 2 ^ 40 % 2 ^ 64)) (i * 2 ^ 9 % 2 ^ 64)
