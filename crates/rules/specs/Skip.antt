-- The skip method: one whole byte of the text decides many places ("Skip", m ≥ 15).
use Rattle.std.specs.Prelude.{ℕ, ◌+◌, ◌-◌, ◌*◌, ◌/◌, Bool, ◌&&◌, List, ltb}
use Rattle.bits.specs.Packed.{Packed, bit_at}
use Rattle.rules.specs.Ranges.{every, among}
use Rattle.rules.specs.Pattern.{Pattern, agrees}
use Rattle.rules.specs.Occurrence.{places, matches}

-- "b = (s+m) div 8 − 1, the last whole byte inside place s"
abbrev pub last_byte : Pattern → ℕ → ℕ
last_byte w s = (s + w.count) / 8 - 1

-- "w from index 8b − a on shows byte b": the fixed bits there do (document 02)
unfoldable pub shows : Packed → Pattern → ℕ → ℕ → Bool
shows t w b a = every 8 (λ j. agrees w (8 * b - a + j) (bit_at t.bytes (8 * b + j)))

-- a place a is "below E where w .. shows byte b", and it is compared
unfoldable pub shown_at : Packed → Pattern → ℕ → ℕ → Bool
shown_at t w b a = ltb a (places t w) && (shows t w b a && matches t w a)

-- of the places s..8b, those
unfoldable pub skip_finds : Packed → Pattern → ℕ → List ℕ
skip_finds t w s = among (shown_at t w (last_byte w s)) s (8 * last_byte w s + 1 - s)

-- "Next is 8b + 1."
abbrev pub skip_next : Packed → Pattern → ℕ → ℕ
skip_next t w s = 8 * last_byte w s + 1
