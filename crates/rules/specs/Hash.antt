-- The hash method: the last eight bits of the window say how far to move ("Hash", m ≥ 8).
use Rattle.std.specs.Prelude.{ℕ, ◌+◌, ◌-◌, Bool, ◌&&◌, cond, List, [], leb, eqb}
use Rattle.bits.specs.Packed.{Packed, bits_at, bit_of}
use Rattle.rules.specs.Ranges.{implies, every, keep, least}
use Rattle.rules.specs.Pattern.{Pattern, agrees}
use Rattle.rules.specs.Occurrence.{matches}

-- the condition on d: "w[m−8−d+j] = B[j] for each j in 0..7 with m−8−d+j ≥ 0", B[0] being the left bit of B; a wild bit agrees with
-- both values (document 02)
unfoldable pub meets : Pattern → ℕ → ℕ → Bool
meets w B d = every 8 (λ j. implies (leb (8 + d) (w.count + j)) (agrees w (w.count + j - (8 + d)) (bit_of 8 B j)))

-- "H(B) is the least d in 0..m such that" the condition holds
unfoldable pub hash_of : Pattern → ℕ → ℕ
hash_of w B = least (meets w B) 0 (1 + w.count)

-- G: "After H(B) = 0, hash moves by the least d in 1..m that meets the condition for the B just read" (document 02)
unfoldable pub hash_again : Pattern → ℕ → ℕ
hash_again w B = least (meets w B) 1 w.count

-- "At s, B is t[s+m−8] to t[s+m−1]."
unfoldable pub last_eight : Packed → Pattern → ℕ → ℕ
last_eight t w s = bits_at t.bytes (s + w.count - 8) 8

-- "If H(B) = 0, s is compared"
unfoldable pub hash_finds : Packed → Pattern → ℕ → List ℕ
hash_finds t w s = keep (eqb (hash_of w (last_eight t w s)) 0 && matches t w s) s []

-- "If H(B) ≥ 1, next is s + H(B). If H(B) = 0, .. next is s + G"
unfoldable pub hash_next : Packed → Pattern → ℕ → ℕ
hash_next t w s = s + cond (eqb (hash_of w (last_eight t w s)) 0) (hash_again w (last_eight t w s)) (hash_of w (last_eight t w s))
