-- The tail method: how much of the pattern's front stands at the window's end says how far to move ("Tail method", m ≤ 64, after
-- document 001, BNDM).
use Rattle.std.specs.Prelude.{ℕ, ◌+◌, ◌-◌, Bool, List, []}
use Rattle.std.proofs.Math.Option.{Option}
use Rattle.bits.specs.Packed.{Packed, bit_at}
use Rattle.rules.specs.Ranges.{every, keep, greatest}
use Rattle.rules.specs.Pattern.{Pattern, agrees}
use Rattle.rules.specs.Occurrence.{matches}
use Rattle.rules.specs.Wide.{beyond}

-- "the word's first r bits equal the window's last r bits, t[s+m−r] to t[s+m−1]": the fixed ones do (document 02)
unfoldable pub prefix_ends : Packed → Pattern → ℕ → ℕ → Bool
prefix_ends t w s r = every r (λ j. agrees w j (bit_at t.bytes (s + w.count - r + j)))

-- "let r be the greatest length below m such that" they do. Length 0 always is one, so only a pattern of no bits, which is refused,
-- has none.
unfoldable pub tail_length : Packed → Pattern → ℕ → Option ℕ
tail_length t w s = greatest (prefix_ends t w s) w.count

-- "The step decides s by comparison"
unfoldable pub tail_finds : Packed → Pattern → ℕ → List ℕ
tail_finds t w s = keep (matches t w s) s []

-- "and moves to s + m − r"
unfoldable pub tail_next : Packed → Pattern → ℕ → ℕ
tail_next t w s = beyond (s + w.count) (tail_length t w s)
