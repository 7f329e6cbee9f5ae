-- The wide method: 64 places at a time, a flag for each ("Wide", after documents 000 and 004).
use Rattle.std.specs.Prelude.{ℕ, ◌+◌, ◌-◌, Bool, ◌&&◌, cond, List, leb, ltb}
use Rattle.std.proofs.Math.Option.{Option, none, some}
use Rattle.bits.specs.Packed.{Packed, bit_at}
use Rattle.rules.specs.Ranges.{implies, every, among, greatest}
use Rattle.rules.specs.Pattern.{Pattern, agrees}
use Rattle.rules.specs.Occurrence.{places}

-- "The window has ws = 63 + m bits."
abbrev pub window : Pattern → ℕ
window w = 63 + w.count

-- the bits that count for flag i: "q with s + q < n and 0 ≤ q − i < m"
unfoldable pub counts : Packed → Pattern → ℕ → ℕ → ℕ → Bool
counts t w s i q = ltb (s + q) t.count && (leb i q && ltb (q - i) w.count)

-- flag i stands: it falls "when, for some q" that counts, "t[s+q] differs from w[q−i]", at a fixed bit of w (document 02)
unfoldable pub stands : Packed → Pattern → ℕ → ℕ → Bool
stands t w s i = every (window w) (λ q. implies (counts t w s i q) (agrees w (q - i) (bit_at t.bytes (s + q))))

-- a place a is "below E" and its flag, number a − s, stands
unfoldable pub flagged : Packed → Pattern → ℕ → ℕ → Bool
flagged t w s a = ltb a (places t w) && stands t w s (a - s)

-- "Flag bit i (0 to 63) stands for place s + i"; those "are hits, taken lowest flag first"
unfoldable pub wide_finds : Packed → Pattern → ℕ → List ℕ
wide_finds t w s = among (flagged t w s) s 64

-- "k is the greatest index whose bit is wild or equals c" (document 02), if there is one
unfoldable pub last_index : Pattern → ℕ → Option ℕ
last_index w c = greatest (λ k. agrees w k c) w.count

-- with e = s + ws: "next is s + ws − k .. or s + ws + 1 if w has no c". In the tail method e is s + m.
abbrev pub beyond : ℕ → Option ℕ → ℕ
beyond e none = e + 1
beyond e (some k) = e - k

-- "If s + ws ≥ n, next is E. Otherwise, with c = t[s+ws]", as above
unfoldable pub wide_next : Packed → Pattern → ℕ → ℕ
wide_next t w s =
    cond (leb t.count (s + window w))
    (places t w)
    (beyond (s + window w) (last_index w (bit_at t.bytes (s + window w))))
