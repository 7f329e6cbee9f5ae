-- The call as it was before document 02's A8, and where its answers changed: only where it gave 6.
-- Assumes nothing.
use mathlib.Core.Path.{◌≡◌, ap, ap₂}
use mathlib.Core.Bool.{Bool, true, false, cond}
use Prim.Native.Nat.{ℕ, suc, ◌+◌, ◌^◌, ◌≤◌, ◌<◌}
use native.Mathlib.Omega.{arith}
use borrow.Author.Tests.{lt-ltb, le-ltb}
use lib.Dec.{ltb}
use lib.ListN.{length}
use Rattle.bits.specs.Packed.{Packed, bytes_for, bits_at}
use Rattle.eight.specs.Eight.{Verdict, shown, number, count_at, byte_at, eight_at}
use Rattle.eight.specs.Claims.{Good}
use Rattle.eight.proofs.ShownByte.{byte_inside}
use Rattle.eight.proofs.ReadClaims.{code}

-- "Eight bits from a bit number p can be had by themselves, as a byte with bit p leftmost, with refusals 1, 2, 6": the byte
-- always had eight bits of the recording. 6: p + 8 above n.
unfoldable pub former_at : Packed → ℕ → Verdict
former_at t p =
    cond (ltb (2 ^ 30) t.count) (number 1)
    (cond (ltb (length t.bytes) (bytes_for t.count)) (number 2)
    (cond (ltb t.count (p + 8)) (number 6)
    (shown (bits_at t.bytes p 8) 8)))

pub record Differences (t : Packed) (p : ℕ) : Type 0 where
  -- where all eight lie before n the answer is the one of old, refused or not
  pub inside : p + 8 ≤ t.count → eight_at t p ≡ former_at t p
  -- every refusal is one of old
  pub refused : (k : ℕ) → eight_at t p ≡ number k → former_at t p ≡ number k
  -- elsewhere a good recording got 6, and fewer than eight bits are counted now
  pub changed : Good t → t.count < p + 8 → (former_at t p ≡ number 6) × (count_at t.count p < 8)

pub differences : (t : Packed) (p : ℕ) → Differences t p
unfolding eight_at former_at
differences t p = record { inside = same; refused = kept; changed = six }
  where
    same : p + 8 ≤ t.count → eight_at t p ≡ former_at t p
    same h =
        let eight : count_at t.count p ≡ 8 = omega arith in
        rw (le-ltb t.count (p + 8) h)
        (ap₂ (λ (b c : ℕ). cond (ltb (2 ^ 30) t.count) (number 1) (cond (ltb (length t.bytes) (bytes_for t.count)) (number 2) (shown b c))) (byte_inside t p h) eight)

    kept : (k : ℕ) → eight_at t p ≡ number k → former_at t p ≡ number k
    kept k e = go (ltb (2 ^ 30) t.count) (ltb (length t.bytes) (bytes_for t.count)) e
      where
        go : (x y : Bool) → cond x (number 1) (cond y (number 2) (shown (byte_at t p) (count_at t.count p))) ≡ number k
            → cond x (number 1) (cond y (number 2) (cond (ltb t.count (p + 8)) (number 6) (shown (bits_at t.bytes p 8) 8))) ≡ number k
        go true y q = q
        go false true q = q
        go false false q = absurd (let no : 0 ≡ suc k = ap code q in omega arith)

    six : Good t → t.count < p + 8 → (former_at t p ≡ number 6) × (count_at t.count p < 8)
    six g h = (rw (le-ltb _ _ g.short, le-ltb _ _ g.enough, lt-ltb t.count (p + 8) h), omega arith)
