-- `bits::load::join` meets its contract: the eight bytes are joined one after the other.
-- Assumes nothing.
use mathlib.Core.Path.{◌≡◌, refl, sym, ◌∙◌, ap}
use mathlib.Core.List.{List, [], ◌∷◌}
use Prim.Native.Nat.{ℕ, ◌*◌, ◌%◌, ◌^◌, ◌<◌}
use lib.Dec.{lit≤}
use lib.Pow.{shl_exact}
use Rattle.bits.specs.Packed.{bits_at}
use Rattle.bits.proofs.Loads.{byte_bits, join_byte, join_last}
use Rattle.bits.proofs.load.join.Goals as goal

first : (xs : List ℕ) (b : ℕ) → b < 256 → (b * 2 ^ 56) % 2 ^ 64 ≡ bits_at (b ∷ xs) 0 8 * 2 ^ 56
first xs b h = shl_exact 8 56 64 h (lit≤ tt) ∙ ap (λ (x : ℕ). x * 2 ^ 56) (sym (byte_bits (b ∷ xs) 0 h))

pub returns : goal.returns
returns c =
    let a = c.args in
    let h = c.ranges in
    let xs : List ℕ = a.a ∷ a.b ∷ a.c ∷ a.d ∷ a.e ∷ a.f ∷ a.g ∷ a.h ∷ [] in
    let s1 = join_byte xs 1 48 refl h.b.fits (lit≤ tt) (first _ a.a h.a.fits) in
    let s2 = join_byte xs 2 40 refl h.c.fits (lit≤ tt) s1 in
    let s3 = join_byte xs 3 32 refl h.d.fits (lit≤ tt) s2 in
    let s4 = join_byte xs 4 24 refl h.e.fits (lit≤ tt) s3 in
    let s5 = join_byte xs 5 16 refl h.f.fits (lit≤ tt) s4 in
    let s6 = join_byte xs 6 8 refl h.g.fits (lit≤ tt) s5 in
    rw
    (c.from.ensures, c.from-2.ensures, c.from-3.ensures, c.from-4.ensures, c.from-5.ensures, c.from-6.ensures, c.from-7.ensures, c.from-8.ensures)
    (join_last xs 7 refl h.h.fits s6)
