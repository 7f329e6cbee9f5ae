-- `bits::load::eight_bytes` meets its contract: the bytes that are joined are those of the slice, in order.
-- Assumes nothing.
use mathlib.Core.Path.{◌≡◌, refl, sym, ◌∙◌, ap}
use mathlib.Core.List.{List, [], ◌∷◌}
use Prim.Native.Nat.{ℕ, zero, suc, ◌+◌, ◌*◌, ◌<◌}
use native.Mathlib.Nat.{add-zero}
use native.Mathlib.Omega.{arith}
use lib.ListN.{get_or}
use Rattle.bits.specs.Packed.{bits_at}
use Rattle.bits.proofs.Loads.{same_bytes}
use Rattle.bits.proofs.load.eight_bytes.Goals as goal

eight : List ℕ → ℕ → List ℕ
eight l b =
    get_or l b 0
    ∷ get_or l (b + 1) 0
    ∷ get_or l (b + 2) 0
    ∷ get_or l (b + 3) 0
    ∷ get_or l (b + 4) 0
    ∷ get_or l (b + 5) 0
    ∷ get_or l (b + 6) 0
    ∷ get_or l (b + 7) 0
    ∷ []

in_order : (l : List ℕ) (b i : ℕ) → i < 8 → get_or (eight l b) (0 + i) 0 ≡ get_or l (b + i) 0
unfolding eight
in_order l b zero h = ap (λ (n : ℕ). get_or l n 0) (sym (add-zero b))
in_order l b (suc zero) h = refl
in_order l b (suc (suc zero)) h = refl
in_order l b (suc (suc (suc zero))) h = refl
in_order l b (suc (suc (suc (suc zero)))) h = refl
in_order l b (suc (suc (suc (suc (suc zero))))) h = refl
in_order l b (suc (suc (suc (suc (suc (suc zero)))))) h = refl
in_order l b (suc (suc (suc (suc (suc (suc (suc zero))))))) h = refl
in_order l b (suc (suc (suc (suc (suc (suc (suc (suc i)))))))) h = absurd (omega arith)

joined : (l : List ℕ) (b : ℕ) {x : ℕ} → x ≡ bits_at (eight l b) 0 64 → x ≡ bits_at l (b * 8) 64
joined l b e = e ∙ same_bytes (eight l b) l 0 b 8 (in_order l b)

pub returns : goal.returns
unfolding eight
returns c = joined _ _ c.join.ensures
