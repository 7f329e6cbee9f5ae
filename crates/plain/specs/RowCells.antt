-- The plain method's rows by cells of eight bytes: what one cell of a row says of a place, and how the cells are made.
use Rattle.std.specs.Prelude.{ℕ, ◌+◌, ◌-◌, ◌*◌, ◌/◌, ◌%◌, ◌^◌, ◌≤◌, ◌<◌, ◌≡◌, Bool, true, false, cond, List, ltb, eqb, length, get_or}
use Rattle.std.specs.Int.Bits.{bit_and}
use Rattle.bits.specs.Packed.{bit_of, bits_at}

-- "Place s uses row s mod 8 from byte s div 8 on": cell k of that row, laid on the eight bytes of the text under it, agrees
unfoldable pub cell_fits : List ℕ → List ℕ → ℕ → ℕ → Bool
cell_fits text cells s k =
    eqb (bit_and (bits_at text (8 * (s / 8) + 64 * k) 64) (get_or cells (16 * k + 8 + s % 8) 0)) (get_or cells (16 * k + s % 8) 0)

-- bit j of the 64 bits that begin i bits before those of x, where those of prev stand
unfoldable pub shifted_bit : ℕ → ℕ → ℕ → ℕ → ℕ
shifted_bit prev x i j = cond (ltb j i) (bit_of 64 prev (64 + j - i)) (bit_of 64 x (j - i))

-- The cells k of the first rows and of their masks are written, each from its unshifted bits, and no cell outside of them.
pub record Filled (k rows prev x prev_mask mask : ℕ) (before cells : List ℕ) : Type 0 where
  pub row_is : (i j : ℕ) → i < rows → j < 64 → bit_of 64 (get_or cells (16 * k + i) 0) j ≡ shifted_bit prev x i j
  pub mask_is : (i j : ℕ) → i < rows → j < 64 → bit_of 64 (get_or cells (16 * k + 8 + i) 0) j ≡ shifted_bit prev_mask mask i j
  pub size : length cells ≡ length before
  pub front : (y : ℕ) → y < 16 * k → get_or cells y 0 ≡ get_or before y 0
  pub rest : (y : ℕ) → 16 * k + 16 ≤ y → get_or cells y 0 ≡ get_or before y 0

-- the first cell of row i, laid on eight bytes of the text, agrees
abbrev pub first_fits : ℕ → List ℕ → ℕ → Bool
first_fits bytes cells i = eqb (bit_and bytes (get_or cells (8 + i) 0)) (get_or cells i 0)

-- no number from a on and before b passes a test
abbrev pub NonePass : (ℕ → Bool) → ℕ → ℕ → Type 0
NonePass f a b = (i : ℕ) → a ≤ i → i < b → f i ≡ false

-- r is the first number from a on that does
pub record IsFirst (f : ℕ → Bool) (a r : ℕ) : Type 0 where
  pub from : a ≤ r
  pub passes : f r ≡ true
  pub none_sooner : NonePass f a r

-- Each cell has 64 bits, as its type says. A caller whose cells lie in a struct knows it only by what it calls.
abbrev pub Small : List ℕ → Type 0
Small cells = (x : ℕ) → get_or cells x 0 < 2 ^ 64
