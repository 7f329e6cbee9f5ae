-- Laws of the wide method's table: what a flag of a cell is, that flags move up with the window bits, and the table as it is
-- filled.
-- Assumes nothing.
use mathlib.Core.Path.{◌≡◌, refl, sym, ap, ◌∙◌}
use mathlib.Core.Bool.{Bool, true, false, ◌&&◌, cond}
use mathlib.Core.List.{List}
use Prim.Native.Nat.{ℕ, suc, ◌+◌, ◌-◌, ◌*◌, ◌≤◌, ◌<◌}
use native.Mathlib.Decide.{dec_le}
use native.Mathlib.Omega.{arith}
use lib.Dec.{leb, ltb}
use lib.ListN.{length, get_or, drop, get_or-eq_default}
use borrow.Author.Tests.{ltb-true, lt-ltb, leb-true, le-leb}
use Rattle.bits.specs.Packed.{weight}
use Rattle.bits.proofs.Weight.{weight_ones}
use Rattle.rules.specs.Pattern.{Pattern, agrees}
use Rattle.matcher.specs.Tables.{passes, WideTables}
use Rattle.rules.proofs.Ranges.{and_left, and_right, to_implies, same_test}

-- A bit for a test

abbrev pub bit_for : Bool → ℕ
bit_for b = cond b 1 0

pub bit_lit : (b : Bool) → bit_for b ≡ 1 → b ≡ true
bit_lit true e = refl
bit_lit false e = absurd (omega arith)

pub bit_unlit : (b : Bool) → bit_for b ≡ 0 → b ≡ false
bit_unlit true e = absurd (omega arith)
bit_unlit false e = refl

-- A flag of a window bit

module _ (w : Pattern) (c : ℕ) where
  -- where the pattern has index q − i, the flag stands just if the pattern's bit there is c
  pub passes_in : (q i : ℕ) → i ≤ q → q - i < w.count → passes w c q i ≡ agrees w (q - i) c
  unfolding passes
  passes_in q i l u = rw (le-leb _ _ l, lt-ltb _ _ u)

  pub passes_to : (q i : ℕ) → (i ≤ q → q - i < w.count → agrees w (q - i) c ≡ true) → passes w c q i ≡ true
  unfolding passes
  passes_to q i h =
      to_implies (leb i q && ltb (q - i) w.count) (agrees w (q - i) c)
      (λ e. h (leb-true _ _ (and_left (leb i q) (ltb (q - i) w.count) e)) (ltb-true _ _ (and_right (leb i q) (ltb (q - i) w.count) e)))

  -- where it has no such index, it stands
  pub passes_low : (q i : ℕ) → q < i → passes w c q i ≡ true
  passes_low q i h = passes_to q i (λ l u. absurd (omega arith))

  pub passes_high : (q i : ℕ) → w.count ≤ q - i → passes w c q i ≡ true
  passes_high q i h = passes_to q i (λ l u. absurd (omega arith))

  -- flag 0
  pub passes_first : (q : ℕ) → q < w.count → passes w c q 0 ≡ agrees w q c
  passes_first q h = passes_in q 0 (omega arith) (omega arith) ∙ ap (λ (n : ℕ). agrees w n c) (omega arith)

  -- k bits and k flags further on
  pub passes_along : (q i k : ℕ) → passes w c (q + k) (i + k) ≡ passes w c q i
  passes_along q i k =
      let d : q + k - (i + k) ≡ q - i = omega arith in
      same_test _ _
      (λ e. passes_to q i (λ l u.
      ap (λ (n : ℕ). agrees w n c) (sym d) ∙ sym (passes_in (q + k) (i + k) (omega arith) (omega arith)) ∙ e))
      (λ e. passes_to (q + k) (i + k) (λ l u.
      ap (λ (n : ℕ). agrees w n c) d ∙ sym (passes_in q i (omega arith) (omega arith)) ∙ e))

  -- x has the flags of window bit q
  abbrev pub Flags : ℕ → ℕ → Type 0
  Flags q x = (i : ℕ) → i < 64 → weight x i ≡ cond (passes w c q i) 1 0

  -- x has the flags of the window bit before bit q; of that before the first one, which leaves all standing
  abbrev pub Before : ℕ → ℕ → Type 0
  Before q x = (i : ℕ) → i < 64 → weight x i ≡ cond (passes w c q (suc i)) 1 0

  pub before_none : Before 0 18446744073709551615
  before_none i l = weight_ones 64 i l ∙ sym (ap bit_for (passes_low 0 (suc i) (omega arith)))

  pub before_next : (q x : ℕ) → Flags q x → Before (q + 1) x
  before_next q x f i l = f i l ∙ sym (ap bit_for (ap (passes w c (q + 1)) (omega arith) ∙ passes_along q i 1))

-- The table

-- the cells of the window bits below q are made, and the cells after the table are as they were
pub record Filled (w : Pattern) (before cells : List ℕ) (q : ℕ) : Type 0 where
  pub flags : (p c i : ℕ) → p < q → c < 2 → i < 64 → weight (get_or cells (2 * p + c) 0) i ≡ cond (passes w c p i) 1 0
  pub size : length cells ≡ length before
  pub after : drop (2 * (63 + w.count)) cells ≡ drop (2 * (63 + w.count)) before

pub filled_none : (w : Pattern) (before : List ℕ) → Filled w before before 0
filled_none w before = record { flags = λ p c i l. absurd (omega arith); size = refl; after = refl }

-- The last cell is not 0, so the cells are there.
pub tables_long : (w : Pattern) (cells : List ℕ) → WideTables w cells → 2 * (63 + w.count) ≤ length cells
tables_long w cells t = go (dec_le (2 * (63 + w.count)) (length cells))
  where
    last : ℕ
    last = get_or cells (2 * (62 + w.count) + 1) 0

    set_there : weight last 0 ≡ 1
    set_there =
        t.flags_are (62 + w.count) 1 0 (omega arith) (omega arith) (omega arith)
        ∙ ap bit_for (passes_high w 1 (62 + w.count) 0 (omega arith))

    go : Dec (2 * (63 + w.count) ≤ length cells) → 2 * (63 + w.count) ≤ length cells
    go (yes h) = h
    go (no n) =
        let none : last ≡ 0 = get_or-eq_default cells 0 (omega arith) in
        absurd (omega (arith, ap (λ (x : ℕ). weight x 0) none, set_there))
