-- Laws of the table made eight window bits at a time: the bits that enter, the cells made of them, and the table as it is
-- filled.
-- Assumes nothing.
use mathlib.Core.Path.{◌≡◌, refl, sym, ap, ap₂, ◌∙◌}
use mathlib.Core.Logic.{◌⊎◌, inl, inr}
use mathlib.Core.List.{List}
use Prim.Native.Nat.{ℕ, zero, suc, ◌+◌, ◌-◌, ◌*◌, ◌/◌, ◌%◌, ◌^◌, ◌≤◌, ◌<◌, max}
use native.Mathlib.Nat.{div-one, pow-suc}
use native.Mathlib.Decide.{dec_le}
use native.Mathlib.Omega.{arith}
use lib.Dec.{leb}
use lib.Bits.{bit_or, or_lt}
use lib.ListN.{length, get_or, set, length-set}
use lib.Pow.{shr_le}
use lib.Seq.{get_or-set_same, get_or-set_other, drop-set-lt}
use borrow.Author.Tests.{le-leb, lt-leb}
use Rattle.bits.specs.Packed.{bit_at, bit_of, weight}
use Rattle.bits.proofs.Weight.{bit_or_bit, weight_out, weight_shr, weight_shl, weight_shl_low, weight_mod, weight_ones, weight_or}
use Rattle.bits.proofs.Loads.{bit_in_byte}
use Rattle.rules.specs.Pattern.{Pattern, agrees}
use Rattle.rules.proofs.Ranges.{eq_or_below}
use Rattle.rules.proofs.Pattern.{agrees_one, agrees_zero}
use Rattle.matcher.specs.Tables.{passes}
use Rattle.wide.specs.Flags.{Enters, Entered, moved}
use Rattle.matcher.proofs.SingleBits.{half_weight}
use Rattle.wide.proofs.WideTables.{bit_for, passes_high, passes_first, passes_along, Flags, Before, before_next, Filled}

-- The bits that enter

-- of the eight window bits from q on, those from m on are set in y, and no other
record Padding (m q y : ℕ) : Type 0 where
  pub small : y < 2 ^ 8
  pub bits : (j : ℕ) → j < 8 → bit_of 8 y j ≡ bit_for (leb m (q + j))

padding_some : (m q : ℕ) → q ≤ m → Padding m q (255 / 2 ^ (m - q))
padding_some m q h = record { small = omega (arith, shr_le 255 (m - q)); bits = λ j l. weight_shr 255 (m - q) (7 - j) ∙ go j l (dec_le m (q + j)) }
  where
    go : (j : ℕ) → j < 8 → Dec (m ≤ q + j) → weight 255 (m - q + (7 - j)) ≡ bit_for (leb m (q + j))
    go j l (yes u) = weight_ones 8 (m - q + (7 - j)) (omega arith) ∙ sym (ap bit_for (le-leb _ _ u))
    go j l (no u) = weight_out {x = 255} {w = 8} {i = m - q + (7 - j)} (omega arith) (omega arith) ∙ sym (ap bit_for (lt-leb m (q + j) (omega arith)))

-- the bits of what is left of ones
weight_not : (k x i : ℕ) → x < 2 ^ k → i < k → weight (2 ^ k - 1 - x) i ≡ 1 - weight x i
weight_not zero x i h l = absurd (omega arith)
weight_not (suc k) x zero h l =
    let two : 2 ^ suc k ≡ 2 ^ k * 2 = pow-suc 2 k in
    ap (λ (y : ℕ). y % 2) (div-one (2 ^ suc k - 1 - x)) ∙ last (2 ^ suc k) (2 ^ k) two h ∙ ap (λ (y : ℕ). 1 - y % 2) (sym (div-one x))
  where
    last : (p r : ℕ) → p ≡ r * 2 → x < p → (p - 1 - x) % 2 ≡ 1 - x % 2
    last p r e u = omega arith
weight_not (suc k) x (suc i) h l =
    let two : 2 ^ suc k ≡ 2 ^ k * 2 = pow-suc 2 k in
    half_weight (2 ^ suc k - 1 - x) i
    ∙ ap (λ (y : ℕ). weight y i) (half (2 ^ suc k) (2 ^ k) two h)
    ∙ weight_not k (x / 2) i (omega arith) (omega arith)
    ∙ ap (λ (y : ℕ). 1 - y) (sym (half_weight x i))
  where
    half : (p r : ℕ) → p ≡ r * 2 → x < p → (p - 1 - x) / 2 ≡ r - 1 - x / 2
    half p r e u = omega arith

-- Of the eight window bits from q on, those at wild bits of the pattern and those from m on are set in y, and no other.
pub record Free (w : Pattern) (q y : ℕ) : Type 0 where
  pub small : y < 2 ^ 8
  pub inside : (j : ℕ) → j < 8 → q + j < w.count → bit_of 8 y j ≡ 1 - bit_at w.fixed (q + j)
  pub past : (j : ℕ) → j < 8 → w.count ≤ q + j → bit_of 8 y j ≡ 1

-- a byte of either run from q on
byte_bits : (run : List ℕ) (q k j : ℕ) → q % 8 ≡ 0 → k ≡ q / 8 → j < 8 → bit_of 8 (get_or run k 0) j ≡ bit_at run (q + j)
byte_bits run q k j whole held l =
    let there : k * 8 ≡ q = omega arith in
    sym (ap (λ (n : ℕ). bit_at run (n + j)) (sym there) ∙ bit_in_byte run k l)

module _ (w : Pattern) (q k : ℕ) (whole : q % 8 ≡ 0) (held : k ≡ q / 8) (small : get_or w.fixed k 0 < 256) where
  wild_bit : (j : ℕ) → j < 8 → bit_of 8 (255 - get_or w.fixed k 0) j ≡ 1 - bit_at w.fixed (q + j)
  wild_bit j l =
      weight_not 8 (get_or w.fixed k 0) (7 - j) small (omega arith)
      ∙ ap (λ (y : ℕ). 1 - y) (byte_bits w.fixed q k j whole held l)

  pub free_none : q + 8 ≤ w.count → Free w q (255 - get_or w.fixed k 0)
  free_none h = record { small = omega arith; inside = λ j l u. wild_bit j l; past = λ j l u. absurd (omega arith) }

  pub free_some : q ≤ w.count → Free w q (bit_or (255 - get_or w.fixed k 0) (255 / 2 ^ (w.count - q)))
  free_some h =
      let pad = padding_some w.count q h in
      record {
        small = or_lt 8 (255 - get_or w.fixed k 0) (255 / 2 ^ (w.count - q)) (omega arith) pad.small;
        inside = λ j l u.
            weight_or (255 - get_or w.fixed k 0) (255 / 2 ^ (w.count - q)) (7 - j)
            ∙ ap₂ max (wild_bit j l) (pad.bits j l ∙ ap bit_for (lt-leb w.count (q + j) u))
            ∙ omega arith;
        past = λ j l u.
            weight_or (255 - get_or w.fixed k 0) (255 / 2 ^ (w.count - q)) (7 - j)
            ∙ ap₂ max (wild_bit j l) (pad.bits j l ∙ ap bit_for (le-leb _ _ u))
            ∙ omega arith;
      }

module _ (w : Pattern) where
  -- bits of the pattern that agree with c, its wild bits, and after the pattern ones
  enters_free : (c q v free : ℕ) → v < 2 ^ 8 → Free w q free
      → ((j : ℕ) → j < 8 → q + j < w.count → max (bit_of 8 v j) (1 - bit_at w.fixed (q + j)) ≡ bit_for (agrees w (q + j) c))
      → Enters w c q (bit_or v free)
  enters_free c q v free h p f = record { small = or_lt 8 v free h p.small; flags = λ j l. weight_or v free (7 - j) ∙ go j l (dec_le w.count (q + j)) }
    where
      high : (x : ℕ) → x < 2 → max x 1 ≡ 1
      high x l = omega arith

      go : (j : ℕ) → j < 8 → Dec (w.count ≤ q + j) → max (bit_of 8 v j) (bit_of 8 free j) ≡ bit_for (passes w c (q + j) 0)
      go j l (yes u) =
          ap (max (bit_of 8 v j)) (p.past j l u)
          ∙ high (bit_of 8 v j) (omega arith)
          ∙ sym (ap bit_for (passes_high w c (q + j) 0 (omega arith)))
      go j l (no u) =
          ap (max (bit_of 8 v j)) (p.inside j l (omega arith))
          ∙ f j l (omega arith)
          ∙ sym (ap bit_for (passes_first w c (q + j) (omega arith)))

  -- the pattern's byte from q on, byte number k, its wild bits and what lies after the pattern
  module _ (q free : ℕ) (p : Free w q free) (whole : q % 8 ≡ 0) (k : ℕ) (held : k ≡ q / 8) (small : get_or w.bytes k 0 < 256) where
    pub enters_one : Enters w 1 q (bit_or (get_or w.bytes k 0) free)
    enters_one =
        enters_free 1 q (get_or w.bytes k 0) free small p
        (λ j l u. ap (λ (y : ℕ). max y (1 - bit_at w.fixed (q + j))) (byte_bits w.bytes q k j whole held l) ∙ sym (agrees_one w (q + j)))

    pub enters_zero : Enters w 0 q (bit_or (255 - get_or w.bytes k 0) free)
    enters_zero =
        enters_free 0 q (255 - get_or w.bytes k 0) free (omega arith) p
        (λ j l u.
        ap (λ (y : ℕ). max y (1 - bit_at w.fixed (q + j)))
        (weight_not 8 (get_or w.bytes k 0) (7 - j) small (omega arith) ∙ ap (λ (y : ℕ). 1 - y) (byte_bits w.bytes q k j whole held l))
        ∙ sym (agrees_zero w (q + j)))

  -- after the pattern all are ones
  pub enters_past : (c q : ℕ) → w.count ≤ q → Enters w c q 255
  enters_past c q h =
      record { small = omega arith; flags = λ j l. weight_ones 8 (7 - j) (omega arith) ∙ sym (ap bit_for (passes_high w c (q + j) 0 (omega arith))) }

  -- The flags of each of the eight bits

  module _ (c q x y : ℕ) (b : Before w c q x) (e : Enters w c q y) where
    low_flag : (r i : ℕ) → r < 8 → i ≤ r → weight (y / 2 ^ (7 - r)) i ≡ bit_for (passes w c (q + r) i)
    low_flag r i l u =
        let there : 7 - r + i ≡ 7 - (r - i) = omega arith in
        let bit : q + (r - i) + i ≡ q + r = omega arith in
        let flag : 0 + i ≡ i = omega arith in
        weight_shr y (7 - r) i
        ∙ ap (weight y) there
        ∙ e.flags (r - i) (omega arith)
        ∙ ap bit_for (sym (passes_along w c (q + (r - i)) 0 i) ∙ ap₂ (passes w c) bit flag)

    high_flag : (r j : ℕ) → j < 64 → weight x j ≡ bit_for (passes w c (q + r) (r + 1 + j))
    high_flag r j l =
        let flag : suc j + r ≡ r + 1 + j = omega arith in
        b j l ∙ ap bit_for (sym (passes_along w c q (suc j) r) ∙ ap (passes w c (q + r)) flag)

    pub flags_moved : (r : ℕ) → r < 8 → Flags w c (q + r) (moved x y r)
    flags_moved r l i u = weight_or up down i ∙ go (dec_le i r)
      where
        up : ℕ
        up = (x * 2 ^ (r + 1)) % 2 ^ 64

        down : ℕ
        down = y / 2 ^ (7 - r)

        zero_max : (v : ℕ) → max 0 v ≡ v
        zero_max v = omega arith

        max_zero : (v : ℕ) → max v 0 ≡ v
        max_zero v = omega arith

        go : Dec (i ≤ r) → max (weight up i) (weight down i) ≡ bit_for (passes w c (q + r) i)
        go (yes h) =
            ap₂ max (weight_mod (x * 2 ^ (r + 1)) {w = 64} {i = i} u ∙ weight_shl_low x {s = r + 1} {i = i} (omega arith)) (low_flag r i l h)
            ∙ zero_max _
        go (no h) =
            let there : i ≡ r + 1 + (i - (r + 1)) = omega arith in
            ap₂ max
            (weight_mod (x * 2 ^ (r + 1)) {w = 64} {i = i} u
            ∙ ap (weight (x * 2 ^ (r + 1))) there
            ∙ weight_shl x (r + 1) (i - (r + 1))
            ∙ high_flag r (i - (r + 1)) (omega arith)
            ∙ ap (λ (n : ℕ). bit_for (passes w c (q + r) n)) (sym there))
            (weight_shr y (7 - r) i ∙ weight_out {x = y} {w = 8} {i = 7 - r + i} e.small (omega arith))
            ∙ max_zero _

    -- the flags after all eight
    pub before_moved : Before w c (q + 8) (bit_or ((x * 256) % 2 ^ 64) y)
    before_moved =
        let there : q + 7 + 1 ≡ q + 8 = omega arith in
        rw (← there) (rw (div-one y) at (before_next w c (q + 7) (moved x y 7) (flags_moved 7 (omega arith))))

-- The cells

pub entered_none : (cells : List ℕ) (q z o y x : ℕ) → Entered cells cells q 0 z o y x
entered_none cells q z o y x =
    record { zeros = λ r l. absurd (omega arith); ones = λ r l. absurd (omega arith); below = λ i l. refl; after = λ i l. refl; size = refl }

module _ (before cells : List ℕ) (q k z o y x : ℕ) (f : Entered before cells q k z o y x) (room : 2 * (q + k) + 2 ≤ length before) where
  abbrev first : List ℕ
  first = set cells (2 * q + 2 * k) (moved z y k)

  abbrev made : List ℕ
  made = set first (2 * q + 2 * k + 1) (moved o x k)

  others : (i : ℕ) → i < 2 * q + 2 * k → get_or made i 0 ≡ get_or cells i 0
  others i l =
      get_or-set_other first (2 * q + 2 * k + 1) i (moved o x k) 0 (λ e. omega arith)
      ∙ get_or-set_other cells (2 * q + 2 * k) i (moved z y k) 0 (λ e. omega arith)

  at_zero : (r : ℕ) → (r ≡ k) ⊎ (r < k) → get_or made (2 * (q + r)) 0 ≡ moved z y r
  at_zero r (inr l) = others (2 * (q + r)) (omega arith) ∙ f.zeros r l
  at_zero r (inl e) =
      let there : 2 * (q + r) ≡ 2 * q + 2 * k = omega arith in
      ap (λ (n : ℕ). get_or made n 0) there
      ∙ get_or-set_other first (2 * q + 2 * k + 1) (2 * q + 2 * k) (moved o x k) 0 (λ e. omega arith)
      ∙ get_or-set_same cells (2 * q + 2 * k) (moved z y k) 0 (omega (arith, f.size))
      ∙ ap (moved z y) (sym e)

  at_one : (r : ℕ) → (r ≡ k) ⊎ (r < k) → get_or made (2 * (q + r) + 1) 0 ≡ moved o x r
  at_one r (inr l) = others (2 * (q + r) + 1) (omega arith) ∙ f.ones r l
  at_one r (inl e) =
      let there : 2 * (q + r) + 1 ≡ 2 * q + 2 * k + 1 = omega arith in
      ap (λ (n : ℕ). get_or made n 0) there
      ∙ get_or-set_same first (2 * q + 2 * k + 1) (moved o x k) 0 (omega (arith, f.size, length-set cells (2 * q + 2 * k) (moved z y k)))
      ∙ ap (moved o x) (sym e)

  pub entered_more : Entered before (set (set cells (2 * q + 2 * k) (moved z y k)) (2 * q + 2 * k + 1) (moved o x k)) q (k + 1) z o y x
  entered_more =
      record {
        zeros = λ r l. at_zero r (eq_or_below (omega arith));
        ones = λ r l. at_one r (eq_or_below (omega arith));
        below = λ i l. others i (omega arith) ∙ f.below i l;
        after = λ i l.
            drop-set-lt i first (2 * q + 2 * k + 1) (moved o x k) (omega arith)
            ∙ drop-set-lt i cells (2 * q + 2 * k) (moved z y k) (omega arith)
            ∙ f.after i (omega arith);
        size = length-set first (2 * q + 2 * k + 1) (moved o x k) ∙ length-set cells (2 * q + 2 * k) (moved z y k) ∙ f.size;
      }

-- The table, k window bits further on

module _ (w : Pattern) (before cells next : List ℕ) (q k z o y x : ℕ) (f : Filled w before cells q) (n : Entered cells next q k z o y x)
    (few : k ≤ 8) (inside : q + k ≤ 63 + w.count) (bz : Before w 0 q z) (bo : Before w 1 q o) (ez : Enters w 0 q y) (eo : Enters w 1 q x) where
  flag_made : (p c i : ℕ) → p < q + k → c < 2 → i < 64 → Dec (q ≤ p) → (c ≡ 0) ⊎ (c ≡ 1)
      → weight (get_or next (2 * p + c) 0) i ≡ bit_for (passes w c p i)
  flag_made p c i l u h (no a) d = ap (λ (v : ℕ). weight v i) (n.below (2 * p + c) (omega arith)) ∙ f.flags p c i (omega arith) u h
  flag_made p c i l u h (yes a) (inl d) =
      let there : 2 * p + c ≡ 2 * (q + (p - q)) = omega arith in
      let bit : q + (p - q) ≡ p = omega arith in
      ap (λ (v : ℕ). weight v i) (ap (λ (m : ℕ). get_or next m 0) there ∙ n.zeros (p - q) (omega arith))
      ∙ flags_moved w 0 q z y bz ez (p - q) (omega arith) i h
      ∙ ap₂ (λ (a b : ℕ). bit_for (passes w a b i)) (sym d) bit
  flag_made p c i l u h (yes a) (inr d) =
      let there : 2 * p + c ≡ 2 * (q + (p - q)) + 1 = omega arith in
      let bit : q + (p - q) ≡ p = omega arith in
      ap (λ (v : ℕ). weight v i) (ap (λ (m : ℕ). get_or next m 0) there ∙ n.ones (p - q) (omega arith))
      ∙ flags_moved w 1 q o x bo eo (p - q) (omega arith) i h
      ∙ ap₂ (λ (a b : ℕ). bit_for (passes w a b i)) (sym d) bit

  pub filled_more : Filled w before next (q + k)
  filled_more =
      record {
        flags = λ p c i l u h. flag_made p c i l u h (dec_le q p) (bit_or_bit c u);
        size = n.size ∙ f.size;
        after = n.after (2 * (63 + w.count)) (omega arith) ∙ f.after;
      }
