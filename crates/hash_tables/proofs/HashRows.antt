-- The table in rows of 16 cells: how the moves of a row are entered, then those of all rows, until each cell has its own.
-- Assumes nothing.
use Prim.Native.Nat.{ℕ, ◌+◌, ◌-◌, ◌*◌, ◌/◌, ◌%◌, ◌^◌, ◌≤◌, ◌<◌}
use mathlib.Core.Path.{◌≡◌, refl, sym, ap, ◌∙◌}
use mathlib.Core.Logic.{◌⊎◌, inl, inr}
use mathlib.Core.Bool.{true≢false}
use mathlib.Core.List.{List, ◌++◌}
use native.Mathlib.Decide.{dec_le, ℕ_discrete}
use native.Mathlib.Omega.{arith}
use lib.Bits.{bit_and, bit_or, bit_xor, and_le_l, and_le_r, or_add_and}
use lib.Count.{count_trailing_zeros}
use lib.ListN.{length, get_or, set, take, drop, replicate, length-set, length-drop, length-replicate, get_or-append, get_or-replicate}
use lib.Seq.{get_or-set_same, get_or-set_other, get_or-take, get_or-drop, get_or-append-add, length-take-le}
use borrow.Rule.Slice.PartMut.{put_mid, post_of, same_len_mid}
use Rattle.std.proofs.lemmas.Slice.{drop-put_mid}
use Rattle.bits.specs.Packed.{weight}
use Rattle.bits.proofs.Weight.{weight_lt, bit_or_bit, weight_zero, weight_ones}
use Rattle.rules.specs.declared.Method.TheVariants.{Hash}
use Rattle.rules.specs.Pattern.{Pattern}
use Rattle.rules.specs.Hash.{hash_again}
use Rattle.matcher.specs.Tables.{Prepared}
use Rattle.matcher.specs.Lined.{Lined, Words, Only}
use Rattle.hash_tables.specs.HashWords.{NoneTo, Row, Part, Settled, AllEntered, RowMade, RowsMade, AllUnset}
use Rattle.rules.proofs.Ranges.{eq_or_below}
use Rattle.rules.proofs.Hash.{meets_all}
use Rattle.matcher.proofs.SingleBits.{turn_off, turn_other}
use Rattle.matcher.proofs.LinedCells.{only_rest, words_same}
use Rattle.hash_tables.proofs.HashWords.{moves_none, moves_some}

-- Cells filled with one value

module _ (cells : List ℕ) (from k v : ℕ) (room : from + k ≤ length cells) where
  abbrev filled : List ℕ
  filled = put_mid from k cells (replicate k v)

  front : length (take from cells) ≡ from
  front = length-take-le from cells (omega arith)

  size : length (replicate k v) ≡ k
  size = length-replicate k v

  pub filled_at : (i : ℕ) → i < k → get_or (put_mid from k cells (replicate k v)) (from + i) 0 ≡ v
  filled_at i l =
      ap (λ (n : ℕ). get_or filled (n + i) 0) (sym front)
      ∙ get_or-append-add (take from cells) (replicate k v ++ post_of from k cells) i 0
      ∙ get_or-append (replicate k v) (post_of from k cells) 0 i (omega (arith, size))
      ∙ get_or-replicate k i v 0 l

  pub filled_only : Only from (from + k) cells (put_mid from k cells (replicate k v))
  filled_only =
      record {
        size = same_len_mid from k cells (replicate k v) (size ∙ sym (length-take-le k (drop from cells) (omega (arith, length-drop from cells))));
        low = λ i l. get_or-append (take from cells) (replicate k v ++ post_of from k cells) 0 i (omega (arith, front)) ∙ get_or-take from cells i 0 l;
        high = λ i l.
            let there : from + k + (i - (from + k)) ≡ i = omega arith in
            let after : get_or filled (from + k + (i - (from + k))) 0 ≡ get_or cells (from + k + (i - (from + k))) 0
            = sym (get_or-drop (from + k) filled (i - (from + k)) 0)
            ∙ ap (λ (r : List ℕ). get_or r (i - (from + k)) 0) (drop-put_mid from k cells (replicate k v) (from + k) (omega arith) (omega arith) size)
            ∙ get_or-drop (from + k) cells (i - (from + k)) 0 in
            rw there at after;
      }

-- A row

-- a row depends on its own cells alone
pub row_same : {w : Pattern} {d high unset unset' : ℕ} {cells cells' : List ℕ} → Row w d high unset cells → unset' ≡ unset
    → ((i : ℕ) → 16 * high ≤ i → i < 16 * high + 16 → get_or cells' i 0 ≡ get_or cells i 0) → Row w d high unset' cells'
row_same {w} {d} {high} {unset} {unset'} {cells} {cells'} r e same =
    rw e
    (record {
      entered = λ low l z. same (16 * high + low) (omega arith) (omega arith) ∙ r.entered low l z;
      waits = r.waits;
    })

pub part_none : {w : Pattern} {d high unset : ℕ} {cells : List ℕ} → Row w d high unset cells → Part w d high 0 unset cells
part_none r = record { row = r; passed = λ low l h. absurd (omega arith) }

pub part_all : {w : Pattern} {d high next unset : ℕ} {cells : List ℕ} → Part w d high next unset cells → next ≡ 16 → Row w (d + 57) high unset cells
part_all r e = record { entered = r.row.entered; waits = λ low l h. r.passed low (omega arith) h }

-- the word of the moves of a cell
abbrev pub moves_of : List ℕ → ℕ → ℕ → ℕ
moves_of cells high low = bit_and (get_or cells (262 + low) 0) (get_or cells (262 + high) 0 / 2 ^ 4)

module _ (w : Pattern) (long : 1 ≤ w.count) (d : ℕ) (before : List ℕ) (words : Words w (d + 1) 4 262 before) (high : ℕ) (inside : high < 16) where
  module _ (low : ℕ) (l : low < 16) where
    last_four : Lined w (d + 1) 4 ((16 * high + low) % 16) (get_or before (262 + low) 0)
    last_four = let is : (16 * high + low) % 16 ≡ low = omega arith in rw is (words low l)

    first_four : Lined w (d + 1) 4 ((16 * high + low) / 16) (get_or before (262 + high) 0)
    first_four = let is : (16 * high + low) / 16 ≡ high = omega arith in rw is (words high inside)

    row_none : ((e : ℕ) → weight (moves_of before high low) e ≡ 0) → NoneTo w (16 * high + low) d → NoneTo w (16 * high + low) (d + 57)
    row_none = moves_none w d (16 * high + low) (get_or before (262 + low) 0) (get_or before (262 + high) 0) last_four first_four

    row_some : moves_of before high low < 2 ^ 64 → (moves_of before high low ≡ 0 → ⊥) → NoneTo w (16 * high + low) d
        → d + 1 + count_trailing_zeros 64 (moves_of before high low) ≡ hash_again w (16 * high + low)
    row_some small some none =
        moves_some w d (16 * high + low) (get_or before (262 + low) 0) (get_or before (262 + high) 0) last_four first_four small some long none

  -- more cells of the row that have no move among these
  pub part_pass : {next unset : ℕ} {cells : List ℕ} (more : ℕ) → more ≤ 16 → Part w d high next unset cells
      → ((low : ℕ) → next ≤ low → low < more → weight unset low ≡ 1 → (e : ℕ) → weight (moves_of before high low) e ≡ 0)
      → Part w d high more unset cells
  part_pass {next} {unset} more few r none = record { row = r.row; passed = λ low l h. go low l h (dec_le next low) }
    where
      go : (low : ℕ) → low < more → weight unset low ≡ 1 → Dec (next ≤ low) → NoneTo w (16 * high + low) (d + 57)
      go low l h (yes g) = row_none low (omega arith) (none low g l h) (r.row.waits low (omega arith) h)
      go low l h (no g) = r.passed low (omega arith) h

  -- one that has
  pub part_set : {low unset : ℕ} {cells : List ℕ} → low < 16 → Part w d high low unset cells → weight unset low ≡ 1
      → moves_of before high low < 2 ^ 64 → (moves_of before high low ≡ 0 → ⊥) → 16 * high + low < length cells
      → Part w d high (low + 1) (bit_xor unset ((1 * 2 ^ low) % 2 ^ 64)) (set cells (16 * high + low) (d + 1 + count_trailing_zeros 64 (moves_of before high low)))
  part_set {low} {unset} {cells} inside r one small ne room =
      record {
        row = record { entered = λ i l h. enters i l h (ℕ_discrete i low); waits = λ i l h. r.row.waits i l (before_turn i 1 h (lit i h)) };
        passed = λ i l h. r.passed i (below i l (lit i h)) (before_turn i 1 h (lit i h));
      }
    where
      low64 : low < 64
      low64 = omega arith

      move : ℕ
      move = d + 1 + count_trailing_zeros 64 (moves_of before high low)

      before_turn : (i b : ℕ) → weight (bit_xor unset ((1 * 2 ^ low) % 2 ^ 64)) i ≡ b → (i ≡ low → ⊥) → weight unset i ≡ b
      before_turn i b h n = sym (turn_other unset low low64 i n) ∙ h

      lit : (i : ℕ) → weight (bit_xor unset ((1 * 2 ^ low) % 2 ^ 64)) i ≡ 1 → i ≡ low → ⊥
      lit i h e =
          absurd (omega (arith, sym h ∙ ap (weight (bit_xor unset ((1 * 2 ^ low) % 2 ^ 64))) e ∙ turn_off unset low low64 one))

      below : (i : ℕ) → i < low + 1 → (i ≡ low → ⊥) → i < low
      below i l n = omega (arith, n)

      enters : (i : ℕ) → i < 16 → weight (bit_xor unset ((1 * 2 ^ low) % 2 ^ 64)) i ≡ 0 → Dec (i ≡ low)
          → get_or (set cells (16 * high + low) move) (16 * high + i) 0 ≡ hash_again w (16 * high + i)
      enters i l h (yes e) =
          rw e (get_or-set_same cells (16 * high + low) move 0 room ∙ row_some low inside small ne (r.row.waits low inside one))
      enters i l h (no n) =
          get_or-set_other cells (16 * high + low) (16 * high + i) move 0 (λ e. n (omega arith)) ∙ r.row.entered i l (before_turn i 0 h n)

-- All rows

-- The rows below `high` have the 57 moves after d, and `rest` is 0 only where each of their cells has its move. What the others
-- need is as it was.
pub record Rows (d : ℕ) (before cells : List ℕ) (high rest : ℕ) : Type 0 where
  pub size : length cells ≡ length before
  pub later : (i : ℕ) → 16 * high ≤ i → (i < 342) ⊎ (342 + high ≤ i) → get_or cells i 0 ≡ get_or before i 0
  pub all : rest ≡ 0 → (h : ℕ) → h < high → get_or cells (342 + h) 0 ≡ 0
  pub rows : (w : Pattern) → 1 ≤ w.count → Words w (d + 1) 4 262 before → Settled w d before
      → (h : ℕ) → h < high → Row w (d + 57) h (get_or cells (342 + h) 0) cells

pub rows_none : (d : ℕ) (cells : List ℕ) → Rows d cells cells 0 0
rows_none d cells =
    record {
      size = refl;
      later = λ i l s. refl;
      all = λ e h l. absurd (omega arith);
      rows = λ w long words s h l. absurd (omega arith);
    }

both_zero : (a b : ℕ) → bit_or a b ≡ 0 → (a ≡ 0) × (b ≡ 0)
both_zero a b e = (omega (arith, or_add_and a b, and_le_r a b), omega (arith, or_add_and a b, and_le_l a b))

module _ (d : ℕ) (before cells : List ℕ) (high rest : ℕ) (r : Rows d before cells high rest) (inside : high < 16) where
  -- the next row
  pub rows_more : (kept : ℕ) (made : List ℕ) → RowMade d high (get_or cells (342 + high) 0) cells kept made → 512 ≤ length before
      → Rows d before (set made (342 + high) kept) (high + 1) (bit_or rest kept)
  rows_more kept made u room =
      record {
        size = length-set made (342 + high) kept ∙ u.only.size ∙ r.size;
        later = later;
        all = all;
        rows = rows;
      }
    where
      at_row : get_or (set made (342 + high) kept) (342 + high) 0 ≡ kept
      at_row = get_or-set_same made (342 + high) kept 0 (omega (arith, u.only.size, r.size))

      elsewhere : (i : ℕ) → (i ≡ 342 + high → ⊥) → (i < 16 * high) ⊎ (16 * high + 16 ≤ i) → get_or (set made (342 + high) kept) i 0 ≡ get_or cells i 0
      elsewhere i n (inl l) = get_or-set_other made (342 + high) i kept 0 n ∙ u.only.low i l
      elsewhere i n (inr l) = get_or-set_other made (342 + high) i kept 0 n ∙ u.only.high i l

      later : (i : ℕ) → 16 * (high + 1) ≤ i → (i < 342) ⊎ (342 + (high + 1) ≤ i) → get_or (set made (342 + high) kept) i 0 ≡ get_or before i 0
      later i l (inl s) = elsewhere i (λ e. absurd (omega arith)) (inr (omega arith)) ∙ r.later i (omega arith) (inl s)
      later i l (inr s) = elsewhere i (λ e. absurd (omega arith)) (inr (omega arith)) ∙ r.later i (omega arith) (inr (omega arith))

      word : (h : ℕ) → h < high → get_or (set made (342 + high) kept) (342 + h) 0 ≡ get_or cells (342 + h) 0
      word h l = elsewhere (342 + h) (λ e. absurd (omega arith)) (inr (omega arith))

      all : bit_or rest kept ≡ 0 → (h : ℕ) → h < high + 1 → get_or (set made (342 + high) kept) (342 + h) 0 ≡ 0
      all e h l = go (eq_or_below (omega arith))
        where
          go : (h ≡ high) ⊎ (h < high) → get_or (set made (342 + high) kept) (342 + h) 0 ≡ 0
          go (inl q) = rw q (at_row ∙ (both_zero rest kept e).1)
          go (inr q) = word h q ∙ r.all (both_zero rest kept e).0 h q

      rows : (w : Pattern) → 1 ≤ w.count → Words w (d + 1) 4 262 before → Settled w d before
          → (h : ℕ) → h < high + 1 → Row w (d + 57) h (get_or (set made (342 + high) kept) (342 + h) 0) (set made (342 + high) kept)
      rows w long words s h l = go (eq_or_below (omega arith))
        where
          words_now : Words w (d + 1) 4 262 cells
          words_now = words_same w (d + 1) 4 262 before cells words (λ i g k. r.later i (omega arith) (inl (omega arith)))

          row_now : Row w d high (get_or cells (342 + high) 0) cells
          row_now = row_same (s high inside) (r.later (342 + high) (omega arith) (inr (omega arith))) (λ i g k. r.later i g (inl (omega arith)))

          go : (h ≡ high) ⊎ (h < high) → Row w (d + 57) h (get_or (set made (342 + high) kept) (342 + h) 0) (set made (342 + high) kept)
          go (inl q) =
              rw q
              (row_same (u.row w long words_now row_now) at_row
              (λ i g k. get_or-set_other made (342 + high) i kept 0 (λ e. absurd (omega arith))))
          go (inr q) =
              row_same (r.rows w long words s h q) (word h q)
              (λ i g k. elsewhere i (λ e. absurd (omega arith)) (inl (omega arith)))

pub rows_all : (d : ℕ) (before cells : List ℕ) (high rest : ℕ) → Rows d before cells high rest → high ≡ 16 → RowsMade d before rest cells
rows_all d before cells high rest r e =
    record {
      settled = λ w long words s h l. r.rows w long words s h (omega arith);
      all = λ z h l. r.all z h (omega arith);
      only = record { size = r.size; low = λ i l. absurd (omega arith); high = λ i l. r.later i (omega arith) (inr (omega arith)) };
    }

-- All moves

-- at the start no cell has its move
pub settled_none : (w : Pattern) (before cells : List ℕ) → AllUnset before cells → Settled w 0 cells
settled_none w before cells u high l =
    rw (u.unset high l)
    (record {
      entered = λ low g z. absurd (omega (arith, sym z ∙ weight_ones 16 low g));
      waits = λ low g o e a b. absurd (omega arith);
    })

-- cells from 256 on and before 342 play no part
pub settled_same : (w : Pattern) (d : ℕ) (before cells : List ℕ) → Settled w d before → Only 256 342 before cells → Settled w d cells
settled_same w d before cells s u high l =
    row_same (s high l) (u.high (342 + high) (omega arith)) (λ i g k. u.low i (omega arith))

-- once all moves are tried, or no cell is without one, the table is made
pub settled_all : (w : Pattern) (d : ℕ) (before cells : List ℕ) → 1 ≤ w.count → Settled w d cells → (w.count ≤ d) ⊎ AllEntered cells
    → Only 0 358 before cells → Prepared Hash w before cells
settled_all w d before cells long s end only =
    record {
      tables = record { move_is = move_is };
      size = only.size;
      rest = only_rest 512 only (omega arith);
    }
  where
    closed : (high low : ℕ) → (h : high < 16) → (l : low < 16) → weight (get_or cells (342 + high) 0) low ≡ 0
    closed high low h l = go end (bit_or_bit (weight (get_or cells (342 + high) 0) low) (weight_lt (get_or cells (342 + high) 0) low))
      where
        go : (w.count ≤ d) ⊎ AllEntered cells → (weight (get_or cells (342 + high) 0) low ≡ 0) ⊎ (weight (get_or cells (342 + high) 0) low ≡ 1)
            → weight (get_or cells (342 + high) 0) low ≡ 0
        go e (inl z) = z
        go (inl m) (inr o) =
            absurd (true≢false (sym (meets_all w (16 * high + low)) ∙ (s high h).waits low l o w.count long m))
        go (inr a) (inr o) = ap (λ (x : ℕ). weight x low) (a high h) ∙ weight_zero low

    move_is : (B : ℕ) → B < 256 → get_or cells B 0 ≡ hash_again w B
    move_is B l =
        let parts : 16 * (B / 16) + B % 16 ≡ B = omega arith in
        rw parts at ((s (B / 16) (omega arith)).entered (B % 16) (omega arith) (closed (B / 16) (B % 16) (omega arith) (omega arith)))
