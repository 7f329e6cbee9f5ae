-- What the parts of the wide method promise each other: eight window bits at a time as they enter the table, the window bits
-- that a scan applies and the flags that they leave, and the move to the next mark.
use Rattle.std.specs.Prelude.{ℕ, ◌+◌, ◌-◌, ◌*◌, ◌/◌, ◌%◌, ◌^◌, ◌≤◌, ◌<◌, min, ◌≡◌, ◌↔◌, Bool, true, ◌&&◌, ◌||◌, cond, List, leb, ltb, eqb, length, get_or, drop}
use Rattle.std.specs.Int.Bits.{bit_or}
use Rattle.std.specs.Int.Count.{ones}
use Rattle.bits.specs.Packed.{Packed, bit_at, bit_of, weight}
use Rattle.rules.specs.Ranges.{implies, every}
use Rattle.rules.specs.Pattern.{Pattern}
use Rattle.rules.specs.Occurrence.{places, matches}
use Rattle.rules.specs.Wide.{window, last_index, beyond}
use Rattle.matcher.specs.Tables.{passes, WideTables}
use Rattle.matcher.specs.Ready.{text_of}

-- window bit q is the first of a byte
abbrev pub StartsByte : ℕ → Type 0
StartsByte q = q % 8 ≡ 0

-- y has flag 0 of each of the eight window bits from q on, being c.
pub record Enters (w : Pattern) (c q y : ℕ) : Type 0 where
  pub small : y < 2 ^ 8
  pub flags : (j : ℕ) → j < 8 → bit_of 8 y j ≡ cond (passes w c (q + j) 0) 1 0

-- The flags x moved up by r + 1, and below them the first r + 1 of the eight bits y.
abbrev pub moved : ℕ → ℕ → ℕ → ℕ
moved x y r = bit_or ((x * 2 ^ (r + 1)) % 2 ^ 64) (y / 2 ^ (7 - r))

-- The cells of k window bits from q on are made of the flags before bit q, one number for each value of a bit, and of the
-- bits that enter. The others are as they were.
pub record Entered (before cells : List ℕ) (q k zero one y x : ℕ) : Type 0 where
  pub zeros : (r : ℕ) → r < k → get_or cells (2 * (q + r)) 0 ≡ moved zero y r
  pub ones : (r : ℕ) → r < k → get_or cells (2 * (q + r) + 1) 0 ≡ moved one x r
  pub below : (i : ℕ) → i < 2 * q → get_or cells i 0 ≡ get_or before i 0
  pub after : (i : ℕ) → 2 * (q + k) ≤ i → drop i cells ≡ drop i before
  pub size : length cells ≡ length before

-- the window bits from a on and before b
abbrev pub within : ℕ → ℕ → ℕ → Bool
within a b q = leb a q && ltb q b

-- those of every second byte of the window from bit `from` on, which is 0 or 8, where the byte lies whole in the window and
-- before bit 80
unfoldable pub second : ℕ → ℕ → ℕ → Bool
second m from q = eqb (q % 16 / 8 * 8) from && (ltb q 80 && leb (q / 8 * 8 + 8) (63 + m))

-- those that a scan applies in its first k rounds ("Scan order is the builder's choice"): for a pattern below 64 bits round 0
-- is every second byte of the window before bit 80, and round 1 the others of these; for a longer one each round is sixteen bits, from bit 56 on
unfoldable pub applied : ℕ → ℕ → ℕ → Bool
applied m k q = cond (ltb m 64) ((ltb 0 k && second m 0 q) || (ltb 1 k && second m 8 q)) (within 56 (56 + 16 * k) q)

-- how many rounds the window has: two, or as many as lie whole in it
abbrev pub rounds : ℕ → ℕ
rounds m = cond (ltb m 64) 2 ((m + 7) / 16)

-- These window bits are applied to the flags f, and r is left: a flag is set in r exactly when it is set in f and, for each of
-- the bits, in the cell that the text's bit chooses.
unfoldable pub Applies : List ℕ → List ℕ → ℕ → (ℕ → Bool) → ℕ → ℕ → Type 0
Applies bytes cells s bits f r =
    (i : ℕ) → (weight r i ≡ 1) ↔ ((weight f i ≡ 1) × ((q : ℕ) → bits q ≡ true → weight (get_or cells (2 * q + bit_at bytes (s + q)) 0) i ≡ 1))

-- Flag i stands after k rounds: it "falls when, for some q" that is applied, "t[s+q] differs from w[q−i]". This is `stands` of
-- the rules for the bits applied alone; a round is made only where all of the window lies before n.
unfoldable pub stands_after : Packed → Pattern → ℕ → ℕ → ℕ → Bool
stands_after t w s k i = every (window w) (λ q. implies (applied w.count k q) (passes w (bit_at t.bytes (s + q)) q i))

-- What a scan at s gives, by so many rounds: none in the last step, where the window reaches the text's end; else at least
-- one, and all of them unless at most one flag is left. For each pattern of m bits whose table this is, flag i is set exactly
-- when its place lies below E and it stands after these rounds.
pub record Scanned (t : Packed) (m : ℕ) (cells : List ℕ) (s f : ℕ) : Type 0 where
  pub made : ℕ
  pub at_end : t.count ≤ s + 63 + m → made ≡ 0
  pub some : s + 63 + m < t.count → 0 < made
  pub enough : s + 63 + m < t.count → made < rounds m → ones f < 2
  pub flags : (w : Pattern) → w.count ≡ m → WideTables w cells
      → (i : ℕ) → i < 64 → weight f i ≡ cond (ltb (s + i) (places t w) && stands_after t w s made i) 1 0

-- r is how far the next mark lies ahead where the bit after the window is c
pub record Move (w : Pattern) (c r : ℕ) : Type 0 where
  pub ahead : (s : ℕ) → beyond (s + window w) (last_index w c) ≡ s + r
  pub short : r ≤ 64 + w.count

-- It is that for each pattern of m bits whose table this is.
pub record Moves (m : ℕ) (cells : List ℕ) (c r : ℕ) : Type 0 where
  pub move : (w : Pattern) → w.count ≡ m → WideTables w cells → Move w c r
  pub short : r ≤ 64 + m

-- the first place that the flags of a step at s do not decide: 64 places on, or E
abbrev pub stop : Packed → Pattern → ℕ → ℕ
stop t w s = min (s + 64) (places t w)

-- The flag of each place from a on and before b at which the pattern stands is set in f; others may be, since each is settled
-- by comparison.
unfoldable pub Stand : Packed → Pattern → ℕ → ℕ → ℕ → Type 0
Stand t w a b f = (p : ℕ) → a ≤ p → p < b → matches t w p ≡ true → weight f (p - a) ≡ 1

-- f has the flag of each place from s on at which the pattern stands, and none of a place that the step does not decide.
pub record Flagged (t : Packed) (w : Pattern) (s f : ℕ) : Type 0 where
  pub stand : Stand (text_of t.bytes 0) w s (stop t w s) f
  pub inside : f < 2 ^ (stop t w s - s)
