use borrow.Author.Rules.{rules}
use Prim.Native.Nat.{ℕ, ◌+◌, ◌-◌, ◌*◌, ◌^◌, ◌≤◌, ◌<◌}
use mathlib.Core.Path.{◌≡◌, refl, ap, ◌∙◌}
use mathlib.Core.Bool.{true, false}
use mathlib.Core.List.{List}
use native.Mathlib.Nat.{mul_comm}
use native.Mathlib.Omega.{arith}
use lib.Bits.{bit_and, and_le_l, and_le_r}
use lib.Count.{count_trailing_zeros}
use lib.ListN.{get_or}
use Rattle.bits.specs.Packed.{Packed}
use Rattle.rules.specs.Pattern.{Pattern}
use Rattle.rules.specs.Occurrence.{occurs, occurrences}
use Rattle.rules.specs.Skip.{last_byte}
use Rattle.matcher.specs.Tables.{shows_byte, chained}
use Rattle.skip_tables.specs.SkipChains.{last_shown}
use Rattle.matcher.specs.Asked.{text_in, pattern_in}
use Rattle.matcher.specs.Progress.{Writing}
use Rattle.rules.proofs.Occurrence.{occurrences_none}
use Rattle.matcher.proofs.Compared.{compared_place}
use Rattle.matcher.proofs.Writing.{writing_none}
use Rattle.skip_tables.proofs.SkipBelow.{below_is}
use Rattle.skip_tables.proofs.SkipChain.{chained_fits}
use Rattle.skip_tables.proofs.SkipWords.{low_fits, lowest_is, flagging_rest}
use Rattle.skip.proofs.SkipPlaces.{mark_byte, byte_of, byte_is, walk_by, walk_found, sweep_gap, Sweeping}
use Rattle.skip.proofs.SkipSizes.{long_enough}
use Rattle.skip.proofs.SkipStep.{below_top, place_fits, place_below, written_more, skip_full, skip_all}
use Rattle.skip.proofs.sweep.Goals as goal
use Rattle.skip.proofs.sweep.Goals.{After-place-from, In-Some, In-loop-left, Start}

-- flags that are cut off are as few bits as before
and_small : (x y : ℕ) → x < 2 ^ 64 → bit_and x y < 2 ^ 64
and_small x y h = omega (arith, and_le_l x y)

-- the text and the pattern
abbrev text : Start → Packed
text c = text_in c.args.by.now.search.now.query

abbrev pattern : Start → Pattern
pattern c = pattern_in c.args.by.now.search.now.query

-- the mark that the step is from
abbrev mark : Start → ℕ
mark c = 8 * c.args.b.0 + 1 - chained c.args.by.now.search.now.query.pattern.m

long : (c : Start) → 15 ≤ c.args.by.now.search.now.query.pattern.m
long c = long_enough _ _ _ c.args.by.now.search.now.ready

-- each place contains the byte
covers : (c : Start) → 8 * c.args.b.0 + 8 ≤ mark c + c.args.by.now.search.now.query.pattern.m
covers c = omega (arith, chained_fits c.args.by.now.search.now.query.pattern.m (long c), c.requires.m_bound.0)

-- the byte's first bit
first_bit : (c : After-place-from) → c.place-from.result.0 ≡ 8 * c.args.b.0
first_bit c = c.place-from.ensures ∙ mul_comm _ 8

-- so many indices are still to come that each is one of the pattern's
index : (k m b : ℕ) → 15 ≤ m → chained m ≤ 8 * b → k + (8 * b + 1 - chained m) ≤ 8 * b + 1 → k + 7 ≤ m
index k m b long far h = within k (chained m) (8 * b) m h far (chained_fits m long)
  where
    within : (j k x m : ℕ) → j + (x + 1 - k) ≤ x + 1 → k ≤ x → k + 7 ≤ m → j + 7 ≤ m
    within j k x m h g l = omega arith

-- The lowest flag of the block: its index, one more than which is j, and its place.
module _ (c : In-loop-left) where
  at_least : 15 ≤ c.args.by.now.search.now.query.pattern.m
  at_least = long_enough _ _ _ c.args.by.now.search.now.ready

  abbrev f : ℕ
  f = c.loop-left.left

  abbrev block : ℕ
  block = c.in-Some.next.number

  abbrev v : ℕ
  v = get_or c.args.by.now.search.now.query.text.now c.args.b.0 0

  abbrev u : Sweeping (text_in c.args.by.now.search.now.query) (pattern_in c.args.by.now.search.now.query) c.args.b.0 v (8 * c.args.b.0 + 1 - chained c.args.by.now.search.now.query.pattern.m) c.args.list.now 0 c.loop-left.list c.in-Some.next.number c.loop-left.left c.loop-left.hits
  u = c.loop-left.invariant.1

  abbrev j : ℕ
  j = c.args.by.now.search.now.query.pattern.m - 7 - 57 * block - count_trailing_zeros 64 f

  small : f < 2 ^ 64
  small = c.loop-left.invariant.0

  lit : f ≡ 0 → ⊥
  lit = λ e. absurd (omega (arith, c.loop-left-test.true))

  fits : 57 * block + count_trailing_zeros 64 f + 8 ≤ c.args.by.now.search.now.query.pattern.m
  fits = low_fits (pattern_in c.args.by.now.search.now.query) v u.k block f u.flagging small lit

  last_is : j ≡ last_shown (pattern_in c.args.by.now.search.now.query) v u.k
  last_is = lowest_is (pattern_in c.args.by.now.search.now.query) v u.k block f u.flagging small lit (index u.k c.args.by.now.search.now.query.pattern.m c.args.b.0 at_least c.requires.m_bound.0 u.low)

  up : j ≤ u.k
  up = omega (arith, last_is, (below_is (shows_byte (pattern_in c.args.by.now.search.now.query) v) u.k).within)

  low : j + (8 * c.args.b.0 + 1 - chained c.args.by.now.search.now.query.pattern.m) ≤ 8 * c.args.b.0 + 1
  low = omega (arith, up, u.low)

  -- no occurrence lies before its place that is not written
  gap : occurrences (text_in c.args.by.now.search.now.query) (pattern_in c.args.by.now.search.now.query) (8 * c.args.b.0 + 1 - chained c.args.by.now.search.now.query.pattern.m) (8 * c.args.b.0 + 1 - j) ≡ occurrences (text_in c.args.by.now.search.now.query) (pattern_in c.args.by.now.search.now.query) (8 * c.args.b.0 + 1 - chained c.args.by.now.search.now.query.pattern.m) (8 * c.args.b.0 + 1 - u.k)
  gap =
      let byte : get_or c.args.by.now.search.now.query.text.now c.args.b.0 0 < 256 = omega arith in
      let shown : last_shown (pattern_in c.args.by.now.search.now.query) v u.k ≤ j = omega (arith, last_is) in
      let contains : 8 * c.args.b.0 + 8 ≤ 8 * c.args.b.0 + 1 - chained c.args.by.now.search.now.query.pattern.m + c.args.by.now.search.now.query.pattern.m = omega (arith, chained_fits c.args.by.now.search.now.query.pattern.m at_least, c.requires.m_bound.0) in
      sweep_gap (text_in c.args.by.now.search.now.query) (pattern_in c.args.by.now.search.now.query) c.args.b.0 (8 * c.args.b.0 + 1 - chained c.args.by.now.search.now.query.pattern.m) u.k j contains u.low (rw (byte_is c.args.by.now.search.now.query.text.now c.args.b.0 byte) at shown) up

  writing : Writing c.args.list.now 0 (occurrences (text_in c.args.by.now.search.now.query) (pattern_in c.args.by.now.search.now.query) (8 * c.args.b.0 + 1 - chained c.args.by.now.search.now.query.pattern.m) (8 * c.args.b.0 + 1 - j)) c.loop-left.list c.loop-left.hits
  writing = rw gap u.writing

  -- its place as the code has it
  place_is : c.place-from.result.0 + 8 + 57 * block + count_trailing_zeros 64 f - c.args.by.now.search.now.query.pattern.m ≡ 8 * c.args.b.0 + 1 - j
  place_is =
      ap (λ (x : ℕ). x + 8 + 57 * block + count_trailing_zeros 64 f - c.args.by.now.search.now.query.pattern.m) (c.place-from.ensures ∙ mul_comm _ 8)
      ∙ same (8 * c.args.b.0) c.args.by.now.search.now.query.pattern.m (57 * block) (count_trailing_zeros 64 f) fits (below j (8 * c.args.b.0 + 1 - chained c.args.by.now.search.now.query.pattern.m) (8 * c.args.b.0 + 1) low)
    where
      same : (x m d e : ℕ) → d + e + 8 ≤ m → m - 7 - d - e ≤ x + 1 → x + 8 + d + e - m ≡ x + 1 - (m - 7 - d - e)
      same x m d e h l = omega arith

      below : (j p x : ℕ) → j + p ≤ x → j ≤ x
      below j p x h = omega arith

  some : 0 < j
  some = omega (arith, fits)

  inside : 8 * c.args.b.0 + 1 - j < 1 + c.args.by.now.search.now.query.n - c.args.by.now.search.now.query.pattern.m
  inside = place_below _ _ _ some c.requires.m_bound.1

  -- the flags after it are fewer
  fewer : bit_and f (f - 1) < f
  fewer = less f _ lit (and_le_r f (f - 1))
    where
      less : (x y : ℕ) → (x ≡ 0 → ⊥) → y ≤ x - 1 → y < x
      less x y n l = omega arith

  -- the flags after it
  rest : (list : List ℕ) (written : ℕ) → Writing c.args.list.now 0 (occurrences (text_in c.args.by.now.search.now.query) (pattern_in c.args.by.now.search.now.query) (8 * c.args.b.0 + 1 - chained c.args.by.now.search.now.query.pattern.m) (8 * c.args.b.0 + 1 - (j - 1))) list written
      → Sweeping (text_in c.args.by.now.search.now.query) (pattern_in c.args.by.now.search.now.query) c.args.b.0 v (8 * c.args.b.0 + 1 - chained c.args.by.now.search.now.query.pattern.m) c.args.list.now 0 list block (bit_and f (f - 1)) written
  rest list written w =
      record {
        k = j - 1;
        low = omega (arith, low);
        flagging = flagging_rest (pattern_in c.args.by.now.search.now.query) v u.k block f u.flagging small lit;
        writing = w;
      }

pub loop-next-init : goal.loop-next-init
loop-next-init c =
    let a = c.args in
    let s = (goal.at.loop-next-init c).Start in
    let k = chained a.by.now.search.now.query.pattern.m in
    let fits : c.args.first.left < 2 ^ 64 = search rules in (
      fits,
      record {
        k = k;
        low = omega (arith, c.requires.m_bound.0);
        flagging = c.requires.flagging;
        writing = rw (occurrences_none (text s) (pattern s) (mark s) (mark s) (λ p l u. absurd (omega arith))) (writing_none a.list.now 0 (omega arith));
      },
    )

-- the block's number fits the pattern
inside_pattern : (c : In-Some) → 57 * c.in-Some.next.number + 8 ≤ c.args.by.now.search.now.query.pattern.m
inside_pattern c =
    let u = c.loop-next.invariant.1 in
    (c.in-Some.ensures.3 u.k u.flagging).inside

pub overflow_mul-start : goal.overflow_mul-start
overflow_mul-start c =
    omega (arith, inside_pattern (goal.at.overflow_mul-start c).In-Some, c.args.by.now.search.now.ready.pattern.few_bits)

pub overflow_add-start : goal.overflow_add-start
overflow_add-start c =
    omega (arith, first_bit (goal.at.overflow_add-start c).After-place-from, inside_pattern (goal.at.overflow_add-start c).In-Some, c.args.by.now.search.now.ready.pattern.few_bits, c.args.by.now.search.now.ready.few_bits, c.requires.m_bound.1)

pub loop-left-init : goal.loop-left-init
loop-left-init c =
    let u = c.loop-next.invariant.1 in
    let fits : c.in-Some.next.left < 2 ^ 64 = search rules in
    (fits, record { k = u.k; low = u.low; flagging = c.in-Some.ensures.3 u.k u.flagging; writing = u.writing })

pub overflow_sub-p : goal.overflow_sub-p
overflow_sub-p c =
    omega (arith, first_bit (goal.at.overflow_sub-p c).After-place-from, low (goal.at.overflow_sub-p c).In-loop-left, fits (goal.at.overflow_sub-p c).In-loop-left)

pub same-requires : goal.same-requires
same-requires c =
    let e = (goal.at.same-requires c).In-loop-left in
    rw (place_is e) (place_fits _ c.args.by.now.search.now.query.n c.args.by.now.search.now.query.pattern.m (2 ^ 30) (inside e) c.args.by.now.search.now.ready.few_bits)

pub returns-then-list-hits : goal.returns-then-list-hits
returns-then-list-hits c =
    let s = (goal.at.returns-then-list-hits c).Start in
    let e = (goal.at.returns-then-list-hits c).In-loop-left in
    let a = s.args in
    let b = a.b.0 in
    let found : occurs (text s) (pattern s) (8 * b + 1 - j e) ≡ true = compared_place _ _ _ _ _ true (rw (place_is e) at c.same.ensures) c.if-same.true (inside e) in
    let last : last_byte (pattern s) (mark s) ≡ b = mark_byte b a.by.now.search.now.query.pattern.m c.requires.m_bound.0 (long s) in
    rw (c.no_cell.ensures.0, c.no_cell.ensures.2) (
      rw (place_is e)
          (skip_full (text s) (pattern s) (mark s) a.list.now 0 c.loop-left.list c.loop-left.hits (8 * b + 1 - j e) (writing e) (long s) (omega arith)
          (omega (arith, low e)) (rw last (below_top (8 * b + 1) (j e) (some e) (omega (arith, low e)))) found c.if-list-hits.true),
      c.no_cell.ensures.1,
    )

pub loop-left-preserved-then-same : goal.loop-left-preserved-then-same
loop-left-preserved-then-same c =
    let s = (goal.at.loop-left-preserved-then-same c).Start in
    let e = (goal.at.loop-left-preserved-then-same c).In-loop-left in
    let a = s.args in
    let b = a.b.0 in
    let found : occurs (text s) (pattern s) (8 * b + 1 - j e) ≡ true = compared_place _ _ _ _ _ true (rw (place_is e) at c.same.ensures) c.if-same.true (inside e) in (
      omega (arith, fewer e, small e),
      rest e _ _
          (rw (place_is e)
          (written_more (text s) (pattern s) (mark s) a.list.now 0 c.loop-left.list c.loop-left.hits (8 * b + 1 - j e) (writing e) _
          (walk_found (text s) (pattern s) b (mark s) (j e) (covers s) (low e) (j e - 1) (omega (arith, some e)) (below_is (shows_byte (pattern s) (byte_of (text s) (pattern s) b)) (j e - 1)).within
          found) c.if-list-hits.false)),
    )

pub loop-left-preserved : goal.loop-left-preserved
loop-left-preserved c =
    let s = (goal.at.loop-left-preserved c).Start in
    let e = (goal.at.loop-left-preserved c).In-loop-left in
    let b = s.args.b.0 in
    let found : occurs (text s) (pattern s) (8 * b + 1 - j e) ≡ false = compared_place _ _ _ _ _ false (rw (place_is e) at c.same.ensures) c.if-same.false (inside e) in (
      omega (arith, fewer e, small e),
      rest e _ _
          (rw (walk_by (text s) (pattern s) b (mark s) (j e) (covers s) (low e) (j e - 1) (omega (arith, some e)) (below_is (shows_byte (pattern s) (byte_of (text s) (pattern s) b)) (j e - 1)).within
          found) (writing e)),
    )

pub returns : goal.returns
returns c =
    let l = c.loop-next in
    let a = c.args in
    let b = a.b.0 in
    let u = l.invariant.1 in
    let byte : get_or a.by.now.search.now.query.text.now b 0 < 256 = omega arith in
    let w = get_or a.by.now.search.now.query.text.now b 0 in
    let last : last_byte (pattern (goal.at.returns c).Start) (mark (goal.at.returns c).Start) ≡ b = mark_byte b a.by.now.search.now.query.pattern.m c.requires.m_bound.0 (long (goal.at.returns c).Start) in
    let end = c.in_default.ensures u.k u.flagging (index u.k a.by.now.search.now.query.pattern.m b (long (goal.at.returns c).Start) c.requires.m_bound.0 u.low) in
    let none : last_shown (pattern (goal.at.returns c).Start) w u.k ≤ 0 = omega (arith, end) in
    let gap = sweep_gap (text (goal.at.returns c).Start) (pattern (goal.at.returns c).Start) b (mark (goal.at.returns c).Start) u.k 0 (covers (goal.at.returns c).Start) u.low (rw (byte_is a.by.now.search.now.query.text.now b byte) at none) (omega arith) in
    let all : occurrences (text (goal.at.returns c).Start) (pattern (goal.at.returns c).Start) (mark (goal.at.returns c).Start) (8 * b + 1) ≡ occurrences (text (goal.at.returns c).Start) (pattern (goal.at.returns c).Start) (mark (goal.at.returns c).Start) (8 * b + 1 - u.k) = ap (occurrences (text (goal.at.returns c).Start) (pattern (goal.at.returns c).Start) (mark (goal.at.returns c).Start)) (whole (8 * b + 1)) ∙ gap in
    (rw c.place_at-at.ensures (skip_all (text (goal.at.returns c).Start) (pattern (goal.at.returns c).Start) (mark (goal.at.returns c).Start) a.list.now 0 l.list l.hits b last c.requires.m_bound.1 (long (goal.at.returns c).Start) (rw all u.writing)), refl)
  where
    whole : (x : ℕ) → x ≡ x - 0
    whole x = omega arith
