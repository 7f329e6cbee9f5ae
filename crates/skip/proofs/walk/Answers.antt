use Prim.Native.Nat.{ℕ, ◌+◌, ◌-◌, ◌*◌, ◌≤◌, ◌<◌}
use mathlib.Core.Path.{◌≡◌, refl, sym, ap, ◌∙◌}
use mathlib.Core.Bool.{Bool}
use native.Mathlib.Nat.{mul_comm}
use native.Mathlib.Omega.{arith}
use lib.ListN.{length, get_or}
use Rattle.bits.specs.Packed.{Packed}
use Rattle.bits.proofs.Run.{bits_lt}
use Rattle.rules.specs.Pattern.{Pattern}
use Rattle.rules.specs.Occurrence.{occurs}
use Rattle.rules.specs.Skip.{last_byte}
use Rattle.matcher.specs.Tables.{last_below, in_chain, chained}
use Rattle.skip_tables.specs.SkipChains.{last_shown}
use Rattle.matcher.specs.Asked.{text_in, pattern_in}
use Rattle.matcher.proofs.Compared.{compared_place}
use Rattle.matcher.proofs.Writing.{writing_none}
use Rattle.skip_tables.proofs.SkipBelow.{below_is}
use Rattle.skip_tables.proofs.SkipShows.{shown_chain}
use Rattle.skip_tables.proofs.SkipChain.{chained_fits, headed_within, headed_passes, headed_more, link_less, chain_link}
use Rattle.skip.proofs.SkipPlaces.{mark_byte, byte_of, byte_is, walk_start, walk_by, walk_found}
use Rattle.skip.proofs.SkipSizes.{long_enough}
use Rattle.skip.proofs.SkipStep.{below_top, place_below, written_more, skip_full, skip_all}
use Rattle.skip.proofs.walk.Goals as goal
use Rattle.skip.proofs.walk.Goals.{After-place, After-same, At-loop-next, In-loop-next, Start, then-same+else-list-hits, else-same}

some : {j : ℕ} → (j ≡ 0 → ⊥) → 0 < j
some h = omega arith

part_le : (j p x : ℕ) → j + p ≤ x → j ≤ x
part_le j p x h = omega arith

rest_le : (j p x : ℕ) → j + p ≤ x → p ≤ x - j
rest_le j p x h = omega arith

-- the text and the pattern
abbrev text : Start → Packed
text c = text_in c.args.by.now.search.now.query

abbrev pattern : Start → Pattern
pattern c = pattern_in c.args.by.now.search.now.query

-- the mark that the step is from
abbrev mark : Start → ℕ
mark c = 8 * c.args.b.0 + 1 - chained c.args.by.now.search.now.query.pattern.m

long : (c : Start) → 15 ≤ c.args.by.now.search.now.query.pattern.m
long c = long_enough _ _ _ c.args.by.now.search.now.ready

-- each place contains the byte
covers : (c : Start) → 8 * c.args.b.0 + 8 ≤ mark c + c.args.by.now.search.now.query.pattern.m
covers c = omega (arith, chained_fits c.args.by.now.search.now.query.pattern.m (long c), c.requires.0)

-- the byte's first bit
first_bit : (c : After-place) → c.place.result.0 ≡ 8 * c.args.b.0
first_bit c = c.place.ensures ∙ mul_comm _ 8

-- every bit is fixed, so the chain is all that shows the byte
shown : (c : Start) (k : ℕ) → k ≤ chained c.args.by.now.search.now.query.pattern.m
    → last_shown (pattern c) (byte_of (text c) (pattern c) c.args.b.0) k ≡ last_below (in_chain (pattern c) (byte_of (text c) (pattern c) c.args.b.0)) k
shown c k few =
    let a = c.args in
    let fits = chained_fits a.by.now.search.now.query.pattern.m (long c) in
    shown_chain (pattern c) c.args.by.now.holds.all_fixed (byte_of (text c) (pattern c) a.b.0) (bits_lt a.by.now.search.now.query.text.now (8 * a.b.0) 8) k (omega arith)

-- the link's place is not before the mark
from_mark : (c : At-loop-next)
    → (c.loop-next.next ≤ chained c.args.by.now.search.now.query.pattern.m) × (c.loop-next.next + (8 * c.args.b.0 + 1 - chained c.args.by.now.search.now.query.pattern.m) ≤ 8 * c.args.b.0 + 1)
from_mark c =
    let a = c.args in
    let near = headed_within _ _ _ c.loop-next.next c.loop-next.invariant.0 in
    (near, above c.loop-next.next (chained a.by.now.search.now.query.pattern.m) (8 * a.b.0) near c.requires.0)
  where
    above : (j k x : ℕ) → j ≤ k → k ≤ x → j + (x + 1 - k) ≤ x + 1
    above j k x h g = omega arith

-- and it is below E
inside : (c : In-loop-next)
    → let a = c.args in
    8 * a.b.0 + 1 - c.loop-next.next < 1 + a.by.now.search.now.query.n - a.by.now.search.now.query.pattern.m
inside c = place_below _ _ _ (some c.loop-next-test.true) c.requires.1

-- the comparison's answer
stands : (c : After-same) (x : Bool) → c.same.result ≡ x
    → occurs (text_in c.args.by.now.search.now.query) (pattern_in c.args.by.now.search.now.query) (8 * c.args.b.0 + 1 - c.loop-next.next) ≡ x
stands c x e =
    let first_bit : c.place.result.0 ≡ 8 * c.args.b.0 = c.place.ensures ∙ mul_comm _ 8 in
    let inside : let a = c.args in 8 * a.b.0 + 1 - c.loop-next.next < 1 + a.by.now.search.now.query.n - a.by.now.search.now.query.pattern.m = place_below _ _ _ (some c.loop-next-test.true) c.requires.1 in
    compared_place _ _ _ _ _ x (rw first_bit at c.same.ensures) e inside

-- the link's cell is one of the table's
linked : (c : At-loop-next) → 255 + c.loop-next.next < length c.args.by.now.search.now.cells.now
linked c =
    cell c.loop-next.next (chained c.args.by.now.search.now.query.pattern.m) c.args.by.now.search.now.query.pattern.m (length c.args.by.now.search.now.cells.now) (from_mark c).0 (chained_fits c.args.by.now.search.now.query.pattern.m (long_enough _ _ _ c.args.by.now.search.now.ready)) c.args.by.now.search.now.ready.room
  where
    cell : (j k m l : ℕ) → j ≤ k → k + 7 ≤ m → 256 + m ≤ l → 255 + j < l
    cell j k m l h g r = omega arith

pub loop-next-init : goal.loop-next-init
loop-next-init c =
    let a = c.args in
    let b = a.b.0 in
    let k = chained a.by.now.search.now.query.pattern.m in
    let byte : get_or a.by.now.search.now.query.text.now b 0 < 256 = omega arith in
    let head : get_or a.by.now.search.now.cells.now (get_or a.by.now.search.now.query.text.now b 0) 0 ≡ last_below (in_chain (pattern (goal.at.loop-next-init c).Start) (byte_of (text (goal.at.loop-next-init c).Start) (pattern (goal.at.loop-next-init c).Start) b)) k
    = c.args.by.now.holds.head_is _ byte ∙ ap (λ (v : ℕ). last_below (in_chain (pattern (goal.at.loop-next-init c).Start) v) k) (byte_is a.by.now.search.now.query.text.now b byte) in
    let within = (below_is (in_chain (pattern (goal.at.loop-next-init c).Start) (byte_of (text (goal.at.loop-next-init c).Start) (pattern (goal.at.loop-next-init c).Start) b)) k).within in
    let span : 8 * b + 1 - mark (goal.at.loop-next-init c).Start ≡ k = omega (arith, c.requires.0) in
    let none = walk_start (text (goal.at.loop-next-init c).Start) (pattern (goal.at.loop-next-init c).Start) b (mark (goal.at.loop-next-init c).Start) (get_or a.by.now.search.now.cells.now (get_or a.by.now.search.now.query.text.now b 0) 0) (covers (goal.at.loop-next-init c).Start) (omega (arith, head, within, c.requires.0)) (rw span (omega (arith, head, shown (goal.at.loop-next-init c).Start k (omega arith)))) in (
      record { bound = k; chain = head; over = omega arith; within = omega arith },
      rw none (writing_none a.list.now 0 (omega arith)),
    )

pub overflow_sub-p : goal.overflow_sub-p
overflow_sub-p c = rw (first_bit (goal.at.overflow_sub-p c).After-place) (part_le _ _ _ (from_mark (goal.at.overflow_sub-p c).At-loop-next).1)

pub returns-then-list-hits : goal.returns-then-list-hits
returns-then-list-hits c =
    let l = c.loop-next in
    let a = c.args in
    let b = a.b.0 in
    let last : last_byte (pattern (goal.at.returns-then-list-hits c).Start) (mark (goal.at.returns-then-list-hits c).Start) ≡ b = mark_byte b a.by.now.search.now.query.pattern.m c.requires.0 (long (goal.at.returns-then-list-hits c).Start) in
    let low = (from_mark (goal.at.returns-then-list-hits c).At-loop-next).1 in
    let found = stands (goal.at.returns-then-list-hits c).After-same _ c.if-same.true in
    let place = ap (λ (x : ℕ). x + 1 - l.next) (first_bit (goal.at.returns-then-list-hits c).After-place) in
    rw (c.no_cell.ensures.0, c.no_cell.ensures.2) (
      rw (sym place) at
          (skip_full (text (goal.at.returns-then-list-hits c).Start) (pattern (goal.at.returns-then-list-hits c).Start) (mark (goal.at.returns-then-list-hits c).Start) a.list.now 0 l.list l.hits (8 * b + 1 - l.next) l.invariant.1 (long (goal.at.returns-then-list-hits c).Start) (omega arith)
          (rest_le _ _ _ low) (rw last (below_top (8 * b + 1) l.next (some c.loop-next-test.true) (part_le _ _ _ low))) found c.if-list-hits.true),
      c.no_cell.ensures.1,
    )

pub overflow_add-next : goal.overflow_add-next
overflow_add-next c = omega (arith, linked (goal.at.overflow_add-next c).At-loop-next)

pub offset_bounds-cells-next : goal.offset_bounds-cells-next
offset_bounds-cells-next c = omega (arith, linked (goal.at.offset_bounds-cells-next c).At-loop-next)

pub bounds-cells-next : goal.bounds-cells-next
bounds-cells-next c = linked (goal.at.bounds-cells-next c).At-loop-next

-- the link after it
after : (c : In-loop-next)
    → let l = c.loop-next in
    get_or c.args.by.now.search.now.cells.now (255 + l.next) 0 ≡ last_below (in_chain (pattern_in c.args.by.now.search.now.query) (byte_of (text_in c.args.by.now.search.now.query) (pattern_in c.args.by.now.search.now.query) c.args.b.0)) (l.next - 1)
after c =
    let text = text_in c.args.by.now.search.now.query in
    let pattern = pattern_in c.args.by.now.search.now.query in
    let near = headed_within _ _ _ c.loop-next.next c.loop-next.invariant.0 in
    let l = c.loop-next in
    let more = some c.loop-next-test.true in
    chain_link pattern c.args.by.now.search.now.cells.now c.args.by.now.holds l.next more near (byte_of text pattern c.args.b.0) (headed_passes _ _ _ l.next l.invariant.0 more)

pub loop-next-smaller : goal.loop-next-smaller
loop-next-smaller c = link_less _ _ _ (some c.loop-next-test.true) (after (goal.at.loop-next-smaller c).In-loop-next)

pub loop-next-preserved : goal.loop-next-preserved
loop-next-preserved c =
    let l = c.loop-next in
    let a = c.args in
    let b = a.b.0 in
    let cells = a.by.now.search.now.cells.now in
    let near = from_mark (goal.at.loop-next-preserved c).At-loop-next in
    let more = some c.loop-next-test.true in
    let less : get_or cells (255 + l.next) 0 < l.next = link_less _ _ _ more (after (goal.at.loop-next-preserved c).In-loop-next) in
    let link : last_shown (pattern (goal.at.loop-next-preserved c).Start) (byte_of (text (goal.at.loop-next-preserved c).Start) (pattern (goal.at.loop-next-preserved c).Start) b) (l.next - 1) ≤ get_or cells (255 + l.next) 0 = omega (arith, after (goal.at.loop-next-preserved c).In-loop-next, shown (goal.at.loop-next-preserved c).Start (l.next - 1) (omega (arith, near.0))) in (
      headed_more _ _ _ l.next l.invariant.0 more _ (after (goal.at.loop-next-preserved c).In-loop-next),
      elim c.if-same.branch [
        | then-same+else-list-hits w' ↦
            rw (w'.list-is, w'.hits-is, first_bit (goal.at.loop-next-preserved c).After-place)
            (written_more (text (goal.at.loop-next-preserved c).Start) (pattern (goal.at.loop-next-preserved c).Start) (mark (goal.at.loop-next-preserved c).Start) a.list.now 0 l.list l.hits (8 * b + 1 - l.next) l.invariant.1 _
            (walk_found (text (goal.at.loop-next-preserved c).Start) (pattern (goal.at.loop-next-preserved c).Start) b (mark (goal.at.loop-next-preserved c).Start) l.next (covers (goal.at.loop-next-preserved c).Start) near.1 _ less link (stands (goal.at.loop-next-preserved c).After-same _ w'.if-same.true)) w'.if-list-hits.false)
        | else-same w' ↦
            rw (w'.list-is, w'.hits-is, walk_by (text (goal.at.loop-next-preserved c).Start) (pattern (goal.at.loop-next-preserved c).Start) b (mark (goal.at.loop-next-preserved c).Start) l.next (covers (goal.at.loop-next-preserved c).Start) near.1 _ less link (stands (goal.at.loop-next-preserved c).After-same _ w'.if-same.false)) l.invariant.1
      ],
    )

pub returns : goal.returns
returns c =
    let l = c.loop-next in
    let a = c.args in
    let b = a.b.0 in
    let last : last_byte (pattern (goal.at.returns c).Start) (mark (goal.at.returns c).Start) ≡ b = mark_byte b a.by.now.search.now.query.pattern.m c.requires.0 (long (goal.at.returns c).Start) in
    let end : 8 * b + 1 - l.next ≡ 8 * b + 1 = omega (arith, c.loop-next-test.false) in
    (rw (first_bit (goal.at.returns c).After-place) (skip_all (text (goal.at.returns c).Start) (pattern (goal.at.returns c).Start) (mark (goal.at.returns c).Start) a.list.now 0 l.list l.hits b last c.requires.1 (long (goal.at.returns c).Start) (rw end at l.invariant.1)), refl)
