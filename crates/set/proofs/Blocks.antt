-- A block of 32 places: those without a mark have no hits, and the marks are taken lowest first.
-- Assumes nothing.
use Prim.Native.Nat.{ℕ, ◌+◌, ◌-◌, ◌*◌, ◌/◌, ◌%◌, ◌^◌, ◌≤◌, ◌<◌}
use mathlib.Core.Path.{◌≡◌, sym, ap, ◌∙◌}
use mathlib.Core.Bool.{false}
use mathlib.Core.List.{List, [], ◌∷◌}
use native.Mathlib.Nat.{div-one}
use native.Mathlib.Decide.{dec_lt}
use native.Mathlib.Omega.{arith}
use lib.Dec.{eqb}
use lib.ListN.{length, get_or, take}
use borrow.Author.Tests.{eqb-true, eqb-false}
use Rattle.bits.specs.Packed.{Packed, weight, bits_at}
use Rattle.bits.proofs.Weight.{weight_shr, weight_lt, weight_out, shl_low, shl_high}
use Rattle.rules.specs.Ranges.{among}
use Rattle.rules.specs.Occurrence.{occurs}
use Rattle.rules.proofs.Ranges.{among_same}
use Rattle.matcher.specs.Progress.{Writing}
use Rattle.set_rules.specs.PatternSet.{PatternSet, pattern_at}
use Rattle.set_rules.specs.Hits.{standing}
use Rattle.set_rules.specs.Verdict.{room_in}
use Rattle.set_tables.specs.Fronts.{begins, Flags, Tables}
use Rattle.set_tables.specs.Parts.{Looked, Marked}
use Rattle.set.specs.Ones.{flagged, ones}
use Rattle.set.specs.Parts.{PairsWritten, Listing, Blocked}
use Rattle.set_tables.proofs.Scanning.{looked_flags}
use Rattle.set.proofs.Lowest.{late, Head, among_head, among_nil}
use Rattle.set.proofs.Standing.{none_left}
use Rattle.set.proofs.Running.{listing_none, listing_skip, listing_more}

-- no pattern stands at a place without a flag
no_flag : (t : Packed) (ws : PatternSet) (p flags : ℕ) → Flags ws (length ws.counts) (λ w. begins w 0 32 (bits_at t.bytes p 32)) flags → flags ≡ 0
    → standing t ws p ≡ []
unfolding standing
no_flag t ws p flags marked none =
    let whole : length ws.counts - 0 ≡ length ws.counts = omega arith in
    ap (among (λ i. occurs t (pattern_at ws i) p) 0) (sym whole)
    ∙ none_left t ws p flags marked 0 (div-one flags ∙ none)

-- and so at none of 32 places that were looked at, if no flag stands
pub looked_none : (t : Packed) (ws : PatternSet) (tables before found : List ℕ) (base any : ℕ) → Tables ws tables
    → Looked tables (bits_at t.bytes base 64) before found any → any ≡ 0 → (q : ℕ) → base ≤ q → q < base + 32 → standing t ws q ≡ []
looked_none t ws tables before found base any made looked none q low high =
    let there : base + (q - base) ≡ q = omega arith in
    rw there at
    (no_flag t ws (base + (q - base)) (get_or found (q - base) 0) (looked_flags ws tables t.bytes found before base any made looked (q - base) (omega arith))
    (looked.none none (q - base) (omega arith)))

-- The marks before number `next` are taken, and m has the others; the places from `from` on and before that number are passed.
pub record Turning (t : Packed) (ws : PatternSet) (found : List ℕ) (base from to : ℕ) (before list numbers : List ℕ) (m hits : ℕ) : Type 0 where
  pub marks : ℕ
  pub marked : Marked found marks
  pub next : ℕ
  pub rest : ones m ≡ among (flagged marks) next (64 - next)
  pub upto : base + next ≤ to
  pub listing : Listing t ws from before 0 list (base + next) hits
  pub size : length numbers ≡ 64

module _ (t : Packed) (ws : PatternSet) (found : List ℕ) (base from to : ℕ) (block : Blocked t ws found base from to) where
  -- no pattern stands at a place without a mark
  quiet : (marks : ℕ) → Marked found marks → (e : ℕ) → e < 32 → flagged marks e ≡ false → standing t ws (base + e) ≡ []
  quiet marks marked e l u =
      let none : weight marks e ≡ 0 = omega (arith, eqb-false (weight marks e) 1 u, weight_lt marks e) in
      no_flag t ws (base + e) (get_or found e 0) (block.flags e l) (marked.unset e l none)

  pub turning_none : (marks : ℕ) → Marked found marks → (before numbers : List ℕ) → length numbers ≡ 64
      → Turning t ws found base from to before before numbers (marks / 2 ^ (from - base) * 2 ^ (from - base) % 2 ^ 64) 0
  turning_none marks marked before numbers size =
      let k : ℕ = from - base in
      let there : base + (from - base) ≡ from = omega (arith, block.low) in
      let few : k ≤ 32 = omega (arith, block.near, block.high) in
      record {
        marks = marks;
        marked = marked;
        next = k;
        rest = late (marks / 2 ^ k * 2 ^ k % 2 ^ 64) k (omega arith) (λ i l. shl_low (marks / 2 ^ k) k i (omega arith) l)
            ∙ among_same _ _ k (64 - k) (λ i l u.
            let same : k + (i - k) ≡ i = omega arith in
            ap (λ (w : ℕ). eqb w 1)
            (shl_high (marks / 2 ^ k) k i (omega arith) l ∙ weight_shr marks k (i - k) ∙ ap (weight marks) same));
        upto = omega (arith, block.low, block.near);
        listing = rw there (listing_none t ws from 0 before (omega arith));
        size = size;
      }

  module _ (before list numbers : List ℕ) (m hits : ℕ) (g : Turning t ws found base from to before list numbers m hits) where
    -- places without a mark are passed
    passed : (x : ℕ) → base + g.next ≤ x → x ≤ base + 32 → ((e : ℕ) → g.next ≤ e → base + e < x → flagged g.marks e ≡ false)
        → Listing t ws from before 0 list x hits
    passed x low high none =
        listing_skip t ws from before 0 list (base + g.next) hits g.listing x low (λ q l u.
        let there : base + (q - base) ≡ q = omega arith in
        rw there at (quiet g.marks g.marked (q - base) (omega arith) (none (q - base) (omega arith) (omega arith))))

    -- no mark is left
    pub turned_all : ones m ≡ [] → Listing t ws from before 0 list to hits
    turned_all h =
        passed to g.upto block.high (λ e l u. among_nil (flagged g.marks) g.next (64 - g.next) (sym g.rest ∙ h) e l (omega (arith, block.high)))

    -- the lowest mark that is left, and the others
    module _ (e m' : ℕ) (taken : ones m ≡ e ∷ ones m') where
      head : Head (flagged g.marks) g.next (64 - g.next) e (ones m')
      head = among_head (flagged g.marks) g.next (64 - g.next) e (ones m') (sym g.rest ∙ taken)

      -- it is that of a place of the block
      pub inside : e < 32
      inside = go (dec_lt e 32)
        where
          go : Dec (e < 32) → e < 32
          go (yes l) = l
          go (no n) =
              let off : weight g.marks e ≡ 0 = weight_out {x = g.marks} {w = 32} {i = e} g.marked.small (omega arith) in
              let on : weight g.marks e ≡ 1 = eqb-true (weight g.marks e) 1 head.passes in
              absurd (omega (arith, sym off ∙ on))

      pub lowest_late : g.next ≤ e
      lowest_late = head.low

      -- the places before it are passed, as far as the block goes
      pub passed_to : (x : ℕ) → base + g.next ≤ x → x ≤ base + e → Listing t ws from before 0 list x hits
      passed_to x low high = passed x low (omega (arith, inside)) (λ i l u. head.between i l (omega arith))

      -- its hits are written
      pub turned_more : (old numbers' list' : List ℕ) (more : ℕ) → base + e < to → Writing old 0 (standing t ws (base + e)) numbers' more
          → PairsWritten list hits (base + e) (take more numbers') list' → more ≤ room_in before - hits → length numbers' ≡ 64
          → Turning t ws found base from to before list' numbers' m' (hits + more)
      turned_more old numbers' list' more within writes written room size =
          let there : base + e + 1 ≡ base + (e + 1) = omega arith in
          let few : g.next + (64 - g.next) - (e + 1) ≡ 64 - (e + 1) = omega (arith, head.high, head.low) in
          record {
            marks = g.marks;
            marked = g.marked;
            next = e + 1;
            rest = head.rest ∙ ap (among (flagged g.marks) (e + 1)) few;
            upto = omega arith;
            listing = rw there at
                (listing_more t ws from before 0 list (base + e) hits (passed_to (base + e) (omega (arith, head.low)) (omega arith)) old numbers' list' more writes written room);
            size = size;
          }
