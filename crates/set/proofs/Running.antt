-- The loops of a call: the hits of the places passed stand in the list; and what they leave at their ends is what the machine
-- comes to.
-- Assumes nothing.
use Rattle.std.specs.Prelude.{Result, Ok, Err}
use Prim.Native.Nat.{ℕ, suc, ◌+◌, ◌-◌, ◌*◌, ◌/◌, ◌≤◌, ◌<◌, min}
use mathlib.Core.Path.{◌≡◌, refl, sym, ap, ◌∙◌}
use mathlib.Core.Bool.{Bool, true, false}
use mathlib.Core.List.{List, [], ◌++◌, map, append-nil}
use native.Mathlib.Nat.{add-zero, zero-add}
use native.Mathlib.Omega.{arith}
use lib.ListN.{length, take, drop, length-append, length-take, length-drop, length-map}
use lib.Seq.{sets, sets-eq, length-sets, take_at}
use Rattle.bits.specs.Packed.{Packed}
use Rattle.rules.specs.Machine.{stopped}
use Rattle.search.specs.Parts.{ending_at}
use Rattle.matcher.specs.Progress.{Writing}
use Rattle.matcher.specs.declared.steps.Reached.{Reached}
use Rattle.matcher.specs.declared.steps.Full.{Full}
use Rattle.matcher.proofs.Writing.{sets_append}
use Rattle.matcher.proofs.Rest.{rest_of, with_rest, writing_rest}
use Rattle.set.specs.declared.Answer.{Answer}
use Rattle.set_rules.specs.PatternSet.{PatternSet, set_places}
use Rattle.set_rules.specs.Hits.{Hit, hit_at, standing, hits_at, all_hits, cells_of}
use Rattle.set_rules.specs.SetMachine.{SetRun, halted, no_room, onward, set_run}
use Rattle.set_rules.specs.Verdict.{room_in, list_after}
use Rattle.set.specs.Parts.{PairsWritten, Listing, Ran, RunGives, Tells, TellsOf, Leaves}
use Rattle.set_rules.proofs.Hits.{all_append, all_none, all_one, all_further, length_at}
use Rattle.set_rules.proofs.SetMachine.{run_to_limit, run_to_full}
use Rattle.set.proofs.Standing.{cells_append, cells_length}

-- the numbers found are the front of the cells that hold them
found_front : (before found numbers : List ℕ) (count : ℕ) → Writing before 0 found numbers count → take count numbers ≡ found
found_front before found numbers count u =
    let size : length found ≡ count = omega (arith, u.count) in
    let whole : numbers ≡ found ++ drop (0 + length found) before = u.cells ∙ sets-eq found before 0 (omega (arith, u.fits)) in
    rw whole (take_at found (drop (0 + length found) before) count size)

-- what is passed and listed

pub listing_none : (t : Packed) (ws : PatternSet) (s had : ℕ) (before : List ℕ) → had ≤ room_in before → Listing t ws s before had before s had
unfolding cells_of
listing_none t ws s had before h =
    record { from = omega arith; cells = rw (all_none t ws s) refl; count = rw (all_none t ws s) (omega arith); fits = h }

module _ (t : Packed) (ws : PatternSet) (s : ℕ) (before : List ℕ) (had : ℕ) (list : List ℕ) (at hits : ℕ) (g : Listing t ws s before had list at hits) where
  pub listing_length : length list ≡ length before
  listing_length = ap length g.cells ∙ length-sets before (2 * had) (cells_of (all_hits t ws s at))

  -- no pattern stands before p
  pub listing_skip : (p : ℕ) → at ≤ p → ((q : ℕ) → at ≤ q → q < p → standing t ws q ≡ []) → Listing t ws s before had list p hits
  listing_skip p up none =
      let same = all_further t ws s at p g.from up none in
      record { from = omega (arith, g.from); cells = rw (← same) g.cells; count = rw (← same) g.count; fits = g.fits }

  -- further places are passed, and their hits written after those
  pub listing_append : (list' : List ℕ) (at' hits' : ℕ) → Listing t ws at list hits list' at' hits' → Listing t ws s before had list' at' hits'
  listing_append list' at' hits' more =
      let all = all_append t ws s at at' g.from more.from in
      let after : 2 * had + length (cells_of (all_hits t ws s at)) ≡ 2 * hits = omega (arith, cells_length (all_hits t ws s at), g.count) in
      record {
        from = omega (arith, g.from, more.from);
        cells =
            more.cells
            ∙ (λ i. sets (g.cells i) (sym after i) (cells_of (all_hits t ws at at')))
            ∙ sym (sets_append before (2 * had) (cells_of (all_hits t ws s at)) (cells_of (all_hits t ws at at')))
            ∙ ap (sets before (2 * had)) (sym (cells_append (all_hits t ws s at) (all_hits t ws at at')) ∙ ap cells_of (sym all));
        count = omega (arith, g.count, more.count, ap length all, length-append (all_hits t ws s at) (all_hits t ws at at'));
        fits = omega (arith, more.fits, listing_length);
      }

  -- the hits at the place are written after the others
  pub listing_more : (old numbers list' : List ℕ) (more : ℕ) → Writing old 0 (standing t ws at) numbers more
      → PairsWritten list hits at (take more numbers) list' → more ≤ room_in before - hits → Listing t ws s before had list' (at + 1) (hits + more)
  unfolding hits_at
  listing_more old numbers list' more found written room =
      let one : at + 1 ≡ suc at = omega arith in
      let here : map (hit_at at) (take more numbers) ≡ all_hits t ws at (suc at) =
      ap (map (hit_at at)) (found_front old (standing t ws at) numbers more found) ∙ sym (all_one t ws at) in
      let size : length (all_hits t ws at (suc at)) ≡ more = ap length (all_one t ws at) ∙ length_at t ws at ∙ sym (zero-add _) ∙ sym found.count in
      rw one
      (listing_append list' (suc at) (hits + more)
      (record {
        from = omega arith;
        cells = written ∙ ap (λ (l : List Hit). sets list (2 * hits) (cells_of l)) here;
        count = omega arith;
        fits = omega (arith, g.fits, listing_length);
      }))

-- ---- what is left of a list

module _ (list : List ℕ) (had : ℕ) (l : 2 * had ≤ length list) where
  pub rest_size : length (rest_of list (2 * had) l) ≡ length list - 2 * had
  rest_size = omega (arith, length-take (length list - 2 * had) (drop (2 * had) list), length-drop (2 * had) list)

  -- pairs that are written to the rest of the list are written to the list
  cells_rest : (found : List Hit) (new : List ℕ) → 2 * length found ≤ length list - 2 * had → new ≡ sets (rest_of list (2 * had) l) 0 (cells_of found)
      → with_rest list (2 * had) l new ≡ sets list (2 * had) (cells_of found)
  cells_rest found new few e =
      (writing_rest list (2 * had) l (cells_of found) new (length (cells_of found))
      (record { cells = e; count = omega arith; fits = omega (arith, few, cells_length found, rest_size) })).cells

  pub pairs_rest : (s : ℕ) (numbers new : List ℕ) → 2 * length numbers ≤ length list - 2 * had
      → PairsWritten (rest_of list (2 * had) l) 0 s numbers new → PairsWritten list had s numbers (with_rest list (2 * had) l new)
  pairs_rest s numbers new few e =
      cells_rest (map (hit_at s) numbers) new (omega (arith, few, length-map numbers (hit_at s))) e

  pub listing_rest : (t : Packed) (ws : PatternSet) (s at hits : ℕ) (new : List ℕ) → Listing t ws s (rest_of list (2 * had) l) 0 new at hits
      → Listing t ws s list had (with_rest list (2 * had) l new) at (had + hits)
  listing_rest t ws s at hits new g =
      let size = rest_size in
      let room : hits ≤ (length list - 2 * had) / 2 = omega (arith, g.fits, rest_size) in
      record {
        from = g.from;
        cells = cells_rest (all_hits t ws s at) new (omega (arith, g.count, room)) g.cells;
        count = omega (arith, g.count);
        fits = omega (arith, room);
      }

-- ---- the ends

module _ (t : Packed) (ws : PatternSet) (s budget : ℕ) (before : List ℕ) where
  -- what is left against a run that is known
  ran_is : (list : List ℕ) (at steps hits : ℕ) (cut : Bool) (r : SetRun) → set_run t ws budget s (room_in before) ≡ r
      → steps ≡ r.steps → hits ≡ length r.written → at ≡ r.mark → ending_at cut at (set_places t ws) ≡ r.ending → list ≡ list_after r before
      → Ran t ws s budget before at steps hits cut list
  ran_is list at steps hits cut r is a b c d e =
      record {
        steps_are = a ∙ ap (λ (o : SetRun). o.steps) (sym is);
        hits_are = b ∙ ap (λ (o : SetRun). length o.written) (sym is);
        mark_is = c ∙ ap (λ (o : SetRun). o.mark) (sym is);
        ending_is = d ∙ ap (λ (o : SetRun). o.ending) (sym is);
        list_is = e ∙ ap (λ (o : SetRun). list_after o before) (sym is);
      }

  module _ (at hits : ℕ) (list : List ℕ) (g : Listing t ws s before 0 list at hits) where
    -- the pairs in front, and the cells after them
    front_is : list ≡ cells_of (all_hits t ws s at) ++ drop (2 * length (all_hits t ws s at)) before
    front_is =
        let size = cells_length (all_hits t ws s at) in
        g.cells
        ∙ sets-eq (cells_of (all_hits t ws s at)) before 0 (omega (arith, g.count, g.fits))
        ∙ ap (λ (n : ℕ). cells_of (all_hits t ws s at) ++ drop n before) (zero-add (length (cells_of (all_hits t ws s at))) ∙ size)

    -- all places before the budget's end, and E, are passed
    pub ran_to_limit : s ≤ set_places t ws → at ≡ min (s + budget) (set_places t ws) → Ran t ws s budget before at (at - s) hits false list
    unfolding onward halted stopped
    ran_to_limit h is =
        ran_is list at (at - s) hits false _
        (run_to_limit t ws budget s (room_in before) at h is (omega (arith, g.count, g.fits)))
        (sym (add-zero (at - s)))
        (rw append-nil (g.count ∙ zero-add _))
        refl
        refl
        (rw append-nil front_is)

    -- the hits at the place do not all fit
    pub ran_to_full : at < min (s + budget) (set_places t ws) → room_in before - hits < length (standing t ws at)
        → Ran t ws s budget before at (at - s) hits true list
    unfolding onward no_room
    ran_to_full u f =
        ran_is list at (at - s) hits true _
        (run_to_full t ws budget s (room_in before) at g.from u (omega (arith, g.count, g.fits)) (omega (arith, g.count, length_at t ws at)))
        (sym (add-zero (at - s)))
        (rw append-nil (g.count ∙ zero-add _))
        refl
        refl
        (rw append-nil front_is)

  -- the answer tells what the steps left
  pub leaves_run : (a : Answer) (at steps hits : ℕ) (cut : Bool) (list : List ℕ) → Ran t ws s budget before at steps hits cut list
      → Tells a at steps hits cut (set_places t ws) → Leaves t ws s budget before a list
  leaves_run a at steps hits cut list r k =
      record {
        answer = record { steps = k.steps_are ∙ r.steps_are; occurrences = k.hits_are ∙ r.hits_are; mark = k.mark_is ∙ r.mark_is; ending = k.ending_is ∙ r.ending_is };
        list_is = r.list_is;
      }

  -- the same of what the loop gave back
  pub leaves_of : (a : Answer) (r : Result Reached Full) (list : List ℕ) → RunGives t ws s budget before r list
      → TellsOf a r (set_places t ws) → Leaves t ws s budget before a list
  leaves_of a (Ok r) list ran tells = leaves_run a r.at.0 r.steps r.hits false list ran tells
  leaves_of a (Err f) list ran tells = leaves_run a f.0.at.0 f.0.steps f.0.hits true list ran tells
