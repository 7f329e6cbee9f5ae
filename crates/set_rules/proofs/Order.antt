-- A set with its patterns in another order has the same hits, with the numbers permuted, and its calls go on alike.
-- Assumes nothing.
use Prim.Native.Nat.{ℕ, zero, suc, ◌+◌, ◌-◌, ◌≤◌, ◌<◌}
use mathlib.Core.Path.{◌≡◌, refl, sym, ap, ◌∙◌}
use mathlib.Core.Logic.{◌↔◌, ◌⊎◌, inl, inr}
use mathlib.Core.Bool.{Bool, true, false}
use mathlib.Core.List.Memᴰ
use mathlib.Core.List.{List, [], ◌∷◌, Memᴰ}
use native.Mathlib.Nat.{le_antisymm}
use native.Mathlib.Decide.{dec_le}
use native.Mathlib.Omega.{arith}
use lib.ListN.{length}
use Rattle.bits.specs.Packed.{Packed, bit_at}
use Rattle.rules.specs.Ranges.{keep, among}
use Rattle.rules.specs.Pattern.{Pattern}
use Rattle.rules.specs.Wild.{Alike}
use Rattle.rules.specs.Occurrence.{places, Occurs, occurs}
use Rattle.rules.proofs.Ranges.{among_mem, mem_among}
use Rattle.rules.proofs.Occurrence.{occurs_iff}
use Rattle.rules.proofs.Wild.{agrees_alike}
use Rattle.set_rules.specs.PatternSet.{PatternSet, pattern_at, set_places}
use Rattle.set_rules.specs.Hits.{hit_at, IsHit, standing, hits_at, all_hits}
use Rattle.set_rules.specs.SetMachine.{SetRun, halted, onward, set_run}
use Rattle.set_rules.specs.Order.{Permuted, SameHits}
use Rattle.set_rules.proofs.Hits.{places_below, places_least, length_at, all_exactly}
use Rattle.set_rules.proofs.SetMachine.{run_spent, run_ended, run_step, run_full, left}

-- ---- patterns that are alike occur at the same places

occurs_alike : (t : Packed) (w v : Pattern) → Alike w v → (s : ℕ) → Occurs t w s ↔ Occurs t v s
occurs_alike t w v a s = (
  λ o. record {
    inside = omega (arith, o.inside, a.as_many);
    same = λ j l.
        let b : j < w.count = omega (arith, a.as_many) in
        sym (agrees_alike w v a j (bit_at t.bytes (s + j)) b) ∙ o.same j b;
  },
  λ o. record {
    inside = omega (arith, o.inside, a.as_many);
    same = λ j l. agrees_alike w v a j (bit_at t.bytes (s + j)) l ∙ o.same j (omega (arith, a.as_many));
  },
)

-- ---- lists without an element twice, one of which has the images of the other's elements

Distinct : List ℕ → Type 0
Distinct [] = Unit
Distinct (x ∷ l) = ((y : ℕ) → Memᴰ y l → x ≡ y → ⊥) × Distinct l

among_distinct : (f : ℕ → Bool) (i k : ℕ) → Distinct (among f i k)
unfolding Distinct among
among_distinct f i zero = tt
among_distinct f i (suc k) = go (f i) (among_distinct f (suc i) k)
  where
    go : (b : Bool) → Distinct (among f (suc i) k) → Distinct (keep b i (among f (suc i) k))
    go true ih = (λ y m e. omega (arith, (among_mem f (suc i) k y m).low), ih)
    go false ih = ih

-- a list without one element
record Without (x : ℕ) (l : List ℕ) : Type 0 where
  rest : List ℕ
  shorter : length l ≡ suc (length rest)
  others : (y : ℕ) → Memᴰ y l → (x ≡ y → ⊥) → Memᴰ y rest

without : (x : ℕ) (l : List ℕ) → Memᴰ x l → Without x l
without x [] m = absurd (Memᴰ.not-nil m)
without x (a ∷ l) m = go (λ n. without x l n) (Memᴰ.cases_cons m)
  where
    go : (Memᴰ x l → Without x l) → (x ≡ a) ⊎ Memᴰ x l → Without x (a ∷ l)
    go ih (inl e) = record { rest = l; shorter = refl; others = λ y n d. first y d (Memᴰ.cases_cons n) }
      where
        first : (y : ℕ) → (x ≡ y → ⊥) → (y ≡ a) ⊎ Memᴰ y l → Memᴰ y l
        first y d (inl q) = absurd (d (e ∙ sym q))
        first y d (inr n) = n
    go ih (inr k) =
        let w = ih k in
        record { rest = a ∷ w.rest; shorter = ap suc w.shorter; others = λ y n d. next y d (Memᴰ.cases_cons n) }
      where
        next : (y : ℕ) → (x ≡ y → ⊥) → (y ≡ a) ⊎ Memᴰ y l → Memᴰ y (a ∷ (ih k).rest)
        next y d (inl q) = Memᴰ.head q
        next y d (inr n) = Memᴰ.tail ((ih k).others y n d)

no_more : (f g : ℕ → ℕ) (l m : List ℕ) → Distinct l → ((x : ℕ) → Memᴰ x l → g (f x) ≡ x) → ((x : ℕ) → Memᴰ x l → Memᴰ (f x) m)
    → length l ≤ length m
unfolding Distinct
no_more f g [] m d back to = omega arith
no_more f g (x ∷ l) m d back to =
    let w = without (f x) m (to x (Memᴰ.head refl)) in
    omega (
      arith,
      w.shorter,
      no_more f g l w.rest d.1 (λ y n. back y (Memᴰ.tail n)) (λ y n.
          w.others (f y) (to y (Memᴰ.tail n)) (λ e. d.0 y n (sym (back x (Memᴰ.head refl)) ∙ ap g e ∙ back y (Memᴰ.tail n)))),
    )

-- ---- the numbers of a place

module _ (t : Packed) (ws : PatternSet) (s : ℕ) where
  standing_mem : (i : ℕ) → Memᴰ i (standing t ws s) → (i < length ws.counts) × Occurs t (pattern_at ws i) s
  unfolding standing
  standing_mem i m =
      let k = among_mem (λ j. occurs t (pattern_at ws j) s) 0 (length ws.counts) i m in
      (omega (arith, k.high), (occurs_iff t (pattern_at ws i) s).0 k.passes)

  mem_standing : (i : ℕ) → i < length ws.counts → Occurs t (pattern_at ws i) s → Memᴰ i (standing t ws s)
  unfolding standing
  mem_standing i l o =
      mem_among (λ j. occurs t (pattern_at ws j) s) 0 (length ws.counts) i
      (record { low = omega arith; high = omega arith; passes = (occurs_iff t (pattern_at ws i) s).1 o })

  standing_distinct : Distinct (standing t ws s)
  unfolding standing
  standing_distinct = among_distinct (λ j. occurs t (pattern_at ws j) s) 0 (length ws.counts)

-- ---- the claim

module _ (t : Packed) (ws vs : PatternSet) (π ρ : ℕ → ℕ) (same : Permuted ws vs π ρ) where
  -- pattern i of vs, and the pattern of vs for pattern j of ws
  there : (i s : ℕ) → i < length ws.counts → Occurs t (pattern_at vs i) s ↔ Occurs t (pattern_at ws (π i)) s
  there i s l = occurs_alike t (pattern_at vs i) (pattern_at ws (π i)) (same.alike i l) s

  back : (j s : ℕ) → j < length ws.counts → Occurs t (pattern_at ws j) s → Occurs t (pattern_at vs (ρ j)) s
  back j s l o = (there (ρ j) s (same.back_below j l)).1 (rw (same.back_there j l) o)

  same_places : set_places t vs ≡ set_places t ws
  same_places = le_antisymm
      (places_least t vs (set_places t ws) (λ i l.
      let h : i < length ws.counts = omega (arith, same.as_many) in
      omega (arith, places_below t ws (π i) (same.below i h), (same.alike i h).as_many)))
      (places_least t ws (set_places t vs) (λ j l.
      let h : ρ j < length vs.counts = omega (arith, same.back_below j l, same.as_many) in
      let e : places t (pattern_at ws (π (ρ j))) ≡ places t (pattern_at ws j) = ap (λ (k : ℕ). places t (pattern_at ws k)) (same.back_there j l) in
      omega (arith, places_below t vs (ρ j) h, (same.alike (ρ j) (same.back_below j l)).as_many)))

  same_hit : (p i : ℕ) → i < length vs.counts → IsHit t vs (hit_at p i) ↔ IsHit t ws (hit_at p (π i))
  same_hit p i l =
      let h : i < length ws.counts = omega (arith, same.as_many) in (
        λ o. record { known = same.below i h; occurs_there = (there i p h).0 o.occurs_there },
        λ o. record { known = l; occurs_there = (there i p h).1 o.occurs_there },
      )

  same_listed : (a b p i : ℕ) → i < length vs.counts → Memᴰ (hit_at p i) (all_hits t vs a b) ↔ Memᴰ (hit_at p (π i)) (all_hits t ws a b)
  same_listed a b p i l =
      let v = all_exactly t vs a b (hit_at p i) in
      let w = all_exactly t ws a b (hit_at p (π i)) in
      let h = same_hit p i l in (
        λ m. let r = v.0 m in w.1 (h.0 r.0, r.1, r.2),
        λ m. let r = w.0 m in v.1 (h.1 r.0, r.1, r.2),
      )

  same_standing : (s : ℕ) → length (standing t vs s) ≡ length (standing t ws s)
  same_standing s = le_antisymm
      (no_more π ρ (standing t vs s) (standing t ws s) (standing_distinct t vs s)
      (λ i m. same.there_back i (omega (arith, (standing_mem t vs s i m).0, same.as_many)))
      (λ i m.
      let h : i < length ws.counts = omega (arith, (standing_mem t vs s i m).0, same.as_many) in
      mem_standing t ws s (π i) (same.below i h) ((there i s h).0 (standing_mem t vs s i m).1)))
      (no_more ρ π (standing t ws s) (standing t vs s) (standing_distinct t ws s)
      (λ j m. same.back_there j (standing_mem t ws s j m).0)
      (λ j m.
      let h = (standing_mem t ws s j m).0 in
      mem_standing t vs s (ρ j) (omega (arith, same.back_below j h, same.as_many)) (back j s h (standing_mem t ws s j m).1)))

  same_many : (p : ℕ) → length (hits_at t vs p) ≡ length (hits_at t ws p)
  same_many p = length_at t vs p ∙ same_standing p ∙ sym (length_at t ws p)

-- ---- the calls go on alike

-- two runs that differ in what they wrote alone
record SameWay (r k : SetRun) : Type 0 where
  steps : r.steps ≡ k.steps
  mark : r.mark ≡ k.mark
  ending : r.ending ≡ k.ending

module _ (t : Packed) (ws vs : PatternSet) (E : set_places t vs ≡ set_places t ws)
    (many : (p : ℕ) → length (hits_at t vs p) ≡ length (hits_at t ws p)) where
  way_halted : (s : ℕ) → SameWay (halted (set_places t vs) s) (halted (set_places t ws) s)
  way_halted s = rw E (record { steps = refl; mark = refl; ending = refl })

  way_onward : (s : ℕ) (r k : SetRun) → SameWay r k → SameWay (onward 1 (hits_at t vs s) r) (onward 1 (hits_at t ws s) k)
  unfolding onward
  way_onward s r k h = record { steps = ap (λ (n : ℕ). 1 + n) h.steps; mark = h.mark; ending = h.ending }

  same_way : (b s room : ℕ) → SameWay (set_run t vs b s room) (set_run t ws b s room)
  same_way zero s room = rw (run_spent t vs s room, run_spent t ws s room) (way_halted s)
  same_way (suc b) s room = go (same_way b (suc s) (room - length (hits_at t ws s))) (dec_le (set_places t ws) s)
    where
      Rest : Type 0
      Rest = SameWay (set_run t vs b (suc s) (room - length (hits_at t ws s))) (set_run t ws b (suc s) (room - length (hits_at t ws s)))

      step : Rest → s < set_places t ws → Dec (length (hits_at t ws s) ≤ room) → SameWay (set_run t vs (suc b) s room) (set_run t ws (suc b) s room)
      step ih h (yes l) =
          rw (run_step t vs s room b (rw E h) (rw (many s) l), run_step t ws s room b h l, many s)
          (way_onward s _ _ ih)
      step ih h (no n) =
          rw (run_full t vs s room b (rw E h) (rw (many s) (omega arith)), run_full t ws s room b h (omega arith))
          (record { steps = refl; mark = refl; ending = refl })

      go : Rest → Dec (set_places t ws ≤ s) → SameWay (set_run t vs (suc b) s room) (set_run t ws (suc b) s room)
      go ih (yes h) = rw (run_ended t vs s room (suc b) (rw E h), run_ended t ws s room (suc b) h) (way_halted s)
      go ih (no n) = step ih (omega arith) (dec_le _ _)

-- The theorem.
pub same_hits : (t : Packed) (ws vs : PatternSet) (π ρ : ℕ → ℕ) → Permuted ws vs π ρ → SameHits t ws vs π
same_hits t ws vs π ρ same =
    let way = same_way t ws vs (same_places t ws vs π ρ same) (same_many t ws vs π ρ same) in
    record {
      places_are = same_places t ws vs π ρ same;
      hits_are = same_hit t ws vs π ρ same;
      listed = same_listed t ws vs π ρ same;
      as_many = same_many t ws vs π ρ same;
      steps = λ b s room. (way b s room).steps;
      mark = λ b s room. (way b s room).mark;
      ending = λ b s room. (way b s room).ending;
      written = λ b s room p i h l.
          let E = same_places t ws vs π ρ same in
          rw ((left t vs b s room (rw E h)).written_are, (left t ws b s room h).written_are, (way b s room).mark)
          (same_listed t ws vs π ρ same s (set_run t ws b s room).mark p i l);
    }
