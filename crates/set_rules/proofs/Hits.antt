-- Laws of the hits of a set: of the places between two marks, those of either part; what is among them; their order; and E.
-- Assumes nothing.
use Prim.Native.Nat.{ℕ, zero, suc, ◌+◌, ◌-◌, ◌≤◌, ◌<◌, max}
use mathlib.Core.Path.{◌≡◌, refl, sym, ap, ◌∙◌}
use mathlib.Core.Logic.{◌↔◌, ◌⊎◌, inl, inr}
use mathlib.Core.Bool.{Bool, true, false}
use mathlib.Core.List.Memᴰ
use mathlib.Core.List.{List, [], ◌∷◌, ◌++◌, map, append_assoc, append-nil, Memᴰ}
use native.Mathlib.Nat.{add-zero, zero-add, suc-add, not-suc-le-zero, sub_self}
use native.Mathlib.Omega.{arith}
use lib.ListN.{length, length-map}
use Rattle.bits.specs.Packed.{Packed}
use Rattle.rules.specs.Ranges.{keep, among}
use Rattle.rules.specs.Occurrence.{places, occurs}
use Rattle.rules.proofs.Ranges.{among_mem, mem_among, eq_or_below}
use Rattle.rules.proofs.Occurrence.{occurs_iff}
use Rattle.set_rules.specs.PatternSet.{PatternSet, pattern_at, largest, set_places}
use Rattle.set_rules.specs.Hits.{Hit, hit_at, IsHit, standing, hits_at, hits_of, all_hits, Before, InOrder, cells_of, pairs_of}

-- ---- the largest of several values

pub largest_below : (f : ℕ → ℕ) (k i : ℕ) → i < k → f i ≤ largest f k
unfolding largest
largest_below f zero i l = absurd (not-suc-le-zero l)
largest_below f (suc k) i l = go (λ b. largest_below f k i b) (eq_or_below (omega arith))
  where
    go : (i < k → f i ≤ largest f k) → (i ≡ k) ⊎ (i < k) → f i ≤ max (largest f k) (f k)
    go ih (inl e) = rw e (omega arith)
    go ih (inr b) = omega (arith, ih b)

pub largest_least : (f : ℕ → ℕ) (k b : ℕ) → ((i : ℕ) → i < k → f i ≤ b) → largest f k ≤ b
unfolding largest
largest_least f zero b h = omega arith
largest_least f (suc k) b h = omega (arith, largest_least f k b (λ i l. h i (omega arith)), h k (omega arith))

-- ---- pairs of one place

at_mem : (s : ℕ) (l : List ℕ) (h : Hit) → Memᴰ h (map (hit_at s) l) → (h.place ≡ s) × Memᴰ h.number l
at_mem s [] h m = absurd (Memᴰ.not-nil m)
at_mem s (i ∷ l) h m = go (λ n. at_mem s l h n) (Memᴰ.cases_cons m)
  where
    go : (Memᴰ h (map (hit_at s) l) → (h.place ≡ s) × Memᴰ h.number l) → (h ≡ hit_at s i) ⊎ Memᴰ h (map (hit_at s) l)
        → (h.place ≡ s) × Memᴰ h.number (i ∷ l)
    go ih (inl e) = (ap (λ (g : Hit). g.place) e, Memᴰ.head (ap (λ (g : Hit). g.number) e))
    go ih (inr n) = let r = ih n in (r.0, Memᴰ.tail r.1)

mem_at : (s : ℕ) (l : List ℕ) (h : Hit) → h.place ≡ s → Memᴰ h.number l → Memᴰ h (map (hit_at s) l)
mem_at s [] h e m = absurd (Memᴰ.not-nil m)
mem_at s (i ∷ l) h e m = go (λ n. mem_at s l h e n) (Memᴰ.cases_cons m)
  where
    go : (Memᴰ h.number l → Memᴰ h (map (hit_at s) l)) → (h.number ≡ i) ⊎ Memᴰ h.number l
        → Memᴰ h (hit_at s i ∷ map (hit_at s) l)
    go ih (inl q) = Memᴰ.head (λ k. record { place = e k; number = q k })
    go ih (inr n) = Memᴰ.tail (ih n)

pub largest_more : (f : ℕ → ℕ) (k : ℕ) → largest f (k + 1) ≡ max (largest f k) (f k)
unfolding largest
largest_more f k = let more : k + 1 ≡ suc k = omega arith in rw more

module _ (t : Packed) (ws : PatternSet) where
  -- E is no smaller than that of each pattern, and no larger than all of them
  pub places_below : (i : ℕ) → i < length ws.counts → places t (pattern_at ws i) ≤ set_places t ws
  unfolding set_places
  places_below i l = largest_below (λ j. places t (pattern_at ws j)) (length ws.counts) i l

  pub places_least : (b : ℕ) → ((i : ℕ) → i < length ws.counts → places t (pattern_at ws i) ≤ b) → set_places t ws ≤ b
  unfolding set_places
  places_least b h = largest_least (λ j. places t (pattern_at ws j)) (length ws.counts) b h

  -- ---- the hits of several places

  pub hits_append : (s j k : ℕ) → hits_of t ws s (j + k) ≡ hits_of t ws s j ++ hits_of t ws (s + j) k
  unfolding hits_of
  hits_append s zero k = rw (zero-add k, add-zero s)
  hits_append s (suc j) k =
      let there : suc s + j ≡ s + suc j = omega arith in
      rw (suc-add j k)
      (ap (λ (l : List Hit). hits_at t ws s ++ l) (hits_append (suc s) j k)
      ∙ sym (append_assoc (hits_at t ws s) (hits_of t ws (suc s) j) (hits_of t ws (suc s + j) k))
      ∙ ap (λ (n : ℕ). (hits_at t ws s ++ hits_of t ws (suc s) j) ++ hits_of t ws n k) there)

  pub all_append : (a b c : ℕ) → a ≤ b → b ≤ c → all_hits t ws a c ≡ all_hits t ws a b ++ all_hits t ws b c
  unfolding all_hits
  all_append a b c h g =
      let whole : c - a ≡ (b - a) + (c - b) = omega arith in
      let mid : a + (b - a) ≡ b = omega arith in
      rw whole (rw mid at (hits_append a (b - a) (c - b)))

  pub all_none : (a : ℕ) → all_hits t ws a a ≡ []
  unfolding all_hits hits_of
  all_none a = rw (sub_self a)

  pub all_one : (a : ℕ) → all_hits t ws a (suc a) ≡ hits_at t ws a
  unfolding all_hits hits_of
  all_one a = let one : suc a - a ≡ 1 = omega arith in rw one (append-nil (hits_at t ws a))

  -- one place more
  pub all_more : (a b : ℕ) → a ≤ b → all_hits t ws a (suc b) ≡ all_hits t ws a b ++ hits_at t ws b
  all_more a b h = all_append a b (suc b) h (omega arith) ∙ ap (λ (l : List Hit). all_hits t ws a b ++ l) (all_one b)

  pub length_at : (s : ℕ) → length (hits_at t ws s) ≡ length (standing t ws s)
  unfolding hits_at
  length_at s = length-map (standing t ws s) (hit_at s)

  pub none_at : (s : ℕ) → standing t ws s ≡ [] → hits_at t ws s ≡ []
  unfolding hits_at
  none_at s e = rw e

  -- places without a hit
  pub all_skip : (a b : ℕ) → a ≤ b → ((p : ℕ) → a ≤ p → p < b → standing t ws p ≡ []) → all_hits t ws a b ≡ []
  all_skip a b h none = let far : a + (b - a) ≡ b = omega arith in rw far at (go (b - a) (λ p l u. none p l (omega arith)))
    where
      go : (k : ℕ) → ((p : ℕ) → a ≤ p → p < a + k → standing t ws p ≡ []) → all_hits t ws a (a + k) ≡ []
      go zero n = rw (add-zero a) (all_none a)
      go (suc k) n =
          let there : a + suc k ≡ suc (a + k) = omega arith in
          rw there (all_more a (a + k) (omega arith) ∙ rw (go k (λ p l u. n p l (omega arith)), none_at (a + k) (n (a + k) (omega arith) (omega arith))) refl)

  pub all_further : (a b c : ℕ) → a ≤ b → b ≤ c → ((p : ℕ) → b ≤ p → p < c → standing t ws p ≡ []) → all_hits t ws a b ≡ all_hits t ws a c
  all_further a b c h g n =
      sym (all_append a b c h g ∙ ap (λ (l : List Hit). all_hits t ws a b ++ l) (all_skip b c g n) ∙ append-nil (all_hits t ws a b))

  -- ---- what is among them

  -- the hits at s are those pairs whose place is s
  pub at_exactly : (s : ℕ) (h : Hit) → Memᴰ h (hits_at t ws s) ↔ (IsHit t ws h × (h.place ≡ s))
  unfolding hits_at standing
  at_exactly s h = (
    λ m.
        let r = at_mem s _ h m in
        let k = among_mem (λ i. occurs t (pattern_at ws i) s) 0 (length ws.counts) h.number r.1 in (
          record { known = omega (arith, k.high); occurs_there = rw r.0 ((occurs_iff t (pattern_at ws h.number) s).0 k.passes) },
          r.0,
        ),
    λ o.
        mem_at s _ h o.1
        (mem_among (λ i. occurs t (pattern_at ws i) s) 0 (length ws.counts) h.number
        (record { low = omega arith; high = omega (arith, o.0.known); passes = rw o.1 at ((occurs_iff t (pattern_at ws h.number) h.place).1 o.0.occurs_there) })),
  )

  mem_low : (s k : ℕ) (h : Hit) → Memᴰ h (hits_of t ws s k) → IsHit t ws h × (s ≤ h.place) × (h.place < s + k)
  unfolding hits_of
  mem_low s zero h m = absurd (Memᴰ.not-nil m)
  mem_low s (suc k) h m = go (λ n. mem_low (suc s) k h n) (Memᴰ.append_cases (hits_at t ws s) m)
    where
      go : (Memᴰ h (hits_of t ws (suc s) k) → IsHit t ws h × (suc s ≤ h.place) × (h.place < suc s + k))
          → Memᴰ h (hits_at t ws s) ⊎ Memᴰ h (hits_of t ws (suc s) k) → IsHit t ws h × (s ≤ h.place) × (h.place < s + suc k)
      go ih (inl n) = let r = (at_exactly s h).0 n in (r.0, omega (arith, r.1), omega (arith, r.1))
      go ih (inr n) = let r = ih n in (r.0, omega (arith, r.1), omega (arith, r.2))

  low_mem : (s k : ℕ) (h : Hit) → IsHit t ws h → s ≤ h.place → h.place < s + k → Memᴰ h (hits_of t ws s k)
  unfolding hits_of
  low_mem s zero h o l u = absurd (omega arith)
  low_mem s (suc k) h o l u = go (λ n. low_mem (suc s) k h o n (omega arith)) (eq_or_below l)
    where
      go : (suc s ≤ h.place → Memᴰ h (hits_of t ws (suc s) k)) → (s ≡ h.place) ⊎ (s < h.place) → Memᴰ h (hits_at t ws s ++ hits_of t ws (suc s) k)
      go ih (inl e) = Memᴰ.append_left _ ((at_exactly s h).1 (o, sym e))
      go ih (inr n) = Memᴰ.append_right (hits_at t ws s) (ih n)

  -- the hits from a on and before b are just these
  pub all_exactly : (a b : ℕ) (h : Hit) → Memᴰ h (all_hits t ws a b) ↔ (IsHit t ws h × (a ≤ h.place) × (h.place < b))
  unfolding all_hits
  all_exactly a b h = (
    λ m. let r = mem_low a (b - a) h m in (r.0, r.1, omega (arith, r.1, r.2)),
    λ o. low_mem a (b - a) h o.0 o.1 (omega (arith, o.1, o.2)),
  )

-- ---- their order

-- two lists in order, each of the first before each of the second
order_append : (a b : List Hit) → InOrder a → InOrder b → ((g h : Hit) → Memᴰ g a → Memᴰ h b → Before g h) → InOrder (a ++ b)
order_append [] b p q r = q
order_append (x ∷ a) b p q r = (
  λ g m. first g (Memᴰ.append_cases a m),
  order_append a b p.1 q (λ g h m n. r g h (Memᴰ.tail m) n),
)
  where
    first : (g : Hit) → Memᴰ g a ⊎ Memᴰ g b → Before x g
    first g (inl m) = p.0 g m
    first g (inr m) = r x g (Memᴰ.head refl) m

-- the numbers at a place rise
numbers_order : (s i k : ℕ) (f : ℕ → Bool) → InOrder (map (hit_at s) (among f i k))
unfolding among
numbers_order s i zero f = tt
numbers_order s i (suc k) f = go (f i) (numbers_order s (suc i) k f)
  where
    go : (b : Bool) → InOrder (map (hit_at s) (among f (suc i) k)) → InOrder (map (hit_at s) (keep b i (among f (suc i) k)))
    go true ih = (
      λ g m.
          let r = at_mem s (among f (suc i) k) g m in
          let later = (among_mem f (suc i) k g.number r.1).low in
          grind (arith, r.0, later),
      ih,
    )
    go false ih = ih

module _ (t : Packed) (ws : PatternSet) where
  at_order : (s : ℕ) → InOrder (hits_at t ws s)
  unfolding hits_at standing
  at_order s = numbers_order s 0 (length ws.counts) _

  hits_order : (s k : ℕ) → InOrder (hits_of t ws s k)
  unfolding hits_of
  hits_order s zero = tt
  hits_order s (suc k) =
      order_append (hits_at t ws s) (hits_of t ws (suc s) k) (at_order s) (hits_order (suc s) k)
      (λ g h m n. inl (omega (arith, ((at_exactly t ws s g).0 m).1, (mem_low t ws (suc s) k h n).1)))

  pub all_order : (a b : ℕ) → InOrder (all_hits t ws a b)
  unfolding all_hits
  all_order a b = hits_order a (b - a)

-- ---- pairs as cells

pub pairs_cells : (l : List Hit) (rest : List ℕ) → pairs_of (length l) (cells_of l ++ rest) ≡ l
unfolding pairs_of cells_of
pairs_cells [] rest = refl
pairs_cells (h ∷ l) rest = ap (λ (m : List Hit). h ∷ m) (pairs_cells l rest)
