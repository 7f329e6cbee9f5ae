-- A set with its patterns in another order has the same hits, with the numbers permuted: "hits are pairs of place and word number
-- (from 0)" (document 02), and the number says which pattern it is and nothing else.
use Rattle.std.specs.Prelude.{ℕ, ◌≤◌, ◌<◌, ◌≡◌, ◌↔◌, length}
use mathlib.Core.List.{Memᴰ}
use Rattle.bits.specs.Packed.{Packed}
use Rattle.rules.specs.Wild.{Alike}
use Rattle.set_rules.specs.PatternSet.{PatternSet, pattern_at, set_places}
use Rattle.set_rules.specs.Hits.{hit_at, IsHit, hits_at, all_hits}
use Rattle.set_rules.specs.SetMachine.{set_run}

-- The set vs has the patterns of ws in another order: its pattern i is alike to pattern π i of ws, and ρ is the way back. Two
-- patterns that are alike may still have other bytes at wild bits and past their last bit.
pub record Permuted (ws vs : PatternSet) (π ρ : ℕ → ℕ) : Type 0 where
  pub as_many : length vs.counts ≡ length ws.counts
  pub below : (i : ℕ) → i < length ws.counts → π i < length ws.counts
  pub back_below : (i : ℕ) → i < length ws.counts → ρ i < length ws.counts
  pub there_back : (i : ℕ) → i < length ws.counts → ρ (π i) ≡ i
  pub back_there : (i : ℕ) → i < length ws.counts → π (ρ i) ≡ i
  pub alike : (i : ℕ) → i < length ws.counts → Alike (pattern_at vs i) (pattern_at ws (π i))

-- E is the same; a place with the number i is a hit of the one just if it is one of the other with the number π i; so it is with
-- all hits from a place on and before another; and of each place there are as many. So from the same mark with the same budget and
-- room the machine makes as many steps, leaves the same mark and stops alike; and from a mark that is at most E it writes the same
-- pairs with the numbers permuted.
pub record SameHits (t : Packed) (ws vs : PatternSet) (π : ℕ → ℕ) : Type 0 where
  pub places_are : set_places t vs ≡ set_places t ws
  pub hits_are : (p i : ℕ) → i < length vs.counts → IsHit t vs (hit_at p i) ↔ IsHit t ws (hit_at p (π i))
  pub listed : (a b p i : ℕ) → i < length vs.counts
      → Memᴰ (hit_at p i) (all_hits t vs a b) ↔ Memᴰ (hit_at p (π i)) (all_hits t ws a b)
  pub as_many : (p : ℕ) → length (hits_at t vs p) ≡ length (hits_at t ws p)
  pub steps : (budget s room : ℕ) → (set_run t vs budget s room).steps ≡ (set_run t ws budget s room).steps
  pub mark : (budget s room : ℕ) → (set_run t vs budget s room).mark ≡ (set_run t ws budget s room).mark
  pub ending : (budget s room : ℕ) → (set_run t vs budget s room).ending ≡ (set_run t ws budget s room).ending
  pub written : (budget s room p i : ℕ) → s ≤ set_places t ws → i < length vs.counts
      → Memᴰ (hit_at p i) (set_run t vs budget s room).written ↔ Memᴰ (hit_at p (π i)) (set_run t ws budget s room).written
