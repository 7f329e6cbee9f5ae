-- The hits of a set in a text: which pattern stands where, and their order.
use Rattle.std.specs.Prelude.{ℕ, zero, suc, ◌-◌, ◌<◌, ◌≡◌, ◌⊎◌, length}
use mathlib.Core.List.{List, [], ◌∷◌, ◌++◌, map, Memᴰ}
use Rattle.bits.specs.Packed.{Packed}
use Rattle.rules.specs.Ranges.{among}
use Rattle.rules.specs.Occurrence.{Occurs, occurs}
use Rattle.set_rules.specs.PatternSet.{PatternSet, pattern_at}

-- "Hits are pairs of place and word number (from 0)"
pub record Hit : Type 0 where
  pub place : ℕ
  pub number : ℕ

abbrev pub hit_at : ℕ → ℕ → Hit
hit_at s i = record { place = s; number = i }

-- the pattern of that number is one of the set, and it occurs at that place: before its own E, as `Occurs` has it
pub record IsHit (t : Packed) (ws : PatternSet) (h : Hit) : Type 0 where
  pub known : h.number < length ws.counts
  pub occurs_there : Occurs t (pattern_at ws h.number) h.place

-- "A step decides one place for all words": the numbers of the patterns that occur at s, rising
unfoldable pub standing : Packed → PatternSet → ℕ → List ℕ
standing t ws s = among (λ i. occurs t (pattern_at ws i) s) 0 (length ws.counts)

-- the hits at s
unfoldable pub hits_at : Packed → PatternSet → ℕ → List Hit
hits_at t ws s = map (hit_at s) (standing t ws s)

-- those of the k places from s on, "rising by place and then by word"
unfoldable pub hits_of : Packed → PatternSet → ℕ → ℕ → List Hit
hits_of t ws s zero = []
hits_of t ws s (suc k) = hits_at t ws s ++ hits_of t ws (suc s) k

-- all hits from a on and before b
unfoldable pub all_hits : Packed → PatternSet → ℕ → ℕ → List Hit
all_hits t ws a b = hits_of t ws a (b - a)

-- one hit comes before another: "by place and then by word"
abbrev pub Before : Hit → Hit → Type 0
Before g h = (g.place < h.place) ⊎ ((g.place ≡ h.place) × (g.number < h.number))

-- each hit of a list comes before all that follow it, so none is there twice
abbrev pub InOrder : List Hit → Type 0
InOrder [] = Unit
InOrder (h ∷ l) = ((g : Hit) → Memᴰ g l → Before h g) × InOrder l

-- "a pair takes two cells of the list, place first"
unfoldable pub cells_of : List Hit → List ℕ
cells_of [] = []
cells_of (h ∷ l) = h.place ∷ h.number ∷ cells_of l

-- the first k pairs of a list's cells
unfoldable pub pairs_of : ℕ → List ℕ → List Hit
pairs_of zero cells = []
pairs_of (suc k) [] = []
pairs_of (suc k) (p ∷ []) = []
pairs_of (suc k) (p ∷ i ∷ cells) = hit_at p i ∷ pairs_of k cells
