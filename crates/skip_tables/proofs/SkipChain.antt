-- Laws of the chains of the skip method: what a head and a link say of the pattern's indices.
-- Assumes nothing.
use Prim.Native.Nat.{ℕ, ◌+◌, ◌-◌, ◌*◌, ◌/◌, ◌≤◌, ◌<◌}
use mathlib.Core.Path.{◌≡◌, refl, sym, ap, ◌∙◌}
use mathlib.Core.Bool.{Bool, true}
use mathlib.Core.List.{List}
use native.Mathlib.Omega.{arith}
use lib.ListN.{get_or}
use Rattle.rules.specs.Pattern.{Pattern}
use Rattle.matcher.specs.Tables.{last_below, in_chain, chained, ChainTables}
use Rattle.skip_tables.proofs.SkipBelow.{below_is, below_lower}
use Rattle.skip_tables.proofs.SkipShows.{chain_byte}

-- how many indices are chained
pub chained_is : (m : ℕ) → chained m ≡ (m + 1) / 8 * 8 - 8
unfolding chained
chained_is m = refl

-- each of them fits into the pattern
pub chained_fits : (m : ℕ) → 15 ≤ m → chained m + 7 ≤ m
unfolding chained
chained_fits m long = omega arith

-- a walk from the head of a chain has come to j, one more than the last index below some bound that is not below h
pub record Headed (f : ℕ → Bool) (top h j : ℕ) : Type 0 where
  pub bound : ℕ
  pub chain : j ≡ last_below f bound
  pub over : h ≤ bound
  pub within : bound ≤ top

module _ (f : ℕ → Bool) (top h : ℕ) where
  pub headed_first : (j : ℕ) → j ≡ last_below f top → h ≤ top → Headed f top h j
  headed_first j e fits = record { bound = top; chain = e; over = fits; within = omega arith }

  module _ (j : ℕ) (k : Headed f top h j) where
    pub headed_within : j ≤ top
    headed_within = omega (arith, k.chain, k.within, (below_is f k.bound).within)

    -- index j - 1 is one of the chain
    pub headed_passes : 0 < j → f (j - 1) ≡ true
    headed_passes g = (below_is f k.bound).passes (j - 1) (omega (arith, k.chain))

    -- i is the link after it
    pub headed_more : h < j → (i : ℕ) → i ≡ last_below f (j - 1) → Headed f top h i
    headed_more g i e = record { bound = j - 1; chain = e; over = omega arith; within = omega (arith, headed_within) }

    pub headed_done : j ≤ h → j ≡ last_below f h
    headed_done l = k.chain ∙ sym (below_lower f k.bound h (omega (arith, k.chain)) k.over)

pub link_less : (f : ℕ → Bool) (j i : ℕ) → 0 < j → i ≡ last_below f (j - 1) → i < j
link_less f j i g e = omega (arith, (below_is f (j - 1)).within)

-- links read from the tables
module _ (w : Pattern) (cells : List ℕ) (tables : ChainTables w cells) where
  -- the link after index j - 1 in the chain of B
  pub chain_link : (j : ℕ) → 0 < j → j ≤ chained w.count → (B : ℕ) → in_chain w B (j - 1) ≡ true
      → get_or cells (255 + j) 0 ≡ last_below (in_chain w B) (j - 1)
  chain_link j some few B h =
      let before : 255 + j ≡ 256 + (j - 1) = omega arith in
      ap (λ (i : ℕ). get_or cells i 0) before
      ∙ tables.link_is (j - 1) (omega arith)
      ∙ ap (λ (v : ℕ). last_below (in_chain w v) (j - 1)) (chain_byte w (j - 1) B h)
