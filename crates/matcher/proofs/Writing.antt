-- Places written to a list one after the other, and what makes a step of them: every method's step ends by these laws.
-- Assumes nothing.
use mathlib.Core.Path.{◌≡◌, refl, sym, ap, ap₂, subst, ◌∙◌}
use mathlib.Core.Bool.{Bool, true, false}
use mathlib.Core.List.{List, [], ◌∷◌, ◌++◌}
use Prim.Native.Nat.{ℕ, suc, ◌+◌, ◌-◌, ◌≤◌, ◌<◌}
use native.Mathlib.Nat.{add-zero}
use native.Mathlib.Omega.{arith}
use borrow.Author.Tests.{lt-ltb, le-ltb}
use lib.ListN.{length, get_or, take, set, length-append}
use lib.Seq.{sets, length-sets, take_all, take_at, get_or_at}
use Rattle.bits.specs.Packed.{Packed}
use Rattle.rules.specs.declared.Method.{Method}
use Rattle.rules.specs.Ranges.{keep}
use Rattle.rules.specs.Pattern.{Pattern}
use Rattle.rules.specs.Occurrence.{matches}
use Rattle.rules.specs.Step.{finds, next}
use Rattle.matcher.specs.Progress.{Writing, Stepped}

pub writing_none : (before : List ℕ) (had : ℕ) → had ≤ length before → Writing before had [] before had
writing_none before had h = record { cells = refl; count = sym (add-zero had); fits = h }

sets_snoc : (l : List ℕ) (i : ℕ) (vs : List ℕ) (v : ℕ) → sets l i (vs ++ v ∷ []) ≡ set (sets l i vs) (i + length vs) v
sets_snoc l i [] v = rw (add-zero i)
sets_snoc l i (u ∷ vs) v =
    let there : suc i + length vs ≡ i + suc (length vs) = omega arith in
    sets_snoc (set l i u) (suc i) vs v ∙ ap (λ (n : ℕ). set (sets (set l i u) (suc i) vs) n v) there

-- one place more
pub writing_more : (before : List ℕ) (had : ℕ) (found list : List ℕ) (hits p : ℕ) → Writing before had found list hits
    → hits < length before → Writing before had (found ++ p ∷ []) (set list hits p) (hits + 1)
writing_more before had found list hits p u h =
    record {
      cells = ap₂ (λ (l : List ℕ) (n : ℕ). set l n p) u.cells u.count ∙ sym (sets_snoc before had found p);
      count = omega (arith, u.count, length-append found (p ∷ []));
      fits = omega arith;
    }

pub writing_length : (before : List ℕ) (had : ℕ) (found list : List ℕ) (hits : ℕ) → Writing before had found list hits → length list ≡ length before
writing_length before had found list hits u = ap length u.cells ∙ length-sets before had found

pub sets_append : (l : List ℕ) (i : ℕ) (us vs : List ℕ) → sets l i (us ++ vs) ≡ sets (sets l i us) (i + length us) vs
sets_append l i [] vs = rw (add-zero i)
sets_append l i (u ∷ us) vs =
    let there : suc i + length us ≡ i + suc (length us) = omega arith in
    sets_append (set l i u) (suc i) us vs ∙ ap (λ (n : ℕ). sets (sets (set l i u) (suc i) us) n vs) there

-- places written after others
pub writing_append : (before : List ℕ) (had : ℕ) (found list : List ℕ) (hits : ℕ) (more list' : List ℕ) (hits' : ℕ) → Writing before had found list hits
    → Writing list hits more list' hits' → Writing before had (found ++ more) list' hits'
writing_append before had found list hits more list' hits' u v =
    let same : length list ≡ length before = writing_length before had found list hits u in
    let size : length (found ++ more) ≡ length found + length more = length-append found more in
    record {
      cells = v.cells ∙ ap₂ (λ (l : List ℕ) (n : ℕ). sets l n more) u.cells u.count ∙ sym (sets_append before had found more);
      count = omega (arith, u.count, v.count);
      fits = omega (arith, v.fits);
    }

module _ (x : Method) (t : Packed) (w : Pattern) (s : ℕ) (before : List ℕ) (had : ℕ) where
  -- all that the step finds is written
  pub stepped_whole : (list : List ℕ) (hits : ℕ) → Writing before had (finds x t w s) list hits
      → Stepped x t w s before had (next x t w s) hits false list
  stepped_whole list hits u =
      let room : length (finds x t w s) ≤ length before - had = omega (arith, u.count, u.fits) in
      let all : take (length before - had) (finds x t w s) ≡ finds x t w s = take_all _ _ room in
      record {
        is_full = sym (le-ltb _ _ room);
        mark = refl;
        count = rw all u.count;
        cells = rw all u.cells;
      }

  -- the list is full, and the step finds p next
  pub stepped_full : (found rest list : List ℕ) (p : ℕ) → had ≤ length before → finds x t w s ≡ found ++ p ∷ rest → Writing before had found list (length before)
      → Stepped x t w s before had p (length before) true list
  stepped_full found rest list p h e u =
      let free : length found ≡ length before - had = omega (arith, u.count) in
      let front : take (length before - had) (finds x t w s) ≡ found = rw e (take_at found (p ∷ rest) (length before - had) free) in
      let size : length (finds x t w s) ≡ length found + length (p ∷ rest) = ap length e ∙ length-append found (p ∷ rest) in
      let more : length before - had < length (finds x t w s) = omega arith in
      let there : get_or (finds x t w s) (length before - had) 0 ≡ p = rw e (get_or_at found p rest 0 (length before - had) free) in
      record {
        is_full = sym (lt-ltb _ _ more);
        mark = sym there;
        count = rw front u.count;
        cells = rw front u.cells;
      }

  -- nothing is found
  pub stepped_none : finds x t w s ≡ [] → had ≤ length before → Stepped x t w s before had (next x t w s) had false before
  stepped_none e h = stepped_whole before had (rw e (writing_none before had h))

  -- the place s alone is found, and has a cell
  pub stepped_one : finds x t w s ≡ s ∷ [] → had < length before → Stepped x t w s before had (next x t w s) (had + 1) false (set before had s)
  stepped_one e h =
      stepped_whole (set before had s) (had + 1) (rw e (writing_more before had [] before had s (writing_none before had (omega arith)) h))

  -- or has none
  pub stepped_no_cell : finds x t w s ≡ s ∷ [] → had ≡ length before → Stepped x t w s before had s had true before
  stepped_no_cell e h =
      let all : Writing before had [] before (length before) = record { cells = refl; count = omega arith; fits = omega arith } in
      subst (λ (n : ℕ). Stepped x t w s before had s n true before) (sym h) (stepped_full [] [] before s (omega arith) e all)

  -- a step that decides its own place alone, by comparison
  module _ (alone : finds x t w s ≡ keep (matches t w s) s []) where
    found : (b : Bool) → matches t w s ≡ b → finds x t w s ≡ keep b s []
    found b e = alone ∙ ap (λ (b : Bool). keep b s []) e

    -- the pattern stands at s, and no cell is free
    pub alone_cut : matches t w s ≡ true → had ≡ length before → Stepped x t w s before had s had true before
    alone_cut hit h = stepped_no_cell (found true hit) h

    -- it stands there, and a cell is free
    pub alone_hit : (at : ℕ) → at ≡ next x t w s → matches t w s ≡ true → had < length before → Stepped x t w s before had at (had + 1) false (set before had s)
    alone_hit at moved hit h = rw moved (stepped_one (found true hit) h)

    -- it does not stand there
    pub alone_miss : (at : ℕ) → at ≡ next x t w s → matches t w s ≡ false → had ≤ length before → Stepped x t w s before had at had false before
    alone_miss at moved miss h = rw moved (stepped_none (found false miss) h)
