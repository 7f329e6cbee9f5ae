-- The table of refusals of a set, read row by row: the tests that a check makes, in their order, and the refusal that each
-- comes to; and what a call may rely on that no row refuses.
-- Assumes nothing.
use Prim.Native.Nat.{ℕ, zero, suc, ◌+◌, ◌-◌, ◌*◌, ◌^◌, ◌≤◌, ◌<◌}
use mathlib.Core.Path.{◌≡◌, refl, sym, ap, ◌∙◌}
use mathlib.Core.Bool.{Bool, true, false, cond}
use mathlib.Core.List.{List, [], ◌∷◌, ◌++◌, append-nil, append_assoc}
use native.Mathlib.Nat.{add-zero, zero-add, suc-add}
use native.Mathlib.Omega.{arith}
use borrow.Author.Tests.{lt-ltb, le-ltb, ltb-false, eq-eqb, ne_eqb, eqb-false}
use lib.Dec.{ltb, eqb}
use lib.ListN.{length, get_or, drop, length-drop}
use Rattle.bits.specs.Packed.{Packed, bytes_for}
use Rattle.rules.specs.declared.Method.TheVariants.{Plain}
use Rattle.search.specs.Verdict.{Row, Verdict, refused, accepted, judge, AllFail, text_too_long, text_bytes_missing}
use Rattle.search.proofs.Verdict.{past, judge_accepted}
use Rattle.search.proofs.Accepting.{neither}
use Rattle.matcher.specs.Ready.{GoodPattern}
use Rattle.set_rules.specs.PatternSet.{PatternSet, start_of, pattern_from, pattern_at, set_places}
use Rattle.set_rules.specs.Verdict.{set_size, pattern_rows, rows_from, mark_beyond, rows}
use Rattle.set.specs.Parts.{Allowed}

-- ---- tables in parts

-- what a front part refuses, the whole refuses
pub judge_front : {A B : Type 0} (a : A) (b : B) (front rest : List Row) (k : ℕ) → judge front a ≡ refused k → judge (front ++ rest) b ≡ refused k
unfolding judge
judge_front a b [] rest k h = absurd (let z : ◌≡◌ {A = ℕ} 0 1 = cc in omega arith)
judge_front {A} {B} a b (r ∷ front) rest k h = go r.holds (judge_front a b front rest k) h
  where
    go : (c : Bool) → (judge front a ≡ refused k → judge (front ++ rest) b ≡ refused k)
        → cond {A = Verdict A} c (refused r.number) (judge front a) ≡ refused k
        → cond {A = Verdict B} c (refused r.number) (judge (front ++ rest) b) ≡ refused k
    go true ih g = let same : r.number ≡ k = cc in ap {B = Verdict B} refused same
    go false ih g = ih g

-- the refusal does not depend on the value
pub judge_again : {A B : Type 0} (a : A) (b : B) (table : List Row) (k : ℕ) → judge table a ≡ refused k → judge table b ≡ refused k
judge_again a b table k h = rw append-nil at (judge_front a b table [] k h)

pub fail_append : (a b : List Row) → AllFail a → AllFail b → AllFail (a ++ b)
fail_append [] b p q = q
fail_append (r ∷ a) b p q = (p.0, fail_append a b p.1 q)

pub fail_parts : (a b : List Row) → AllFail (a ++ b) → AllFail a × AllFail b
fail_parts [] b p = (tt, p)
fail_parts (r ∷ a) b p = let s = fail_parts a b p.1 in ((p.0, s.0), s.1)

-- ---- the rows of one pattern

module _ (bytes fixed : List ℕ) (start m : ℕ) where
  abbrev Comes : Verdict (Unit {0}) → Type 0
  Comes v = v ≡ judge (pattern_rows (pattern_from bytes fixed start m)) tt

  pub one_3_none : m ≡ 0 → Comes (refused 3)
  unfolding judge
  one_3_none h = simp (eq-eqb _ _ h)

  module _ (c : m ≡ 0 → ⊥) where
    pub one_3_many : 2048 < m → Comes (refused 3)
    unfolding judge
    one_3_many h = simp (ne_eqb _ _ c, lt-ltb _ _ h)

    module _ (d : m ≤ 2048) where
      pub one_4 : length bytes < start + bytes_for m → Comes (refused 4)
      unfolding judge
      one_4 h = simp (ne_eqb _ _ c, le-ltb _ _ d, lt-ltb (length (drop start bytes)) (bytes_for m) (omega (arith, length-drop start bytes)))

      module _ (e : start + bytes_for m ≤ length bytes) where
        pub one_17 : length fixed < start + bytes_for m → Comes (refused 17)
        unfolding judge
        one_17 h =
            simp (ne_eqb _ _ c, le-ltb _ _ d, le-ltb (length (drop start bytes)) (bytes_for m) (omega (arith, length-drop start bytes)), lt-ltb (length (drop start fixed)) (bytes_for m) (omega (arith, length-drop start fixed)))

        pub one_passed : start + bytes_for m ≤ length fixed → Comes (accepted tt)
        unfolding judge
        one_passed h =
            simp (ne_eqb _ _ c, le-ltb _ _ d, le-ltb (length (drop start bytes)) (bytes_for m) (omega (arith, length-drop start bytes)), le-ltb (length (drop start fixed)) (bytes_for m) (omega (arith, length-drop start fixed)))

-- what a pattern is that passed
pub one_good : (bytes fixed : List ℕ) (start m : ℕ) → AllFail (pattern_rows (pattern_from bytes fixed start m)) → GoodPattern Plain (pattern_from bytes fixed start m)
one_good bytes fixed start m (a, (b, (c, d))) =
    let n = neither (eqb m 0) (ltb 2048 m) a in
    let some = eqb-false m 0 n.0 in
    record { some_bits = omega (arith, some); few_bits = ltb-false _ _ n.1; bytes_there = ltb-false _ _ b; fixed_there = ltb-false _ _ c; fit = refl }

-- ---- the rows of several patterns

module _ (ws : PatternSet) where
  pub rows_parts : (i j k : ℕ) → rows_from ws i (j + k) ≡ rows_from ws i j ++ rows_from ws (i + j) k
  unfolding rows_from
  rows_parts i zero k = rw (zero-add k, add-zero i)
  rows_parts i (suc j) k =
      let there : suc i + j ≡ i + suc j = omega arith in
      rw (suc-add j k)
      (ap (λ (l : List Row). pattern_rows (pattern_at ws i) ++ l) (rows_parts (suc i) j k)
      ∙ ap (λ (n : ℕ). pattern_rows (pattern_at ws i) ++ rows_from ws (suc i) j ++ rows_from ws n k) there)

  pub rows_none : rows_from ws 0 0 ≡ []
  unfolding rows_from
  rows_none = refl

  one_row : (i : ℕ) → rows_from ws i 1 ≡ pattern_rows (pattern_at ws i)
  unfolding rows_from
  one_row i = refl

  pub rows_more : (i : ℕ) → rows_from ws 0 (suc i) ≡ rows_from ws 0 i ++ pattern_rows (pattern_at ws i)
  rows_more i =
      let one : suc i ≡ i + 1 = omega arith in
      ap (rows_from ws 0) one ∙ rows_parts 0 i 1 ∙ ap (λ (n : ℕ). rows_from ws 0 i ++ rows_from ws n 1) (zero-add i)
      ∙ ap (λ (l : List Row). rows_from ws 0 i ++ l) (one_row i)

  -- pattern i's rows are the first of those from it on
  pub rows_here : (i k : ℕ) → i < k → rows_from ws 0 k ≡ rows_from ws 0 i ++ (pattern_rows (pattern_at ws i) ++ rows_from ws (suc i) (k - suc i))
  unfolding rows_from
  rows_here i k h =
      let whole : k ≡ i + suc (k - suc i) = omega arith in
      ap (rows_from ws 0) whole ∙ rows_parts 0 i (suc (k - suc i))
      ∙ ap (λ (n : ℕ). rows_from ws 0 i ++ rows_from ws n (suc (k - suc i))) (zero-add i)

  -- each pattern passed
  pub each_passed : (k : ℕ) → AllFail (rows_from ws 0 k) → (i : ℕ) → i < k → AllFail (pattern_rows (pattern_at ws i))
  each_passed k f i h =
      let there = fail_parts (rows_from ws 0 i) (pattern_rows (pattern_at ws i) ++ rows_from ws (suc i) (k - suc i)) (rw (rows_here i k h) at f) in
      (fail_parts (pattern_rows (pattern_at ws i)) (rows_from ws (suc i) (k - suc i)) there.1).0

  -- the patterns before i take at most 256 bytes each
  pub start_small : (i : ℕ) → AllFail (rows_from ws 0 i) → start_of ws.counts i ≤ 256 * i
  unfolding start_of
  start_small zero f = omega arith
  start_small (suc i) f =
      let parts = fail_parts (rows_from ws 0 i) (pattern_rows (pattern_at ws i)) (rw (rows_more i) at f) in
      let good = one_good ws.bytes ws.fixed (start_of ws.counts i) (get_or ws.counts i 0) parts.1 in
      omega (arith, start_small i parts.0, good.few_bits)

-- one pattern more has passed
pub passing : (ws : PatternSet) (i : ℕ) → AllFail (rows_from ws 0 i) → accepted tt ≡ judge {A = Unit {0}} (pattern_rows (pattern_at ws i)) tt
    → AllFail (rows_from ws 0 (i + 1))
passing ws i f e =
    let one : i + 1 ≡ suc i = omega arith in
    rw (one, rows_more ws i) (fail_append (rows_from ws 0 i) (pattern_rows (pattern_at ws i)) f (judge_accepted tt (pattern_rows (pattern_at ws i)) tt (sym e)).0)

-- ---- the whole table

module _ (t : Packed) (ws : PatternSet) (s : ℕ) where
  abbrev Gives : Verdict (Unit {0}) → Type 0
  Gives v = v ≡ judge (rows t ws s) tt

  -- the rows before those of the patterns
  abbrev heads : List Row
  heads = text_too_long t ∷ text_bytes_missing t ∷ set_size ws ∷ []

  pub row_1 : 2 ^ 30 < t.count → Gives (refused 1)
  unfolding rows judge
  row_1 h = simp (lt-ltb _ _ h)

  module _ (a : t.count ≤ 2 ^ 30) where
    pub row_2 : length t.bytes < bytes_for t.count → Gives (refused 2)
    unfolding rows judge
    row_2 h = simp (le-ltb _ _ a, lt-ltb _ _ h)

    module _ (b : bytes_for t.count ≤ length t.bytes) where
      pub row_18_none : length ws.counts ≡ 0 → Gives (refused 18)
      unfolding rows judge
      row_18_none h = simp (le-ltb _ _ a, le-ltb _ _ b, eq-eqb _ _ h)

      module _ (c : length ws.counts ≡ 0 → ⊥) where
        pub row_18_many : 64 < length ws.counts → Gives (refused 18)
        unfolding rows judge
        row_18_many h = simp (le-ltb _ _ a, le-ltb _ _ b, ne_eqb _ _ c, lt-ltb _ _ h)

        module _ (d : length ws.counts ≤ 64) where
          heads_fail : AllFail heads
          heads_fail = (le-ltb _ _ a, (le-ltb _ _ b, (rw (ne_eqb _ _ c, le-ltb _ _ d) refl, tt)))

          -- the rows of pattern i refuse
          pub row_of : (i : ℕ) → i < length ws.counts → AllFail (rows_from ws 0 i) → (k : ℕ) → judge {A = Unit {0}} (pattern_rows (pattern_at ws i)) tt ≡ refused k → Gives (refused k)
          unfolding rows
          row_of i h f k e = sym (
              ap (λ (l : List Row). judge (heads ++ l ++ mark_beyond t ws s ∷ []) tt) (rows_here ws i (length ws.counts) h)
              ∙ past tt heads ((rows_from ws 0 i ++ rest) ++ mark_beyond t ws s ∷ []) heads_fail
              ∙ ap (λ (l : List Row). judge l tt) (append_assoc (rows_from ws 0 i) rest (mark_beyond t ws s ∷ []))
              ∙ past tt (rows_from ws 0 i) (rest ++ mark_beyond t ws s ∷ []) f
              ∙ ap (λ (l : List Row). judge l tt) (append_assoc (pattern_rows (pattern_at ws i)) (rows_from ws (suc i) (length ws.counts - suc i)) (mark_beyond t ws s ∷ []))
              ∙ judge_front tt tt (pattern_rows (pattern_at ws i)) (rows_from ws (suc i) (length ws.counts - suc i) ++ mark_beyond t ws s ∷ []) k e)
            where
              rest : List Row
              rest = pattern_rows (pattern_at ws i) ++ rows_from ws (suc i) (length ws.counts - suc i)

          module _ (f : AllFail (rows_from ws 0 (length ws.counts))) where
            last_row : judge {A = Unit {0}} (rows t ws s) tt ≡ judge (mark_beyond t ws s ∷ []) tt
            unfolding rows
            last_row =
                past tt heads (rows_from ws 0 (length ws.counts) ++ mark_beyond t ws s ∷ []) heads_fail
                ∙ past tt (rows_from ws 0 (length ws.counts)) (mark_beyond t ws s ∷ []) f

            pub row_6 : set_places t ws < s → Gives (refused 6)
            unfolding judge
            row_6 h = sym (last_row ∙ simp (lt-ltb _ _ h))

            pub no_row : s ≤ set_places t ws → Gives (accepted tt)
            unfolding judge
            no_row h = sym (last_row ∙ simp (le-ltb _ _ h))

-- a call that no row refuses
pub allowed : (t : Packed) (ws : PatternSet) (s : ℕ) → AllFail (rows t ws s) → Allowed t ws s
unfolding rows
allowed t ws s (a, (b, (c, more))) =
    let size = neither (eqb (length ws.counts) 0) (ltb 64 (length ws.counts)) c in
    let some = eqb-false (length ws.counts) 0 size.0 in
    let parts = fail_parts (rows_from ws 0 (length ws.counts)) (mark_beyond t ws s ∷ []) more in
    record {
      few_bits = ltb-false _ _ a;
      bytes_there = ltb-false _ _ b;
      patterns =
          record {
            some = omega (arith, some);
            few = ltb-false _ _ size.1;
            each = λ i h. one_good ws.bytes ws.fixed (start_of ws.counts i) (get_or ws.counts i 0) (each_passed ws (length ws.counts) parts.0 i h);
          };
      inside = ltb-false _ _ parts.1.0;
    }

-- a set of more than 64 patterns, by the tests that a caller makes
pub set_large : (text bytes fixed counts : List ℕ) (n s : ℕ) → n ≤ 2 ^ 30 → bytes_for n ≤ length text → (length counts ≡ 0 → ⊥) → 64 < length counts
    → refused 18 ≡ judge {A = Unit {0}} (rows (record { bytes = text; count = n }) (record { bytes = bytes; fixed = fixed; counts = counts }) s) tt
set_large text bytes fixed counts n s a b c h =
    row_18_many (record { bytes = text; count = n }) (record { bytes = bytes; fixed = fixed; counts = counts }) s a b c h
