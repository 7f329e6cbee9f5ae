-- Laws of the tests over numbers that follow one another (specs/Ranges.antt).
use Prim.Native.Nat.{ℕ, zero, suc, ◌+◌, ◌-◌, ◌≤◌, ◌<◌}
use mathlib.Core.Path.{◌≡◌, refl, sym, ap, ◌∙◌}
use mathlib.Core.Logic.{◌⊎◌, inl, inr}
use mathlib.Core.Bool.{Bool, true, false, ◌&&◌, cond, false≢true}
use mathlib.Core.List.Memᴰ
use mathlib.Core.List.{List, [], ◌++◌, Memᴰ}
use mathlib.Core.Option.{Option, none, some}
use native.Mathlib.Nat.{add-zero, zero-add, suc-add, not-suc-le-zero, le_of_suc-le-suc, sub_self}
use native.Mathlib.Decide.{ℕ_discrete, dec_le}
use native.Mathlib.Omega.{arith}
use lib.ListN.{length, get_or, take}
use Rattle.rules.specs.Ranges.{implies, every, keep, among, Rising, least, greatest}

-- Booleans

pub split : (b : Bool) → (b ≡ true) ⊎ (b ≡ false)
split true = inl refl
split false = inr refl

pub and_left : (a b : Bool) → (a && b) ≡ true → a ≡ true
and_left true b h = refl
and_left false b h = h

pub and_right : (a b : Bool) → (a && b) ≡ true → b ≡ true
and_right true b h = h
and_right false b h = absurd (false≢true h)

pub and_both : {a b : Bool} → a ≡ true → b ≡ true → (a && b) ≡ true
and_both p q = rw (p, q)

pub implies_to : (a b : Bool) → implies a b ≡ true → a ≡ true → b ≡ true
implies_to true b h e = h
implies_to false b h e = absurd (false≢true e)

pub to_implies : (a b : Bool) → (a ≡ true → b ≡ true) → implies a b ≡ true
to_implies true b h = h refl
to_implies false b h = refl

-- two tests that pass together are the same
pub same_test : (a b : Bool) → (a ≡ true → b ≡ true) → (b ≡ true → a ≡ true) → a ≡ b
same_test true b h g = sym (h refl)
same_test false true h g = g refl
same_test false false h g = refl

pub not_true_false : (a : Bool) → (a ≡ true → ⊥) → a ≡ false
not_true_false true h = absurd (h refl)
not_true_false false h = refl

pub eq_or_below : {a b : ℕ} → a ≤ b → (a ≡ b) ⊎ (a < b)
eq_or_below {a} {b} h = go (ℕ_discrete a b)
  where
    go : Dec (a ≡ b) → (a ≡ b) ⊎ (a < b)
    go (yes e) = inl e
    go (no n) = inr (omega arith)

-- every

pub every_at : (k : ℕ) (f : ℕ → Bool) → every k f ≡ true → (j : ℕ) → j < k → f j ≡ true
unfolding every
every_at zero f h j l = absurd (not-suc-le-zero l)
every_at (suc k) f h j l = go (λ below. every_at k f (and_left (every k f) (f k) h) j below) (eq_or_below (omega arith))
  where
    go : (j < k → f j ≡ true) → (j ≡ k) ⊎ (j < k) → f j ≡ true
    go ih (inl e) = rw e (and_right (every k f) (f k) h)
    go ih (inr below) = ih below

pub to_every : (k : ℕ) (f : ℕ → Bool) → ((j : ℕ) → j < k → f j ≡ true) → every k f ≡ true
unfolding every
to_every zero f h = refl
to_every (suc k) f h = and_both (to_every k f (λ j l. h j (omega arith))) (h k (omega arith))

-- tests that are the same below k pass there together
pub every_same : (k : ℕ) (f g : ℕ → Bool) → ((j : ℕ) → j < k → f j ≡ g j) → every k f ≡ every k g
unfolding every
every_same zero f g h = refl
every_same (suc k) f g h = rw (every_same k f g (λ j l. h j (omega arith)), h k (omega arith))

-- among

-- a range is its first part and the rest
pub among_append : (f : ℕ → Bool) (i j k : ℕ) → among f i (j + k) ≡ among f i j ++ among f (i + j) k
unfolding among
among_append f i zero k = rw (zero-add k, add-zero i)
among_append f i (suc j) k = rw (suc-add j k) (ap (keep (f i) i) (among_append f (suc i) j k) ∙ move (f i) ∙ ap (λ (n : ℕ). keep (f i) i (among f (suc i) j) ++ among f n k) (omega arith))
  where
    move : (b : Bool) → keep b i (among f (suc i) j ++ among f (suc i + j) k) ≡ keep b i (among f (suc i) j) ++ among f (suc i + j) k
    move true = refl
    move false = refl

-- tests that are the same on the range keep the same numbers
pub among_same : (f g : ℕ → Bool) (i k : ℕ) → ((p : ℕ) → i ≤ p → p < i + k → f p ≡ g p) → among f i k ≡ among g i k
unfolding among
among_same f g i zero h = refl
among_same f g i (suc k) h =
    rw (h i (omega arith) (omega arith)) (ap (keep (g i) i) (among_same f g (suc i) k (λ p l u. h p (omega arith) (omega arith))))

-- nothing is kept where the test fails throughout
pub among_none : (f : ℕ → Bool) (i k : ℕ) → ((p : ℕ) → i ≤ p → p < i + k → f p ≡ false) → among f i k ≡ []
unfolding among
among_none f i zero h = refl
among_none f i (suc k) h =
    rw (h i (omega arith) (omega arith)) (among_none f (suc i) k (λ p l u. h p (omega arith) (omega arith)))

-- at most all of them are kept
pub among_length : (f : ℕ → Bool) (i k : ℕ) → length (among f i k) ≤ k
unfolding among
among_length f i zero = omega arith
among_length f i (suc k) = go (f i) (among_length f (suc i) k)
  where
    go : (b : Bool) → length (among f (suc i) k) ≤ k → length (keep b i (among f (suc i) k)) ≤ suc k
    go true h = omega arith
    go false h = omega arith

-- what is known of a number that was kept
pub record Kept (f : ℕ → Bool) (i k p : ℕ) : Type 0 where
  pub low : i ≤ p
  pub high : p < i + k
  pub passes : f p ≡ true

keep_mem : (b : Bool) (i : ℕ) (l : List ℕ) (p : ℕ) → Memᴰ p (keep b i l) → ((p ≡ i) × (b ≡ true)) ⊎ Memᴰ p l
keep_mem true i l p m = go (Memᴰ.cases_cons m)
  where
    go : (p ≡ i) ⊎ Memᴰ p l → ((p ≡ i) × (true ≡ true)) ⊎ Memᴰ p l
    go (inl e) = inl (e, refl)
    go (inr t) = inr t
keep_mem false i l p m = inr m

keep_tail : (b : Bool) (i : ℕ) (l : List ℕ) (p : ℕ) → Memᴰ p l → Memᴰ p (keep b i l)
keep_tail true i l p m = Memᴰ.tail m
keep_tail false i l p m = m

pub among_mem : (f : ℕ → Bool) (i k p : ℕ) → Memᴰ p (among f i k) → Kept f i k p
unfolding among
among_mem f i zero p m = absurd (Memᴰ.not-nil m)
among_mem f i (suc k) p m = go (λ t. among_mem f (suc i) k p t) (keep_mem (f i) i (among f (suc i) k) p m)
  where
    go : (Memᴰ p (among f (suc i) k) → Kept f (suc i) k p) → ((p ≡ i) × (f i ≡ true)) ⊎ Memᴰ p (among f (suc i) k)
        → Kept f i (suc k) p
    go ih (inl e) = record { low = omega arith; high = omega arith; passes = rw e.0 e.1 }
    go ih (inr t) = let r = ih t in record { low = omega arith; high = omega arith; passes = r.passes }

pub mem_among : (f : ℕ → Bool) (i k p : ℕ) → Kept f i k p → Memᴰ p (among f i k)
unfolding among
mem_among f i zero p h = absurd (omega arith)
mem_among f i (suc k) p h = go (λ l. mem_among f (suc i) k p (record { low = l; high = omega arith; passes = h.passes })) (eq_or_below h.low)
  where
    go : (i < p → Memᴰ p (among f (suc i) k)) → (i ≡ p) ⊎ (i < p) → Memᴰ p (keep (f i) i (among f (suc i) k))
    go ih (inl e) = rw (ap f e ∙ h.passes) (Memᴰ.head (sym e))
    go ih (inr l) = keep_tail (f i) i (among f (suc i) k) p (ih l)

keep_least : (b : Bool) (i : ℕ) (l : List ℕ) → ((j : ℕ) → j < length l → suc i ≤ get_or l j 0)
    → (j : ℕ) → j < length (keep b i l) → i ≤ get_or (keep b i l) j 0
keep_least true i l h zero q = omega arith
keep_least true i l h (suc j) q = omega (arith, h j (le_of_suc-le-suc q))
keep_least false i l h j q = omega (arith, h j q)

pub among_least : (f : ℕ → Bool) (i k j : ℕ) → j < length (among f i k) → i ≤ get_or (among f i k) j 0
unfolding among
among_least f i zero j h = absurd (not-suc-le-zero h)
among_least f i (suc k) j h = keep_least (f i) i (among f (suc i) k) (λ j l. among_least f (suc i) k j l) j h

keep_rising : (b : Bool) (i : ℕ) (l : List ℕ) → ((j : ℕ) → j < length l → suc i ≤ get_or l j 0) → Rising l → Rising (keep b i l)
keep_rising true i l h r zero zero q z = absurd (omega arith)
keep_rising true i l h r zero (suc j) q z = h j (le_of_suc-le-suc z)
keep_rising true i l h r (suc a) zero q z = absurd (omega arith)
keep_rising true i l h r (suc a) (suc j) q z = r a j (le_of_suc-le-suc q) (le_of_suc-le-suc z)
keep_rising false i l h r a j q z = r a j q z

pub among_rising : (f : ℕ → Bool) (i k : ℕ) → Rising (among f i k)
unfolding among
among_rising f i zero a j q z = absurd (not-suc-le-zero z)
among_rising f i (suc k) a j q z =
    keep_rising (f i) i (among f (suc i) k) (λ j l. among_least f (suc i) k j l) (λ a j q z. among_rising f (suc i) k a j q z) a j q z

-- a range of one number more
among_first : (f : ℕ → Bool) (i p : ℕ) (b : Bool) → f i ≡ b → i < p → among f i (p - i) ≡ keep b i (among f (suc i) (p - suc i))
unfolding among
among_first f i p b e l = let one_more : p - i ≡ suc (p - suc i) = omega arith in rw (one_more, e)

-- a list kept from the range, its number p of index c, and the part of the list before it
pub record Cut (f : ℕ → Bool) (i k : ℕ) (l : List ℕ) (c p : ℕ) : Type 0 where
  pub kept : Kept f i k p
  pub front : take c l ≡ among f i (p - i)

pub among_cut : (f : ℕ → Bool) (i k c : ℕ) → c < length (among f i k) → Cut f i k (among f i k) c (get_or (among f i k) c 0)
unfolding among
among_cut f i zero c h = absurd (not-suc-le-zero h)
among_cut f i (suc k) c h = go (f i) refl c (λ c l. among_cut f (suc i) k c l) h
  where
    rest : List ℕ
    rest = among f (suc i) k

    wider : (p : ℕ) → Kept f (suc i) k p → Kept f i (suc k) p
    wider p r = record { low = omega arith; high = omega arith; passes = r.passes }

    go : (b : Bool) → f i ≡ b → (c : ℕ) → ((c : ℕ) → c < length rest → Cut f (suc i) k rest c (get_or rest c 0))
        → c < length (keep b i rest) → Cut f i (suc k) (keep b i rest) c (get_or (keep b i rest) c 0)
    go true e zero ih l = record { kept = record { low = omega arith; high = omega arith; passes = e }; front = rw (sub_self i) }
    go true e (suc c) ih l =
        let r = ih c (le_of_suc-le-suc l) in
        record {
          kept = wider (get_or rest c 0) r.kept;
          front = ap (keep true i) r.front ∙ sym (among_first f i (get_or rest c 0) true e r.kept.low);
        }
    go false e c ih l =
        let r = ih c l in
        record {
          kept = wider (get_or rest c 0) r.kept;
          front = r.front ∙ sym (among_first f i (get_or rest c 0) false e r.kept.low);
        }

-- least

pub record Least (f : ℕ → Bool) (i k d : ℕ) : Type 0 where
  pub low : i ≤ d
  pub high : d ≤ i + k
  pub before : (p : ℕ) → i ≤ p → p < d → f p ≡ false
  pub passes : d < i + k → f d ≡ true

pub least_is : (f : ℕ → Bool) (i k : ℕ) → Least f i k (least f i k)
unfolding least
least_is f i zero = record { low = omega arith; high = omega arith; before = λ p l u. absurd (omega arith); passes = λ h. absurd (omega arith) }
least_is f i (suc k) = go (f i) refl (least_is f (suc i) k)
  where
    go : (b : Bool) → f i ≡ b → Least f (suc i) k (least f (suc i) k) → Least f i (suc k) (cond b i (least f (suc i) k))
    go true e ih =
        record { low = omega arith; high = omega arith; before = λ p l u. absurd (omega arith); passes = λ h. e }
    go false e ih =
        record {
          low = omega arith;
          high = omega arith;
          before = λ p l u. first p u (eq_or_below l);
          passes = λ h. ih.passes (omega arith);
        }
      where
        first : (p : ℕ) → p < least f (suc i) k → (i ≡ p) ⊎ (i < p) → f p ≡ false
        first p u (inl q) = rw (← q) e
        first p u (inr q) = ih.before p q u

-- two tests that are the same on the range have the same least number
pub least_same : (f g : ℕ → Bool) (i k : ℕ) → ((p : ℕ) → i ≤ p → p < i + k → f p ≡ g p) → least f i k ≡ least g i k
unfolding least
least_same f g i zero h = refl
least_same f g i (suc k) h =
    rw (h i (omega arith) (omega arith)) (ap (cond (g i) i) (least_same f g (suc i) k (λ p l u. h p (omega arith) (omega arith))))

-- greatest

pub record Greatest (f : ℕ → Bool) (k j : ℕ) : Type 0 where
  pub below : j < k
  pub passes : f j ≡ true
  pub above : (p : ℕ) → j < p → p < k → f p ≡ false

-- what `greatest` gives: the greatest number below k that passes, or that none does
abbrev pub IsGreatest : (ℕ → Bool) → ℕ → Option ℕ → Type 0
IsGreatest f k none = (p : ℕ) → p < k → f p ≡ false
IsGreatest f k (some j) = Greatest f k j

pub greatest_is : (f : ℕ → Bool) (k : ℕ) → IsGreatest f k (greatest f k)
unfolding greatest
greatest_is f zero = λ p l. absurd (not-suc-le-zero l)
greatest_is f (suc k) = go (f k) refl (greatest f k) (greatest_is f k)
  where
    at_last : f k ≡ false → (p : ℕ) → (p < k → f p ≡ false) → p < suc k → f p ≡ false
    at_last e p h l = pick (eq_or_below (omega arith))
      where
        pick : (p ≡ k) ⊎ (p < k) → f p ≡ false
        pick (inl q) = rw q e
        pick (inr q) = h q

    go : (b : Bool) → f k ≡ b → (o : Option ℕ) → IsGreatest f k o → IsGreatest f (suc k) (cond b (some k) o)
    go true e o h = record { below = omega arith; passes = e; above = λ p l u. absurd (omega arith) }
    go false e none h = λ p l. at_last e p (h p) l
    go false e (some j) h =
        record { below = omega arith; passes = h.passes; above = λ p l u. at_last e p (h.above p l) u }

-- a number that passes, above which none does, is the greatest
pub greatest_some : (f : ℕ → Bool) (k r : ℕ) → r < k → f r ≡ true → ((p : ℕ) → r < p → p < k → f p ≡ false) → greatest f k ≡ some r
greatest_some f k r l e above = go (greatest f k) (greatest_is f k)
  where
    go : (o : Option ℕ) → IsGreatest f k o → o ≡ some r
    go none h = absurd (false≢true (sym (h r l) ∙ e))
    go (some j) h = pick (ℕ_discrete j r)
      where
        pick : Dec (j ≡ r) → some j ≡ some r
        pick (yes q) = ap some q
        pick (no n) = apart (dec_le j r)
          where
            apart : Dec (j ≤ r) → some j ≡ some r
            apart (yes b) = absurd (false≢true (sym (h.above r (omega arith) l) ∙ e))
            apart (no b) = absurd (false≢true (sym (above j (omega arith) h.below) ∙ h.passes))

-- two tests that are the same below k have the same greatest number
pub greatest_same : (f g : ℕ → Bool) (k : ℕ) → ((p : ℕ) → p < k → f p ≡ g p) → greatest f k ≡ greatest g k
unfolding greatest
greatest_same f g zero h = refl
greatest_same f g (suc k) h = rw (h k (omega arith)) (ap (cond (g k) (some k)) (greatest_same f g k (λ p l. h p (omega arith))))
