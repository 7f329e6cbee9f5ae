-- The claims about every read of eight bits.
-- Assumes nothing.
use mathlib.Core.Path.{◌≡◌, refl, sym, ◌∙◌, ap, ap₂}
use mathlib.Core.Bool.{Bool, true, false, cond}
use mathlib.Core.Logic.{◌⊎◌, inl, inr}
use mathlib.Core.List.{List, ◌∷◌, ◌++◌}
use Prim.Native.Nat.{ℕ, zero, suc, ◌+◌, ◌-◌, ◌*◌, ◌^◌, ◌≤◌, ◌<◌, min}
use native.Mathlib.Omega.{arith}
use native.Mathlib.Decide.{dec_le}
use borrow.Author.Tests.{lt-ltb, le-ltb, ltb-false}
use lib.Dec.{ltb}
use lib.ListN.{length}
use Rattle.bits.specs.Packed.{Packed, bytes_for, bit_of, bit_at}
use Rattle.bits.proofs.Run.{bit_of_bits}
use Rattle.eight.specs.Eight.{Verdict, shown, number, count_at, byte_at, eight_at}
use Rattle.eight.specs.Claims.{Good, ReadAt, Learned, FromAnswer, OneOrTwo, NoPadding, list_of, taken, reads, GivenBack}
use Rattle.eight.proofs.ShownByte.{byte_bit, byte_none, byte_inside, byte_same}

-- ---- one read

accepts : (t : Packed) (p : ℕ) → Good t → eight_at t p ≡ shown (byte_at t p) (count_at t.count p)
unfolding eight_at
accepts t p g = rw (le-ltb _ _ g.short, le-ltb _ _ g.enough)

-- a byte and a count that are the right ones
pub tells : (t : Packed) (p : ℕ) {b k : ℕ} → Good t → b ≡ byte_at t p → k ≡ count_at t.count p → shown b k ≡ eight_at t p
tells t p g e f = ap₂ shown e f ∙ sym (accepts t p g)

-- each refusal, and a place that has nothing to show, by the tests that a caller makes
pub refused_long : (bytes : List ℕ) (n p : ℕ) → 2 ^ 30 < n → number 1 ≡ eight_at (record { bytes = bytes; count = n }) p
unfolding eight_at
refused_long bytes n p h = simp (lt-ltb (2 ^ 30) n h)

pub refused_short : (bytes : List ℕ) (n p : ℕ) → n ≤ 2 ^ 30 → length bytes < bytes_for n
    → number 2 ≡ eight_at (record { bytes = bytes; count = n }) p
unfolding eight_at
refused_short bytes n p h few = simp (le-ltb _ _ h, lt-ltb _ _ few)

pub shows_none : (bytes : List ℕ) (n p : ℕ) → n ≤ 2 ^ 30 → bytes_for n ≤ length bytes → n ≤ p
    → shown 0 0 ≡ eight_at (record { bytes = bytes; count = n }) p
shows_none bytes n p h enough l =
    let t : Packed = record { bytes = bytes; count = n } in
    let none : count_at n p ≡ 0 = omega arith in
    tells t p (record { short = h; enough = enough }) (sym (byte_none t p none)) (sym none)

pub every_read : (t : Packed) (p : ℕ) → Good t → ReadAt t p
every_read t p g =
    record {
      accepted = accepts t p g;
      each = byte_bit t p;
      inside = λ e. omega arith;
      all = λ h. omega arith;
      as_before = byte_inside t p;
      bit_for_bit = λ h j l. ap (λ (x : ℕ). bit_of 8 x j) (byte_inside t p h) ∙ bit_of_bits t.bytes p l;
      none = λ h. (let no : count_at t.count p ≡ 0 = omega arith in (byte_none t p no, no));
    }

abbrev pub code : Verdict → ℕ
code (shown byte count) = 0
code (number k) = suc k

abbrev byte_in : Verdict → ℕ
byte_in (shown byte count) = byte
byte_in (number k) = 0

abbrev count_in : Verdict → ℕ
count_in (shown byte count) = count
count_in (number k) = 0

pub from_answer : FromAnswer
unfolding eight_at
from_answer t p b c e = go (ltb (2 ^ 30) t.count) refl (ltb (length t.bytes) (bytes_for t.count)) refl e
  where
    go : (x : Bool) → ltb (2 ^ 30) t.count ≡ x → (y : Bool) → ltb (length t.bytes) (bytes_for t.count) ≡ y
        → cond x (number 1) (cond y (number 2) (shown (byte_at t p) (count_at t.count p))) ≡ shown b c → Learned t p b c
    go true ex y ey q = absurd (let same : 2 ≡ 0 = ap code q in omega arith)
    go false ex true ey q = absurd (let same : 3 ≡ 0 = ap code q in omega arith)
    go false ex false ey q =
        let count : count_at t.count p ≡ c = ap count_in q in
        let byte : byte_at t p ≡ b = ap byte_in q in
        record {
          good = record { short = ltb-false _ _ ex; enough = ltb-false _ _ ey };
          byte_is = sym byte;
          count_is = sym count;
          inside = λ h. omega arith;
          eight = λ h. sym byte ∙ byte_inside t p (omega arith);
        }

pub one_or_two : OneOrTwo
unfolding eight_at
one_or_two t p k e = go (ltb (2 ^ 30) t.count) (ltb (length t.bytes) (bytes_for t.count)) e
  where
    go : (a b : Bool) → cond a (number 1) (cond b (number 2) (shown (byte_at t p) (count_at t.count p))) ≡ number k
        → (k ≡ 1) ⊎ (k ≡ 2)
    go true b q = inl (let same : 2 ≡ suc k = ap code q in omega arith)
    go false true q = inr (let same : 3 ≡ suc k = ap code q in omega arith)
    go false false q = absurd (let same : 0 ≡ suc k = ap code q in omega arith)

pub no_padding : NoPadding
unfolding eight_at
no_padding a b n p ha hb e =
    rw (le-ltb _ _ ha, le-ltb _ _ hb)
    (ap (λ (x : ℕ). cond (ltb (2 ^ 30) n) (number 1) (shown x (count_at n p))) (byte_same a b n p e))

-- ---- reads one after the other

list_same : (f g : ℕ → ℕ) (i l k : ℕ) → ((j : ℕ) → j < k → f (i + j) ≡ g (l + j)) → list_of f i k ≡ list_of g l k
unfolding list_of
list_same f g i l zero e = refl
list_same f g i l (suc k) e =
    ap₂ (λ (x : ℕ) (xs : List ℕ). x ∷ xs) first (list_same f g (suc i) (suc l) k rest)
  where
    first : f i ≡ g l
    first =
        let here : i ≡ i + 0 = omega arith in
        let there : l + 0 ≡ l = omega arith in
        ap f here ∙ e 0 (omega arith) ∙ ap g there

    rest : (j : ℕ) → j < k → f (suc i + j) ≡ g (suc l + j)
    rest j h =
        let here : suc i + j ≡ i + suc j = omega arith in
        let there : l + suc j ≡ suc l + j = omega arith in
        ap f here ∙ e (suc j) (omega arith) ∙ ap g there

list_add : (f : ℕ → ℕ) (i a b : ℕ) → list_of f i a ++ list_of f (i + a) b ≡ list_of f i (a + b)
unfolding list_of
list_add f i zero b =
    let here : i + 0 ≡ i = omega arith in
    let there : b ≡ 0 + b = omega arith in
    ap (λ (x : ℕ). list_of f x b) here ∙ ap (list_of f i) there
list_add f i (suc a) b =
    let here : i + suc a ≡ suc i + a = omega arith in
    let there : suc (a + b) ≡ suc a + b = omega arith in
    ap (λ (x : ℕ). f i ∷ (list_of f (suc i) a ++ list_of f x b)) here
    ∙ ap (λ (xs : List ℕ). f i ∷ xs) (list_add f (suc i) a b)
    ∙ ap (list_of f i) there

module _ (t : Packed) (g : Good t) where
  -- the bits that are taken from one read
  taken_is : (p : ℕ) → taken (eight_at t p) ≡ list_of (bit_at t.bytes) p (count_at t.count p)
  taken_is p =
      ap taken (accepts t p g) ∙ list_same (bit_of 8 (byte_at t p)) (bit_at t.bytes) 0 p (count_at t.count p) each
    where
      each : (j : ℕ) → j < count_at t.count p → bit_of 8 (byte_at t p) (0 + j) ≡ bit_at t.bytes (p + j)
      each j h =
          let here : 0 + j ≡ j = omega arith in
          ap (bit_of 8 (byte_at t p)) here ∙ byte_bit t p j (omega arith) ∙ rw (lt-ltb j (count_at t.count p) h)

  -- The next read begins where this one ends, or takes nothing.
  next_is : (p x : ℕ) → ((count_at t.count p ≡ 8) ⊎ (x ≡ 0))
      → list_of (bit_at t.bytes) (p + 8) x ≡ list_of (bit_at t.bytes) (p + count_at t.count p) x
  unfolding list_of
  next_is p x (inl e) = ap (λ (c : ℕ). list_of (bit_at t.bytes) (p + c) x) (sym e)
  next_is p x (inr e) =
      ap (list_of (bit_at t.bytes) (p + 8)) e ∙ sym (ap (list_of (bit_at t.bytes) (p + count_at t.count p)) e)

  some_reads : (p k : ℕ) → reads t p k ≡ list_of (bit_at t.bytes) p (min (8 * k) (t.count - p))
  unfolding reads list_of
  some_reads p zero =
      let none : 0 ≡ min (8 * 0) (t.count - p) = omega arith in
      ap (list_of (bit_at t.bytes) p) none
  some_reads p (suc k) =
      ap₂ (λ (xs ys : List ℕ). xs ++ ys) (taken_is p) (some_reads (p + 8) k ∙ next_is p x (go (dec_le (p + 8) t.count)))
      ∙ list_add (bit_at t.bytes) p (count_at t.count p) x
      ∙ ap (list_of (bit_at t.bytes) p) together
    where
      x : ℕ
      x = min (8 * k) (t.count - (p + 8))

      go : Dec (p + 8 ≤ t.count) → (count_at t.count p ≡ 8) ⊎ (x ≡ 0)
      go (yes l) = inl (omega arith)
      go (no n) = inr (omega arith)

      together : count_at t.count p + x ≡ min (8 * suc k) (t.count - p)
      together = omega arith

  pub given_back : GivenBack t
  given_back =
      record {
        some = some_reads;
        eight = λ p h. some_reads p 8 ∙ ap (list_of (bit_at t.bytes) p) (sixty_four p h);
        whole = some_reads 0 (bytes_for t.count) ∙ ap (list_of (bit_at t.bytes) 0) all;
      }
    where
      sixty_four : (p : ℕ) → p + 64 ≤ t.count → min (8 * 8) (t.count - p) ≡ 64
      sixty_four p h = omega arith

      all : min (8 * bytes_for t.count) (t.count - 0) ≡ t.count
      all = omega arith
