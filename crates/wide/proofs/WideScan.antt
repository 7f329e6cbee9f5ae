-- Laws of a scan: what window bits leave of flags, one after the other; which of them so many rounds apply; and the flags that
-- are left, by the rule and by comparison.
-- Assumes nothing.
use mathlib.Core.Path.{◌≡◌, refl, sym, ap, ap₂, ◌∙◌}
use mathlib.Core.Logic.{◌⊎◌, inl, inr, ⊎_elim}
use mathlib.Core.Bool.{Bool, true, false, true≢false, ◌&&◌, ◌||◌, cond}
use mathlib.Core.List.{List}
use Prim.Native.Nat.{ℕ, ◌+◌, ◌-◌, ◌*◌, ◌/◌, ◌%◌, ◌^◌, ◌≤◌, ◌<◌, min}
use native.Mathlib.Nat.{add_assoc}
use native.Mathlib.Decide.{dec_le}
use native.Mathlib.Omega.{arith}
use lib.Bits.{bit_and}
use lib.Count.{ones}
use lib.Dec.{leb, ltb, eqb}
use lib.ListN.{get_or}
use borrow.Author.Tests.{leb-true, le-leb, ltb-true, lt-ltb, le-ltb, eqb-true, eq-eqb}
use Rattle.bits.specs.Packed.{Packed, bit_at, bits_at, bit_of, weight}
use Rattle.bits.proofs.Weight.{bit_or_bit, weight_lt, weight_out, weight_ones, weight_and, weight_shr}
use Rattle.bits.proofs.Run.{bit_of_bits, bit_lt}
use Rattle.rules.specs.Ranges.{implies}
use Rattle.rules.specs.Pattern.{Pattern}
use Rattle.rules.specs.Occurrence.{places}
use Rattle.rules.specs.Wide.{window, stands}
use Rattle.matcher.specs.Tables.{passes}
use Rattle.matcher.specs.Ready.{text_of}
use Rattle.wide.specs.Flags.{StartsByte, within, second, applied, rounds, Applies, stands_after, Scanned}
use Rattle.rules.proofs.Ranges.{and_left, and_right, and_both, to_implies, implies_to, not_true_false, every_at, to_every}
use Rattle.rules.proofs.Wide.{stands_at}
use Rattle.wide.proofs.WideTables.{bit_for, bit_lit, passes_to}

-- every flag stands
abbrev pub all_flags : ℕ
all_flags = 18446744073709551615

-- Tests

or_cases : (a b : Bool) → (a || b) ≡ true → (a ≡ true) ⊎ (b ≡ true)
or_cases true b e = inl refl
or_cases false b e = inr e

or_none : (a : Bool) → (a || false) ≡ a
or_none true = refl
or_none false = refl

or_left : (a b : Bool) → a ≡ true → (a || b) ≡ true
or_left a b e = rw e

or_right : (a b : Bool) → b ≡ true → (a || b) ≡ true
or_right true b e = refl
or_right false b e = e

-- Every second byte of the window

-- window bit q is one of theirs
record Second (m from q : ℕ) : Type 0 where
  byte : q % 16 / 8 * 8 ≡ from
  low : q < 80
  whole : q / 8 * 8 + 8 ≤ 63 + m

module _ (m from q : ℕ) where
  second_is : second m from q ≡ true → Second m from q
  unfolding second
  second_is e =
      let rest = and_right (eqb (q % 16 / 8 * 8) from) (ltb q 80 && leb (q / 8 * 8 + 8) (63 + m)) e in
      record {
        byte = eqb-true _ _ (and_left (eqb (q % 16 / 8 * 8) from) (ltb q 80 && leb (q / 8 * 8 + 8) (63 + m)) e);
        low = ltb-true _ _ (and_left (ltb q 80) (leb (q / 8 * 8 + 8) (63 + m)) rest);
        whole = leb-true _ _ (and_right (ltb q 80) (leb (q / 8 * 8 + 8) (63 + m)) rest);
      }

  is_second : Second m from q → second m from q ≡ true
  unfolding second
  is_second z = and_both (eq-eqb _ _ z.byte) (and_both (lt-ltb _ _ z.low) (le-leb _ _ z.whole))

-- those of their bits that lie before bit q
abbrev pub passed : ℕ → ℕ → ℕ → ℕ → Bool
passed m from q p = second m from p && ltb p q

-- Window bits applied to flags

within_is : (a b q : ℕ) → within a b q ≡ true → (a ≤ q) × (q < b)
within_is a b q e = (leb-true a q (and_left (leb a q) (ltb q b) e), ltb-true q b (and_right (leb a q) (ltb q b) e))

is_within : (a b q : ℕ) → a ≤ q → q < b → within a b q ≡ true
is_within a b q l u = and_both (le-leb a q l) (lt-ltb q b u)

module _ (bytes cells : List ℕ) (s : ℕ) where
  -- no bit
  applies_none : (Q : ℕ → Bool) (f : ℕ) → ((q : ℕ) → Q q ≡ true → ⊥) → Applies bytes cells s Q f f
  unfolding Applies
  applies_none Q f none i = (λ h. (h, λ q e. absurd (none q e)), λ h. h.0)

  -- bits, and then others
  applies_then : (Q R S : ℕ → Bool) (f g r : ℕ) → ((q : ℕ) → S q ≡ true → (Q q ≡ true) ⊎ (R q ≡ true)) → ((q : ℕ) → Q q ≡ true → S q ≡ true)
      → ((q : ℕ) → R q ≡ true → S q ≡ true) → Applies bytes cells s Q f g → Applies bytes cells s R g r → Applies bytes cells s S f r
  unfolding Applies
  applies_then Q R S f g r of in_q in_r a b i = (
    λ h. (((a i).0 ((b i).0 h).0).0, λ q e. ⊎_elim (((a i).0 ((b i).0 h).0).1 q) (((b i).0 h).1 q) (of q e)),
    λ h. (b i).1 ((a i).1 (h.0, λ q e. h.1 q (in_q q e)), λ q e. h.1 q (in_r q e)),
  )

  -- the same bits by another test
  applies_same : (Q S : ℕ → Bool) (f r : ℕ) → ((q : ℕ) → S q ≡ true → Q q ≡ true) → ((q : ℕ) → Q q ≡ true → S q ≡ true)
      → Applies bytes cells s Q f r → Applies bytes cells s S f r
  unfolding Applies
  applies_same Q S f r in_q in_s a i = (λ h. (((a i).0 h).0, λ q e. ((a i).0 h).1 q (in_q q e)), λ h. (a i).1 (h.0, λ q e. h.1 q (in_s q e)))

  -- bits that follow one another

  pub applies_start : (a b f : ℕ) → b ≤ a → Applies bytes cells s (within a b) f f
  applies_start a b f h = applies_none (within a b) f (λ q e. absurd (omega (arith, within_is a b q e)))

  applies_on : (a b d f g r : ℕ) → a ≤ b → b ≤ d → Applies bytes cells s (within a b) f g → Applies bytes cells s (within b d) g r
      → Applies bytes cells s (within a d) f r
  applies_on a b d f g r low up =
      applies_then (within a b) (within b d) (within a d) f g r
      (λ q e. elim (dec_le b q)
      [ yes l ↦ inr (is_within b d q l (within_is a d q e).1) | no l ↦ inl (is_within a b q (within_is a d q e).0 (omega arith)) ])
      (λ q e. is_within a d q (within_is a b q e).0 (omega (arith, within_is a b q e)))
      (λ q e. is_within a d q (omega (arith, within_is b d q e)) (within_is b d q e).1)

  both_set : (x y : ℕ) → x < 2 → y < 2 → min x y ≡ 1 → (x ≡ 1) × (y ≡ 1)
  both_set x y l u e = (omega arith, omega arith)

  -- one bit, by the cell that it chooses
  applies_cell : (q d f v : ℕ) → d ≡ q + 1 → v ≡ get_or cells (2 * q + bit_at bytes (s + q)) 0 → Applies bytes cells s (within q d) f (bit_and f v)
  unfolding Applies
  applies_cell q d f v next same i = (
    λ h.
        let two = both_set (weight f i) (weight v i) (weight_lt f i) (weight_lt v i) (sym (weight_and f v i) ∙ h) in (
          two.0,
          λ p e.
              let here : p ≡ q = omega (arith, within_is q d p e) in
              rw here (ap (λ (c : ℕ). weight c i) (sym same) ∙ two.1),
        ),
    λ h. weight_and f v i ∙ ap₂ min h.0 (ap (λ (c : ℕ). weight c i) same ∙ h.1 q (is_within q d q (omega arith) (omega arith))),
  )

  -- the bits of a byte, one after the other
  pub applies_bit : (q k x f g : ℕ) → x ≡ bits_at bytes (s + q) 8 → k < 8 → Applies bytes cells s (within q (q + k)) f g
      → Applies bytes cells s (within q (q + (k + 1))) f (bit_and g (get_or cells (2 * (q + k) + bit_of 8 x k) 0))
  applies_bit q k x f g e l a =
      let bit : bit_of 8 x k ≡ bit_at bytes (s + (q + k))
      = ap (λ (y : ℕ). bit_of 8 y k) e ∙ bit_of_bits bytes (s + q) l ∙ ap (bit_at bytes) (add_assoc s q k) in
      applies_on q (q + k) (q + (k + 1)) f g _ (omega arith) (omega arith) a
      (applies_cell (q + k) (q + (k + 1)) g _ (omega arith) (ap (λ (c : ℕ). get_or cells (2 * (q + k) + c) 0) bit))

  -- two bytes after the bits from 56 on
  pub applies_round : (q f g h r : ℕ) → 56 ≤ q → Applies bytes cells s (within 56 q) f g → Applies bytes cells s (within q (q + 8)) g h
      → Applies bytes cells s (within (q + 8) (q + 8 + 8)) h r → Applies bytes cells s (within 56 (q + 16)) f r
  applies_round q f g h r low a b c =
      let end : q + 8 + 8 ≡ q + 16 = omega arith in
      rw end at (applies_on 56 (q + 8) (q + 8 + 8) f h r (omega arith) (omega arith) (applies_on 56 q (q + 8) f g h low (omega arith) a b) c)

  -- every second byte

  module _ (m from : ℕ) (first : StartsByte from) (one_of_two : from ≤ 8) where
    passed_is : (q p : ℕ) → passed m from q p ≡ true → Second m from p × (p < q)
    passed_is q p e = (second_is m from p (and_left (second m from p) (ltb p q) e), ltb-true p q (and_right (second m from p) (ltb p q) e))

    pub pass_start : (f : ℕ) → Applies bytes cells s (passed m from from) f f
    pass_start f = applies_none (passed m from from) f (λ p e. absurd (omega (arith, (passed_is from p e).0.byte, (passed_is from p e).1)))

    module _ (q : ℕ) (along : q % 16 ≡ from) where
      pub pass_more : (f g r : ℕ) → q ≤ 72 → q + 8 ≤ m + 63 → Applies bytes cells s (passed m from q) f g → Applies bytes cells s (within q (q + 8)) g r
          → Applies bytes cells s (passed m from (q + 16)) f r
      pass_more f g r low inside =
          applies_then (passed m from q) (within q (q + 8)) (passed m from (q + 16)) f g r
          (λ p e. elim (dec_le q p) [
            | yes l ↦ inr (is_within q (q + 8) p l (omega (arith, (passed_is (q + 16) p e).0.byte, (passed_is (q + 16) p e).1)))
            | no l ↦ inl (and_both (and_left (second m from p) (ltb p (q + 16)) e) (lt-ltb p q (omega arith)))
          ])
          (λ p e. and_both (and_left (second m from p) (ltb p q) e) (lt-ltb p (q + 16) (omega (arith, (passed_is q p e).1))))
          (λ p e.
          let inner = within_is q (q + 8) p e in
          and_both (is_second m from p (record { byte = omega arith; low = omega arith; whole = omega arith })) (lt-ltb p (q + 16) (omega arith)))

      pub pass_end : (f r : ℕ) → (q ≤ 72 → q + 8 ≤ m + 63 → ⊥) → Applies bytes cells s (passed m from q) f r → Applies bytes cells s (second m from) f r
      pass_end f r stopped =
          applies_same (passed m from q) (second m from) f r
          (λ p e. and_both e (lt-ltb p q (elim (dec_le q p) [ yes l ↦ absurd (more p (second_is m from p e) l) | no l ↦ omega arith ])))
          (λ p e. and_left (second m from p) (ltb p q) e)
        where
          more : (p : ℕ) → Second m from p → q ≤ p → ⊥
          more p z l = stopped (omega (arith, z.byte, z.low)) (omega (arith, z.byte, z.whole))

-- The window bits of so many rounds

module _ (m : ℕ) (short : m < 64) where
  round_one : (q : ℕ) → applied m 1 q ≡ second m 0 q
  unfolding applied
  round_one q = rw (lt-ltb m 64 short) (or_none (second m 0 q))

  round_two : (q : ℕ) → applied m 2 q ≡ (second m 0 q || second m 8 q)
  unfolding applied
  round_two q = rw (lt-ltb m 64 short)

rounds_long : (m k q : ℕ) → 64 ≤ m → applied m k q ≡ within 56 (56 + 16 * k) q
unfolding applied
rounds_long m k q long = rw (le-ltb m 64 long)

rounds_none : (m q : ℕ) → applied m 0 q ≡ false
unfolding applied
rounds_none m q = go (ltb m 64)
  where
    go : (b : Bool) → cond b false (within 56 (56 + 16 * 0) q) ≡ false
    go true = refl
    go false = not_true_false _ (λ e. absurd (omega (arith, within_is 56 (56 + 16 * 0) q e)))

bit_is : (v : ℕ) (b : Bool) → v < 2 → (v ≡ 1 → b ≡ true) → (b ≡ true → v ≡ 1) → v ≡ bit_for b
bit_is v true l h g = g refl
bit_is v false l h g = ⊎_elim (λ e. e) (λ e. absurd (true≢false (sym (h e)))) (bit_or_bit v l)

-- A flag that stands by the rule stands after any rounds, so one that falls in them falls by the rule.
pub stands_after_lem : (t : Packed) (w : Pattern) (s k i : ℕ) → s + i < places t w → stands t w s i ≡ true → stands_after t w s k i ≡ true
unfolding stands_after
stands_after_lem t w s k i inside h =
    to_every (window w) _ (λ q u. to_implies (applied w.count k q) _ (λ a.
    passes_to w (bit_at t.bytes (s + q)) q i (λ l b. stands_at t w s i h q u (record { inside = omega arith; from = l; to = b }))))

-- The flags that are left

module _ (bytes : List ℕ) (n m : ℕ) (cells : List ℕ) (s : ℕ) where
  abbrev t : Packed
  t = text_of bytes n

  -- the last step: no round, and its places are those below E
  pub scanned_end : (k : ℕ) → s + m ≤ n → s + 63 + m ≡ n + k → Scanned t m cells s (all_flags / 2 ^ k)
  unfolding stands_after
  scanned_end k low e =
      record {
        made = 0;
        at_end = λ h. refl;
        some = λ h. absurd (omega arith);
        enough = λ h. absurd (omega arith);
        flags = λ w same tables i l.
            let all : stands_after t w s 0 i ≡ true
            = to_every (window w) _ (λ q u. ap (λ (b : Bool). implies b (passes w (bit_at bytes (s + q)) q i)) (rounds_none w.count q)) in
            weight_shr all_flags k i
            ∙ elim (dec_le 64 (k + i)) [
              | yes h ↦ weight_out {x = all_flags} {w = 64} {i = k + i} (omega arith) h ∙ sym (ap (λ (b : Bool). bit_for (b && stands_after t w s 0 i)) (le-ltb (s + i) (places t w) (omega arith)))
              | no h ↦ weight_ones 64 (k + i) (omega arith) ∙ sym (ap bit_for (and_both (lt-ltb (s + i) (places t w) (omega arith)) all))
            ];
      }

  -- the window lies whole in the text: all 64 places lie below E
  module _ (inside : s + 63 + m < n) where
    scanned_after : (k f : ℕ) → 0 < k → (k < rounds m → ones f < 2) → ((q : ℕ) → applied m k q ≡ true → q < 63 + m)
        → Applies bytes cells s (applied m k) all_flags f → Scanned t m cells s f
    unfolding Applies stands_after
    scanned_after k f some few whole a =
        record {
          made = k;
          at_end = λ h. absurd (omega arith);
          some = λ h. some;
          enough = λ h. few;
          flags = λ w e tables i l.
              let cell : (q : ℕ) → q < window w → weight (get_or cells (2 * q + bit_at bytes (s + q)) 0) i ≡ bit_for (passes w (bit_at bytes (s + q)) q i)
              = λ q u. tables.flags_are q (bit_at bytes (s + q)) i u (bit_lt bytes (s + q)) l in
              let below : ltb (s + i) (places t w) ≡ true = lt-ltb (s + i) (places t w) (omega arith) in
              bit_is (weight f i) _ (weight_lt f i)
              (λ h. and_both below (to_every (window w) _ (λ q u. to_implies (applied w.count k q) _ (λ b.
              bit_lit _ (sym (cell q u) ∙ ((a i).0 h).1 q (ap (λ (c : ℕ). applied c k q) (sym e) ∙ b))))))
              (λ h. (a i).1 (
                weight_ones 64 i l,
                λ q b.
                    let u : q < window w = omega (arith, whole q b) in
                    cell q u ∙ ap bit_for (implies_to (applied w.count k q) _
                    (every_at (window w) _ (and_right (ltb (s + i) (places t w)) (stands_after t w s k i) h) q u)
                    (ap (λ (c : ℕ). applied c k q) e ∙ b)),
              ));
        }

    -- one round in a short pattern, and two
    pub scanned_one : (f : ℕ) → m < 64 → ones f < 2 → Applies bytes cells s (second m 0) all_flags f → Scanned t m cells s f
    scanned_one f short few a =
        scanned_after 1 f (omega arith) (λ h. few)
        (λ q e. let z = second_is m 0 q (sym (round_one m short q) ∙ e) in omega (arith, z.whole))
        (applies_same bytes cells s (second m 0) (applied m 1) all_flags f (λ q e. sym (round_one m short q) ∙ e) (λ q e. round_one m short q ∙ e) a)

    pub scanned_two : (g f : ℕ) → m < 64 → Applies bytes cells s (second m 0) all_flags g → Applies bytes cells s (second m 8) g f
        → Scanned t m cells s f
    scanned_two g f short a b =
        scanned_after 2 f (omega arith) (λ h. absurd (omega (arith, rw (lt-ltb m 64 short) at h)))
        (λ q e. ⊎_elim
        (λ h. let z = second_is m 0 q h in omega (arith, z.whole)) (λ h. let z = second_is m 8 q h in omega (arith, z.whole)) (each q e))
        (applies_then bytes cells s (second m 0) (second m 8) (applied m 2) all_flags g f each
        (λ q e. round_two m short q ∙ or_left _ (second m 8 q) e) (λ q e. round_two m short q ∙ or_right (second m 0 q) _ e) a b)
      where
        each : (q : ℕ) → applied m 2 q ≡ true → (second m 0 q ≡ true) ⊎ (second m 8 q ≡ true)
        each q e = or_cases (second m 0 q) (second m 8 q) (sym (round_two m short q) ∙ e)

    -- the rounds up to window bit q in a longer one
    pub scanned_long : (q f : ℕ) → 64 ≤ m → 56 < q → q % 16 ≡ 8 → q ≤ m + 63 → (q + 16 ≤ m + 63 → ones f < 2)
        → Applies bytes cells s (within 56 q) all_flags f → Scanned t m cells s f
    scanned_long q f long some along last few a =
        scanned_after ((q - 56) / 16) f (omega arith) (λ h. few (omega (arith, rw (le-ltb m 64 long) at h)))
        (λ p e. omega (arith, within_is 56 q p (sym (rounds_here p) ∙ e)))
        (applies_same bytes cells s (within 56 q) (applied m ((q - 56) / 16)) all_flags f (λ p e. sym (rounds_here p) ∙ e) (λ p e. rounds_here p ∙ e) a)
      where
        rounds_here : (p : ℕ) → applied m ((q - 56) / 16) p ≡ within 56 q p
        rounds_here p =
            let there : 56 + 16 * ((q - 56) / 16) ≡ q = omega arith in
            rounds_long m ((q - 56) / 16) p long ∙ ap (λ (b : ℕ). within 56 b p) there
