-- Laws of `read_groups` and `last_group`: which way reading goes at an index of a file. The code's tests decide between them.
use Prim.Native.Nat.{ℕ, zero, suc, ◌+◌, ◌-◌, ◌*◌, ◌^◌, ◌≤◌, ◌<◌}
use mathlib.Core.Path.{◌≡◌, refl, sym, ap, ◌∙◌}
use mathlib.Core.Bool.{Bool, true, false, ◌&&◌, and-false}
use mathlib.Core.List.{List, [], ◌∷◌}
use native.Mathlib.Omega.{arith}
use native.Mathlib.Nat.{mul_assoc, mul-le-mul_right, mul-le-mul_left, pow-succ', one-le-pow}
use native.Mathlib.Decide.{dec_lt}
use lib.ListN.{length}
use lib.Dec.{leb, ltb, eqb}
use borrow.Author.Tests.{lt-ltb, le-ltb, le-leb, lt-leb, eq-eqb, ne_eqb, leb-true}
use Rattle.positions.specs.Basics.{limit, Result, ok, fault}
use Rattle.positions.specs.Decode.{last_group, read_groups, read_number}

-- ---- a fault is no value, and a value has its parts

pub fault_ok : {A : Type 0} {n : ℕ} {a : A} → fault n ≡ ok a → ⊥
fault_ok e = let z : ◌≡◌ {A = ℕ} 0 1 = cc in omega arith

pub fault_same : {A : Type 0} {n m : ℕ} → ◌≡◌ {A = Result A} (fault n) (fault m) → n ≡ m
fault_same e = cc

pub ok_same : {A : Type 0} {a b : A} → ok a ≡ ok b → a ≡ b
ok_same e = cc

pub ok_pair : {A B : Type 0} {a c : A} {b d : B} → ◌≡◌ {A = Result (A × B)} (ok (a, b)) (ok (c, d)) → (a ≡ c) × (b ≡ d)
ok_pair {A} {B} e = (ap (λ (p : A × B). p.0) (ok_same e), ap (λ (p : A × B). p.1) (ok_same e))

-- ---- the last group

pub last_zero : (w b n : ℕ) (rest : List ℕ) → 1 < w → b ≡ 0 → last_group w b n rest ≡ fault 11
unfolding last_group
last_zero w b n rest hw hb = rw (lt-ltb 1 w hw, eq-eqb b 0 hb)

-- one group, or a last one that is not zero
abbrev pub Fewest : ℕ → ℕ → Type 0
Fewest w b = (ltb 1 w && eqb b 0) ≡ false

pub fewest_last : (w b : ℕ) → (b ≡ 0 → ⊥) → Fewest w b
fewest_last w b h = rw (ne_eqb b 0 h) (and-false (ltb 1 w))

pub last_ok : (w b n : ℕ) (rest : List ℕ) → Fewest w b → n ≤ limit → last_group w b n rest ≡ ok (n, rest)
unfolding last_group
last_ok w b n rest f h = rw (f, le-leb n limit h)

pub last_large : (w b n : ℕ) (rest : List ℕ) → Fewest w b → limit < n → last_group w b n rest ≡ fault 12
unfolding last_group
last_large w b n rest f h = rw (f, lt-leb n limit h)

-- a last group that is taken
pub last_taken : (w b n : ℕ) (rest : List ℕ) (m : ℕ) (r : List ℕ) → last_group w b n rest ≡ ok (m, r)
    → Fewest w b × (n ≡ m) × (rest ≡ r) × (n ≤ limit)
unfolding last_group
last_taken w b n rest m r e = go (ltb 1 w && eqb b 0) (leb n limit) refl refl
  where
    go : (t u : Bool) → (ltb 1 w && eqb b 0) ≡ t → leb n limit ≡ u → Fewest w b × (n ≡ m) × (rest ≡ r) × (n ≤ limit)
    go true u ht hu = absurd (fault_ok (rw ht at e))
    go false false ht hu = absurd (fault_ok (rw (ht, hu) at e))
    go false true ht hu =
        let q : ◌≡◌ {A = Result (ℕ × List ℕ)} (ok (n, rest)) (ok (m, r)) = rw (ht, hu) at e in
        (ht, (ok_pair q).0, (ok_pair q).1, leb-true n limit hu)

-- ---- a group, by the next byte

pub groups_end : (left w v : ℕ) (bytes : List ℕ) → 0 < left → length bytes ≡ 0 → read_groups left w v bytes ≡ fault 10
unfolding read_groups
groups_end zero w v bytes h e = absurd (omega arith)
groups_end (suc k) w v [] h e = refl
groups_end (suc k) w v (b ∷ bytes) h e = absurd (omega arith)

pub groups_last : (left w v b : ℕ) (rest : List ℕ) → 0 < left → b < 128 → read_groups left w v (b ∷ rest) ≡ last_group w b (v + b * w) rest
unfolding read_groups
groups_last zero w v b rest h l = absurd (omega arith)
groups_last (suc k) w v b rest h l = rw (lt-ltb b 128 l)

pub groups_more : (left w v b : ℕ) (rest : List ℕ) → 0 < left → 128 ≤ b
    → read_groups left w v (b ∷ rest) ≡ read_groups (left - 1) (w * 128) (v + (b - 128) * w) rest
unfolding read_groups
groups_more zero w v b rest h l = absurd (omega arith)
groups_more (suc k) w v b rest h l =
    let e : k ≡ suc k - 1 = omega arith in
    rw (le-ltb b 128 l) (ap (λ (m : ℕ). read_groups m (w * 128) (v + (b - 128) * w) rest) e)

-- ---- a number, by its first byte

pub number_one : (b : ℕ) (rest : List ℕ) → b < 128 → read_number (b ∷ rest) ≡ ok (b, rest)
unfolding read_number
number_one b rest l =
    let e : 0 + b * 1 ≡ b = omega arith in
    groups_last 5 1 0 b rest (omega arith) l ∙ last_ok 1 b (0 + b * 1) rest refl (omega arith) ∙ ap (λ (n : ℕ). ok (n, rest)) e

pub number_more : (b : ℕ) (rest : List ℕ) → 128 ≤ b → read_number (b ∷ rest) ≡ read_groups 4 128 (b - 128) rest
unfolding read_number
number_more b rest l =
    let e : 0 + (b - 128) * 1 ≡ b - 128 = omega arith in
    groups_more 5 1 0 b rest (omega arith) l ∙ ap (λ (n : ℕ). read_groups 4 128 n rest) e

-- ---- a number that is read is not above the limit, and takes a byte or more

groups_taken : (k w v : ℕ) (bytes : List ℕ) (m : ℕ) (rest : List ℕ) → read_groups k w v bytes ≡ ok (m, rest)
    → (m ≤ limit) × (length rest < length bytes)
unfolding read_groups
groups_taken zero w v bytes m rest e = absurd (fault_ok e)
groups_taken (suc k) w v [] m rest e = absurd (fault_ok e)
groups_taken (suc k) w v (b ∷ bs) m rest e =
    elim (dec_lt b 128) [
      | yes h ↦
          let t = last_taken w b (v + b * w) bs m rest (rw (lt-ltb b 128 h) at e) in
          (omega (arith, t.1, t.3), omega (arith, ap length t.2))
      | no h ↦
          let t = groups_taken k (w * 128) (v + (b - 128) * w) bs m rest (rw (le-ltb b 128 (omega arith)) at e) in
          (t.0, omega (arith, t.1))
    ]

pub number_le : (bytes : List ℕ) (m : ℕ) (rest : List ℕ) → read_number bytes ≡ ok (m, rest) → m ≤ limit
unfolding read_number
number_le bytes m rest e = (groups_taken 5 1 0 bytes m rest e).0

pub number_shorter : (bytes : List ℕ) (m : ℕ) (rest : List ℕ) → read_number bytes ≡ ok (m, rest) → length rest < length bytes
unfolding read_number
number_shorter bytes m rest e = (groups_taken 5 1 0 bytes m rest e).1

-- ---- the weight of a group: with `left` groups to come it is 128 ^ (5 - left)

abbrev pub Weight : ℕ → ℕ → Type 0
Weight w left = w * 128 ^ left ≡ 2 ^ 35

pub weight_next : (w left : ℕ) → 0 < left → Weight w left → Weight (w * 128) (left - 1)
weight_next w zero h e = absurd (omega arith)
weight_next w (suc k) h e =
    let s : suc k - 1 ≡ k = omega arith in
    rw s (mul_assoc w 128 (128 ^ k) ∙ ap (λ (x : ℕ). w * x) (sym (pow-succ' 128 k)) ∙ e)

pub weight_le : (w left : ℕ) → 0 < left → Weight w left → w * 128 ≤ 2 ^ 35
weight_le w left h e =
    omega (arith, weight_next w left h e, mul-le-mul_left (w * 128) (one-le-pow (left - 1) 128 (omega arith)))

-- a group below 128 and the groups below it
pub group_lt : (v w g : ℕ) → v < w → g < 128 → v + g * w < w * 128
group_lt v w g hv hg =
    let h : g ≤ 127 = omega arith in
    omega (arith, mul-le-mul_right w h)
