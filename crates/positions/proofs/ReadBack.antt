-- What is encoded is read back: a number, a position, a body, and a whole file with whatever follows it.
use Prim.Native.Nat.{ℕ, zero, suc, ◌+◌, ◌-◌, ◌*◌, ◌^◌, ◌/◌, ◌%◌, ◌≤◌, ◌<◌}
use mathlib.Core.Path.{◌≡◌, refl, ap, ◌∙◌}
use mathlib.Core.Bool.{true}
use mathlib.Core.List.{List, [], ◌∷◌, ◌++◌, append_assoc}
use native.Mathlib.Omega.{arith}
use native.Mathlib.Nat.{add-mul, mul_assoc, mul_comm, pow-succ'}
use native.Mathlib.Decide.{dec_lt}
use borrow.Author.Tests.{lt-ltb, le-ltb}
use lib.ListN.{length}
use Rattle.positions.specs.Basics.{limit, pick, ok, fault, is_empty}
use Rattle.positions.specs.Rising.{rises_from, rising}
use Rattle.positions.specs.Encode.{encode_number, encode_from, encode}
use Rattle.positions.specs.Decode.{read_groups, read_number, read_position, read_body, whole, contents}
use Rattle.positions.proofs.Groups.{one_byte, more_bytes}
use Rattle.positions.proofs.Rising.{rises_taken, rises_length}
use Rattle.positions.proofs.ReadGroups.{Fewest, fewest_last, last_ok}
use Rattle.positions.proofs.ReadBody.{position_ok, prepend, body_suc}
use Rattle.positions.proofs.Decoded.{contents_body}

-- the lowest group and the groups above it, each at its weight
pub regroup : (v q r w : ℕ) → v + r * w + q * (w * 128) ≡ v + (q * 128 + r) * w
regroup v q r w =
    omega (arith, add-mul (q * 128) r w, mul_assoc q 128 w, ap (λ (x : ℕ). q * x) (mul_comm 128 w))

-- ---- a number

last_back : (k w v n : ℕ) (rest : List ℕ) → n < 128 → Fewest w n → v + n * w ≤ limit
    → read_groups (suc k) w v (encode_number n ++ rest) ≡ ok (v + n * w, rest)
unfolding read_groups
last_back k w v n rest h f l = rw (one_byte n h, lt-ltb n 128 h) (last_ok w n (v + n * w) rest f l)

more_back : (k w v n : ℕ) (rest : List ℕ) → 128 ≤ n
    → read_groups (suc k) w v (encode_number n ++ rest) ≡ read_groups k (w * 128) (v + n % 128 * w) (encode_number (n / 128) ++ rest)
unfolding read_groups
more_back k w v n rest h =
    let big : 128 ≤ n % 128 + 128 = omega arith in
    let e : n % 128 + 128 - 128 ≡ n % 128 = omega arith in
    rw (more_bytes n h, le-ltb (n % 128 + 128) 128 big, e)

groups_back : (k w v n : ℕ) (rest : List ℕ) → n < 128 ^ suc k → Fewest w n → v + n * w ≤ limit
    → read_groups (suc k) w v (encode_number n ++ rest) ≡ ok (v + n * w, rest)
groups_back zero w v n rest s f l = last_back zero w v n rest s f l
groups_back (suc k) w v n rest s f l =
    elim (dec_lt n 128) [
      | yes h ↦ last_back (suc k) w v n rest h f l
      | no h ↦
          let big : 128 ≤ n = omega arith in
          let d : n / 128 * 128 + n % 128 ≡ n = omega arith in
          let e : v + n % 128 * w + n / 128 * (w * 128) ≡ v + n * w = regroup v (n / 128) (n % 128) w ∙ ap (λ (x : ℕ). v + x * w) d in
          more_back (suc k) w v n rest big
          ∙ groups_back k (w * 128) (v + n % 128 * w) (n / 128) rest (omega (arith, pow-succ' 128 (suc k))) (fewest_last (w * 128) (n / 128) (λ z. omega arith)) (omega arith)
          ∙ ap (λ (m : ℕ). ok (m, rest)) e
    ]

pub number_back : (n : ℕ) (rest : List ℕ) → n ≤ limit → read_number (encode_number n ++ rest) ≡ ok (n, rest)
unfolding read_number
number_back n rest h =
    let e : 0 + n * 1 ≡ n = omega arith in
    groups_back 4 1 0 n rest (omega arith) refl (omega arith) ∙ ap (λ (m : ℕ). ok (m, rest)) e

-- ---- a position, and a body

pub position_back : (next p : ℕ) (rest : List ℕ) → next ≤ p → p < limit → read_position next (encode_number (p - next) ++ rest) ≡ ok (p, rest)
position_back next p rest l h =
    let e : next + (p - next) ≡ p = omega arith in
    position_ok next _ (p - next) rest (number_back (p - next) rest (omega arith)) (omega arith) ∙ ap (λ (m : ℕ). ok (m, rest)) e

pub body_back : (next : ℕ) (l rest : List ℕ) → rises_from next l ≡ true → read_body (length l) next (encode_from next l ++ rest) ≡ ok (l, rest)
unfolding read_body encode_from
body_back next [] rest r = refl
body_back next (p ∷ ps) rest r =
    let t = rises_taken next p ps r in
    let tail : List ℕ = encode_from (p + 1) ps ++ rest in
    ap (read_body (suc (length ps)) next) (append_assoc (encode_number (p - next)) (encode_from (p + 1) ps) rest)
    ∙ body_suc (length ps) next (encode_number (p - next) ++ tail) p tail (position_back next p tail t.0 t.1)
    ∙ ap (prepend p) (body_back (p + 1) ps rest t.2)

-- ---- a whole file, and what follows it

pub file_back : (l more : List ℕ) → rising l ≡ true → contents (encode l ++ more) ≡ pick (is_empty more) (ok l) (fault 13)
unfolding encode rising whole
file_back l more r =
    let short : length l ≤ limit = omega (arith, rises_length 0 l (omega arith) r) in
    let split = append_assoc (encode_number (length l)) (encode_from 0 l) more in
    ap contents split
    ∙ contents_body (encode_number (length l) ++ (encode_from 0 l ++ more)) (length l) (encode_from 0 l ++ more) (number_back (length l) (encode_from 0 l ++ more) short)
    ∙ ap whole (body_back 0 l more r)
