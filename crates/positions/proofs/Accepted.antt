-- What is read was encoded: the bytes of a number, a position and a body that reading accepts are their encoding.
use Prim.Native.Nat.{ℕ, zero, suc, ◌+◌, ◌-◌, ◌*◌, ◌/◌, ◌%◌, ◌≤◌, ◌<◌}
use mathlib.Core.Path.{◌≡◌, refl, sym, ap, ◌∙◌, subst}
use mathlib.Core.Bool.{true, false≢true}
use mathlib.Core.List.{List, [], ◌∷◌, ◌++◌, append_assoc}
use native.Mathlib.Omega.{arith}
use native.Mathlib.Decide.{dec_lt}
use borrow.Author.Tests.{lt-ltb, le-ltb, ltb-true}
use lib.Dec.{ltb}
use lib.Pow.{are_bytes}
use Rattle.positions.specs.Basics.{limit, Result, ok, fault}
use Rattle.positions.specs.Rising.{rises_from}
use Rattle.positions.specs.Encode.{encode_number, encode_from}
use Rattle.positions.specs.Decode.{read_groups, read_number, read_position, read_body}
use Rattle.positions.proofs.Groups.{one_byte, more_bytes}
use Rattle.positions.proofs.Rising.{and_both, rises_on}
use Rattle.positions.proofs.ReadGroups.{fault_ok, ok_same, Fewest, fewest_last, last_taken}
use Rattle.positions.proofs.ReadBody.{position_taken, prepend, body_fault, body_suc}
use Rattle.positions.proofs.ReadBack.{regroup}

-- ---- a number

-- groups of weight w above groups that add up to v: the number that they encode
record Encoded (w v : ℕ) (bytes : List ℕ) (m : ℕ) (rest : List ℕ) : Type 0 where
  n : ℕ
  bytes_are : bytes ≡ encode_number n ++ rest
  value_is : m ≡ v + n * w
  fewest : Fewest w n
  rest_bytes : are_bytes rest ≡ true

-- several groups, so the number is not zero
fewest_pos : (w n : ℕ) → 1 < w → Fewest w n → 0 < n
fewest_pos w zero h f = absurd (false≢true (sym f ∙ rw (lt-ltb 1 w h)))
fewest_pos w (suc n) h f = omega arith

last_encoded : (w v b : ℕ) (bs : List ℕ) (m : ℕ) (rest : List ℕ) → are_bytes bs ≡ true → b < 128
    → Fewest w b × (v + b * w ≡ m) × (bs ≡ rest) × (v + b * w ≤ limit) → Encoded w v (b ∷ bs) m rest
last_encoded w v b bs m rest a h t =
    record {
      n = b;
      bytes_are = rw (one_byte b h) (ap (λ (x : List ℕ). b ∷ x) t.2);
      value_is = sym t.1;
      fewest = t.0;
      rest_bytes = rw t.2 at a;
    }

more_encoded : (w v b : ℕ) (bs : List ℕ) (m : ℕ) (rest : List ℕ) → 0 < w → 128 ≤ b → b < 256
    → Encoded (w * 128) (v + (b - 128) * w) bs m rest → Encoded w v (b ∷ bs) m rest
more_encoded w v b bs m rest hw lo hi e =
    let q = e.n in
    let n : ℕ = q * 128 + (b - 128) in
    let pos : 0 < q = fewest_pos (w * 128) q (omega arith) e.fewest in
    let big : 128 ≤ n = omega arith in
    let low : b ≡ n % 128 + 128 = omega arith in
    let high : q ≡ n / 128 = omega arith in
    record {
      n = n;
      bytes_are =
          ap (λ (x : List ℕ). b ∷ x) e.bytes_are
          ∙ (λ j. low j ∷ (encode_number (high j) ++ rest))
          ∙ sym (ap (λ (x : List ℕ). x ++ rest) (more_bytes n big));
      value_is = e.value_is ∙ regroup v q (b - 128) w;
      fewest = fewest_last w n (λ z. omega arith);
      rest_bytes = e.rest_bytes;
    }

groups_encoded : (k w v : ℕ) (bytes : List ℕ) (m : ℕ) (rest : List ℕ) → 0 < w → are_bytes bytes ≡ true → read_groups k w v bytes ≡ ok (m, rest)
    → Encoded w v bytes m rest
unfolding read_groups
groups_encoded zero w v bytes m rest hw a e = absurd (fault_ok e)
groups_encoded (suc k) w v [] m rest hw a e = absurd (fault_ok e)
groups_encoded (suc k) w v (b ∷ bs) m rest hw a e =
    let t = and_both (ltb b 256) (are_bytes bs) a in
    elim (dec_lt b 128) [
      | yes h ↦ last_encoded w v b bs m rest t.1 h (last_taken w b (v + b * w) bs m rest (rw (lt-ltb b 128 h) at e))
      | no h ↦
          let lo : 128 ≤ b = omega arith in
          more_encoded w v b bs m rest hw lo (ltb-true b 256 t.0)
          (groups_encoded k (w * 128) (v + (b - 128) * w) bs m rest (omega arith) t.1 (rw (le-ltb b 128 lo) at e))
    ]

pub number_encoded : (bytes : List ℕ) (m : ℕ) (rest : List ℕ) → are_bytes bytes ≡ true → read_number bytes ≡ ok (m, rest)
    → (bytes ≡ encode_number m ++ rest) × (are_bytes rest ≡ true)
unfolding read_number
number_encoded bytes m rest a e =
    let r = groups_encoded 5 1 0 bytes m rest (omega arith) a e in
    let same : r.n ≡ m = omega (arith, r.value_is) in
    (r.bytes_are ∙ ap (λ (n : ℕ). encode_number n ++ rest) same, r.rest_bytes)

-- ---- a body

-- the bytes of a body b, in which positions rise from `next` on
pub record BodyOf (next : ℕ) (bytes : List ℕ) (b : List ℕ × List ℕ) : Type 0 where
  pub bytes_are : bytes ≡ encode_from next b.0 ++ b.1
  pub rises : rises_from next b.0 ≡ true

one_more : (next : ℕ) (bytes : List ℕ) (p : ℕ) (rest : List ℕ) (b : List ℕ × List ℕ) → are_bytes bytes ≡ true → read_position next bytes ≡ ok (p, rest)
    → BodyOf (p + 1) rest b → BodyOf next bytes (p ∷ b.0, b.1)
unfolding encode_from
one_more next bytes p rest b a e body =
    let t = position_taken next bytes p rest e in
    let e' = number_encoded bytes t.0 rest a t.1 in
    let gap : t.0 ≡ p - next = omega (arith, t.2) in
    record {
      bytes_are =
          e'.0
          ∙ (λ j. encode_number (gap j) ++ body.bytes_are j)
          ∙ sym (append_assoc (encode_number (p - next)) (encode_from (p + 1) b.0) b.1);
      rises = rises_on next p b.0 (omega (arith, t.2)) t.3 ∙ body.rises;
    }

-- a body after its first position
more_body : (k next : ℕ) (bytes : List ℕ) (p : ℕ) (rest : List ℕ) (b : List ℕ × List ℕ) → are_bytes bytes ≡ true → read_position next bytes ≡ ok (p, rest)
    → read_body (suc k) next bytes ≡ ok b → ((d : List ℕ × List ℕ) → are_bytes rest ≡ true → read_body k (p + 1) rest ≡ ok d → BodyOf (p + 1) rest d)
    → BodyOf next bytes b
more_body k next bytes p rest b a h e ih = go (read_body k (p + 1) rest) refl
  where
    go : (r : Result (List ℕ × List ℕ)) → read_body k (p + 1) rest ≡ r → BodyOf next bytes b
    go (fault n) q = absurd (fault_ok (sym (body_suc k next bytes p rest h ∙ ap (prepend p) q) ∙ e))
    go (ok d) q =
        let t = position_taken next bytes p rest h in
        let body = ih d (number_encoded bytes t.0 rest a t.1).1 q in
        subst (λ (x : List ℕ × List ℕ). BodyOf next bytes x) (ok_same (sym (body_suc k next bytes p rest h ∙ ap (prepend p) q) ∙ e))
        (one_more next bytes p rest d a h body)

pub body_encoded : (k next : ℕ) (bytes : List ℕ) (b : List ℕ × List ℕ) → are_bytes bytes ≡ true → read_body k next bytes ≡ ok b → BodyOf next bytes b
unfolding read_body encode_from rises_from
body_encoded zero next bytes b a e =
    subst (λ (x : List ℕ × List ℕ). BodyOf next bytes x) (ok_same e) (record { bytes_are = refl; rises = refl })
body_encoded (suc k) next bytes b a e = go (read_position next bytes) refl (λ p rest d. body_encoded k (p + 1) rest d)
  where
    go : (r : Result (ℕ × List ℕ)) → read_position next bytes ≡ r
        → ((p : ℕ) (rest : List ℕ) (d : List ℕ × List ℕ) → are_bytes rest ≡ true → read_body k (p + 1) rest ≡ ok d → BodyOf (p + 1) rest d)
        → BodyOf next bytes b
    go (fault n) h ih = absurd (fault_ok (sym (body_fault (suc k) next bytes n (omega arith) h) ∙ e))
    go (ok r) h ih = more_body k next bytes r.0 r.1 b a h e (ih r.0 r.1)
