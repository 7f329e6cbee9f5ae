-- Laws of `read_position` and `read_body`: which way reading goes, by what is read first.
use Prim.Native.Nat.{ℕ, zero, suc, ◌+◌, ◌-◌, ◌≤◌, ◌<◌}
use mathlib.Core.Path.{◌≡◌, refl, sym, ap, ◌∙◌}
use mathlib.Core.Bool.{true, false≢true}
use mathlib.Core.List.{List, ◌∷◌}
use native.Mathlib.Omega.{arith}
use native.Mathlib.Decide.{dec_lt}
use borrow.Author.Tests.{lt-ltb, le-ltb}
use lib.ListN.{length}
use Rattle.std.specs.Prelude.{Ok, Err, IsOk}
use Rattle.std.specs.Prelude as std
use Rattle.std.specs.Borrow.{Bor}
use Rattle.positions.specs.declared.ReadRefusal.{ReadRefusal}
use Rattle.positions.specs.Basics.{limit, Result, ok, fault, and_then}
use Rattle.positions.specs.Decode.{read_number, read_position, read_body}
use Rattle.positions.specs.Inner.{reading_in, rest_of, accepts, positions_of}
use Rattle.positions.proofs.ReadGroups.{fault_ok, ok_pair, number_shorter}

-- ---- one position

pub position_fault : (next : ℕ) (bytes : List ℕ) (n : ℕ) → read_number bytes ≡ fault n → read_position next bytes ≡ fault n
unfolding read_position
position_fault next bytes n e = rw e

pub position_ok : (next : ℕ) (bytes : List ℕ) (m : ℕ) (rest : List ℕ) → read_number bytes ≡ ok (m, rest) → next + m < limit
    → read_position next bytes ≡ ok (next + m, rest)
unfolding read_position
position_ok next bytes m rest e h = rw (e, lt-ltb (next + m) limit h)

pub position_large : (next : ℕ) (bytes : List ℕ) (m : ℕ) (rest : List ℕ) → read_number bytes ≡ ok (m, rest) → limit ≤ next + m
    → read_position next bytes ≡ fault 12
unfolding read_position
position_large next bytes m rest e h = rw (e, le-ltb (next + m) limit h)

-- a position that is read: its number, and that it is below the limit
pub position_taken : (next : ℕ) (bytes : List ℕ) (p : ℕ) (rest : List ℕ) → read_position next bytes ≡ ok (p, rest)
    → (m : ℕ) × (read_number bytes ≡ ok (m, rest)) × (p ≡ next + m) × (p < limit)
unfolding read_position
position_taken next bytes p rest e = go (read_number bytes) refl
  where
    go : (r : Result (ℕ × List ℕ)) → read_number bytes ≡ r → (m : ℕ) × (read_number bytes ≡ ok (m, rest)) × (p ≡ next + m) × (p < limit)
    go (fault n) h = absurd (fault_ok (rw h at e))
    go (ok r) h =
        elim (dec_lt (next + r.0) limit) [
          | yes l ↦
              let q = ok_pair (rw (h, lt-ltb (next + r.0) limit l) at e) in
              (r.0, h ∙ ap (λ (t : List ℕ). ok (r.0, t)) q.1, sym q.0, omega (arith, q.0))
          | no l ↦ absurd (fault_ok (rw (h, le-ltb (next + r.0) limit (omega arith)) at e))
        ]

-- a position takes a byte or more
pub position_shorter : (next : ℕ) (bytes : List ℕ) (p : ℕ) (rest : List ℕ) → read_position next bytes ≡ ok (p, rest) → length rest < length bytes
position_shorter next bytes p rest e =
    let t = position_taken next bytes p rest e in
    number_shorter bytes t.0 rest t.1

-- ---- the body

-- a position in front of a body's
abbrev pub prepend : ℕ → Result (List ℕ × List ℕ) → Result (List ℕ × List ℕ)
prepend p r = and_then r (λ b. ok (p ∷ b.0, b.1))

pub body_fault : (left next : ℕ) (bytes : List ℕ) (n : ℕ) → 0 < left → read_position next bytes ≡ fault n → read_body left next bytes ≡ fault n
unfolding read_body
body_fault zero next bytes n h e = absurd (omega arith)
body_fault (suc k) next bytes n h e = rw e

pub body_suc : (k next : ℕ) (bytes : List ℕ) (p : ℕ) (rest : List ℕ) → read_position next bytes ≡ ok (p, rest)
    → read_body (suc k) next bytes ≡ prepend p (read_body k (p + 1) rest)
unfolding read_body
body_suc k next bytes p rest e = rw e

pub body_step : (left next : ℕ) (bytes : List ℕ) (p : ℕ) (rest : List ℕ) → 0 < left → read_position next bytes ≡ ok (p, rest)
    → read_body left next bytes ≡ prepend p (read_body (left - 1) (p + 1) rest)
body_step zero next bytes p rest h e = absurd (omega arith)
body_step (suc k) next bytes p rest h e =
    let s : k ≡ suc k - 1 = omega arith in
    body_suc k next bytes p rest e ∙ ap (λ (j : ℕ). prepend p (read_body j (p + 1) rest)) s

-- ---- what the first pass finds: where the body ends

pub rest_prepend : (p : ℕ) (r : Result (List ℕ × List ℕ)) → rest_of (prepend p r) ≡ rest_of r
rest_prepend p (ok b) = refl
rest_prepend p (fault n) = refl

-- ---- what the second pass stores

pub accepts_prepend : (p : ℕ) (r : Result (List ℕ × List ℕ)) → accepts (prepend p r) ≡ accepts r
accepts_prepend p (ok b) = refl
accepts_prepend p (fault n) = refl

pub positions_prepend : (p : ℕ) (r : Result (List ℕ × List ℕ)) → accepts r ≡ true → positions_of (prepend p r) ≡ p ∷ positions_of r
positions_prepend p (ok b) h = refl
positions_prepend p (fault n) h = absurd (false≢true h)

-- the first number of a body that was judged good
pub record First (left next : ℕ) (bytes : List ℕ) : Type 0 where
  pub n : ℕ
  pub rest : List ℕ
  pub read : read_number bytes ≡ ok (n, rest)
  pub below : next + n < limit
  pub body_is : read_body left next bytes ≡ prepend (next + n) (read_body (left - 1) (next + n + 1) rest)

pub first_of : (left next : ℕ) (bytes : List ℕ) → 0 < left → accepts (read_body left next bytes) ≡ true → First left next bytes
first_of left next bytes h a = go (read_position next bytes) refl
  where
    go : (r : Result (ℕ × List ℕ)) → read_position next bytes ≡ r → First left next bytes
    go (fault m) e = absurd (false≢true (sym (ap accepts (body_fault left next bytes m h e)) ∙ a))
    go (ok r) e =
        let t = position_taken next bytes r.0 r.1 e in
        record {
          n = t.0;
          rest = r.1;
          read = t.1;
          below = omega (arith, t.2, t.3);
          body_is =
              body_step left next bytes r.0 r.1 h e
              ∙ ap (λ (p : ℕ). prepend p (read_body (left - 1) (p + 1) r.1)) t.2;
        }

-- the same by what the code read
pub first_read : (left next : ℕ) (bytes : List ℕ) (n : ℕ) (rest : List ℕ) → 0 < left → accepts (read_body left next bytes) ≡ true
    → ok (n, rest) ≡ read_number bytes
    → (next + n < limit) × (read_body left next bytes ≡ prepend (next + n) (read_body (left - 1) (next + n + 1) rest))
first_read left next bytes n rest h a e =
    let f = first_of left next bytes h a in
    let same = ok_pair (sym f.read ∙ sym e) in (
      omega (arith, f.below, same.0),
      f.body_is ∙ (λ j. prepend (next + same.0 j) (read_body (left - 1) (next + same.0 j + 1) (same.1 j))),
    )

-- what the code reads of it is no fault
pub read_ok : (r : std.Result (ℕ × Bor (List ℕ)) ReadRefusal) {x : ℕ × List ℕ} → reading_in r ≡ ok x → IsOk r
read_ok (Ok f) e = refl
read_ok (Err why) e = absurd (fault_ok e)

-- there is a byte
pub first_there : (left next : ℕ) (bytes : List ℕ) → 0 < left → accepts (read_body left next bytes) ≡ true → 0 < length bytes
first_there left next bytes h a =
    let f = first_of left next bytes h a in
    omega (arith, number_shorter bytes f.n f.rest f.read)

-- a body has as many positions as were asked for, and a byte or more for each
abbrev pub BodyHolds : ℕ → ℕ → List ℕ → Type 0
BodyHolds k next bytes = (length (positions_of (read_body k next bytes)) ≡ k) × (k ≤ length bytes)

pub body_holds : (k next : ℕ) (bytes : List ℕ) → accepts (read_body k next bytes) ≡ true → BodyHolds k next bytes
unfolding read_body
body_holds zero next bytes h = (refl, omega arith)
body_holds (suc k) next bytes h = go (read_position next bytes) refl (λ p rest. body_holds k (p + 1) rest)
  where
    go : (r : Result (ℕ × List ℕ)) → read_position next bytes ≡ r
        → ((p : ℕ) (rest : List ℕ) → accepts (read_body k (p + 1) rest) ≡ true → BodyHolds k (p + 1) rest)
        → BodyHolds (suc k) next bytes
    go (fault n) e ih = absurd (false≢true (sym (ap accepts (body_fault (suc k) next bytes n (omega arith) e)) ∙ h))
    go (ok r) e ih =
        let s = body_suc k next bytes r.0 r.1 e in
        let body = read_body k (r.0 + 1) r.1 in
        let a : accepts body ≡ true = sym (accepts_prepend r.0 body) ∙ sym (ap accepts s) ∙ h in
        let held = ih r.0 r.1 a in
        let shorter : length r.1 < length bytes = position_shorter next bytes r.0 r.1 e in (
          ap (λ (x : Result (List ℕ × List ℕ)). length (positions_of x)) s
              ∙ ap length (positions_prepend r.0 body a)
              ∙ ap suc held.0,
          omega (arith, held.1, shorter),
        )
