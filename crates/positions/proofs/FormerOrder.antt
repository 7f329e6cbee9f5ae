-- What document 02, A6 changed: the reader's answers against those of the former order, in which 14 came right after the count. That
-- order is defined here for this theorem alone.
use Prim.Native.Nat.{ℕ, ◌≤◌, ◌<◌}
use mathlib.Core.Path.{◌≡◌, refl, sym, ◌∙◌}
use mathlib.Core.List.{List}
use native.Mathlib.Omega.{arith}
use native.Mathlib.Decide.{dec_le}
use borrow.Author.Tests.{le-leb, lt-leb}
use lib.Dec.{leb}
use Rattle.positions.specs.Basics.{pick, Result, ok, fault, and_then}
use Rattle.positions.specs.Decode.{read_number, read_body, whole, decode}
use Rattle.positions.proofs.ReadGroups.{fault_same}
use Rattle.positions.proofs.Decoded.{contents_fault, contents_body, decode_bad, decode_few, decode_good, body_list, contents_number}

-- Document 01: "After the count, 14"
unfoldable pub decode_before : List ℕ → ℕ → Result (List ℕ)
decode_before file cells = and_then (read_number file) (λ r. pick (leb r.0 cells) (whole (read_body r.0 0 r.1)) (fault 14))

-- "files with fewer cells than the count that also" have the fault n after the count
pub record BadWithFewCells (file : List ℕ) (cells n : ℕ) : Type 0 where
  pub count : ℕ
  pub rest : List ℕ
  pub counted : read_number file ≡ ok (count, rest)
  pub few : cells < count
  pub bad : whole (read_body count 0 rest) ≡ fault n

-- "The old answers that change": 14 was given, and now it is that fault, from 10 to 13
pub record Changed (file : List ℕ) (cells n : ℕ) : Type 0 where
  pub before : decode_before file cells ≡ fault 14
  pub now_is : decode file cells ≡ fault n
  pub numbered : (10 ≤ n) × (n ≤ 13)
  pub differ : decode file cells ≡ decode_before file cells → ⊥

-- the two orders' answers differ exactly for those files
pub record Differences (file : List ℕ) (cells : ℕ) : Type 0 where
  pub changed : (n : ℕ) → BadWithFewCells file cells n → Changed file cells n
  pub only : (decode file cells ≡ decode_before file cells → ⊥) → (n : ℕ) × BadWithFewCells file cells n

answers_changed : (file : List ℕ) (cells n : ℕ) → BadWithFewCells file cells n → Changed file cells n
unfolding decode_before
answers_changed file cells n b =
    let c = contents_body file b.count b.rest b.counted ∙ b.bad in
    let was : decode_before file cells ≡ fault 14 = rw (b.counted, lt-leb b.count cells b.few) in
    let is = decode_bad file cells n c in
    let numbered = contents_number file n c in
    record {
      before = was;
      now_is = is;
      numbered = numbered;
      differ = λ e. omega (arith, numbered.1, fault_same (sym is ∙ e ∙ was));
    }

no_others : (file : List ℕ) (cells : ℕ) → (decode file cells ≡ decode_before file cells → ⊥) → (n : ℕ) × BadWithFewCells file cells n
unfolding decode_before
no_others file cells differ = by_count (read_number file) refl
  where
    by_body : (k : ℕ) (rest : List ℕ) (r : Result (List ℕ)) → read_number file ≡ ok (k, rest) → cells < k → whole (read_body k 0 rest) ≡ r
        → (n : ℕ) × BadWithFewCells file cells n
    by_body k rest (fault n) c h w = (n, record { count = k; rest = rest; counted = c; few = h; bad = w })
    by_body k rest (ok l) c h w =
        let len = (body_list k rest l w).length_is in
        absurd
        (differ
        (decode_few file cells l (contents_body file k rest c ∙ w) (omega (arith, len, h))
        ∙ rw (c, lt-leb k cells h) refl))

    enough : (k : ℕ) (rest : List ℕ) (r : Result (List ℕ)) → read_number file ≡ ok (k, rest) → k ≤ cells → whole (read_body k 0 rest) ≡ r
        → decode file cells ≡ r
    enough k rest (fault n) c h w = decode_bad file cells n (contents_body file k rest c ∙ w)
    enough k rest (ok l) c h w =
        let len = (body_list k rest l w).length_is in
        decode_good file cells l (contents_body file k rest c ∙ w) (omega (arith, len, h))

    by_count : (r : Result (ℕ × List ℕ)) → read_number file ≡ r → (n : ℕ) × BadWithFewCells file cells n
    by_count (fault n) c = absurd (differ (decode_bad file cells n (contents_fault file n c) ∙ rw c refl))
    by_count (ok r) c =
        elim (dec_le r.0 cells) [
          | yes h ↦ absurd (differ (enough r.0 r.1 (whole (read_body r.0 0 r.1)) c h refl ∙ rw (c, le-leb r.0 cells h) refl))
          | no h ↦ by_body r.0 r.1 (whole (read_body r.0 0 r.1)) c (omega arith) refl
        ]

pub differences : (file : List ℕ) (cells : ℕ) → Differences file cells
differences file cells = record { changed = answers_changed file cells; only = no_others file cells }
