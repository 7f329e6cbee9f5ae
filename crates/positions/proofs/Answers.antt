-- Laws of the writer's answers, and what it promises for the target.
use Prim.Native.Nat.{ℕ, ◌≤◌, ◌<◌}
use mathlib.Core.Path.{◌≡◌, refl, sym, ap, ◌∙◌}
use mathlib.Core.Bool.{Bool, true, false}
use mathlib.Core.List.{List}
use native.Mathlib.Omega.{arith}
use native.Mathlib.Decide.{dec_le}
use borrow.Author.Tests.{le-leb, lt-leb}
use lib.ListN.{length}
use lib.Seq.{sets}
use Rattle.positions.specs.Rising.{rising}
use Rattle.positions.specs.Encode.{encode}
use Rattle.positions.specs.Promise.{count, refused, write_refusal, size_answer, write_answer, leaves, Writes}
use Rattle.positions.specs.declared.WriteRefusal.{WriteRefusal}
use Rattle.std.specs.Prelude.{Ok, Err}
use Rattle.positions.proofs.Stores.{sets_front}

-- ---- the byte count by itself

pub size_refused : (l : List ℕ) → rising l ≡ false → size_answer l ≡ refused 8
unfolding size_answer
size_refused l e = rw e

pub size_counted : (l : List ℕ) → rising l ≡ true → size_answer l ≡ count (length (encode l))
unfolding size_answer
size_counted l e = rw e

pub counted_rises : (l : List ℕ) (n : ℕ) → count n ≡ size_answer l → (rising l ≡ true) × (n ≡ length (encode l))
counted_rises l n e = go (rising l) refl
  where
    go : (b : Bool) → rising l ≡ b → (rising l ≡ true) × (n ≡ length (encode l))
    go true h = let q = e ∙ size_counted l h in (h, cc)
    go false h = let q = e ∙ size_refused l h in let z : ◌≡◌ {A = ℕ} 0 1 = cc in absurd (omega arith)

pub refused_falls : (l : List ℕ) (n : ℕ) → refused n ≡ size_answer l → (rising l ≡ false) × (n ≡ 8)
refused_falls l n e = go (rising l) refl
  where
    go : (b : Bool) → rising l ≡ b → (rising l ≡ false) × (n ≡ 8)
    go true h = let q = e ∙ size_counted l h in let z : ◌≡◌ {A = ℕ} 0 1 = cc in absurd (omega arith)
    go false h = let q = e ∙ size_refused l h in (h, cc)

-- ---- the writer

pub write_falling : (l : List ℕ) (room : ℕ) → rising l ≡ false → write_answer l room ≡ refused 8
unfolding write_answer
write_falling l room e = rw e

pub write_short : (l : List ℕ) (room : ℕ) → rising l ≡ true → room < length (encode l) → write_answer l room ≡ refused 9
unfolding write_answer
write_short l room e h = rw (e, lt-leb (length (encode l)) room h)

pub write_counted : (l : List ℕ) (room : ℕ) → rising l ≡ true → length (encode l) ≤ room → write_answer l room ≡ count (length (encode l))
unfolding write_answer
write_counted l room e h = rw (e, le-leb (length (encode l)) room h)

pub counted_written : (l : List ℕ) (room n : ℕ) → count n ≡ write_answer l room → (rising l ≡ true) × (n ≡ length (encode l))
counted_written l room n e = go (rising l) refl
  where
    go : (b : Bool) → rising l ≡ b → (rising l ≡ true) × (n ≡ length (encode l))
    go false h = let q = e ∙ write_falling l room h in let z : ◌≡◌ {A = ℕ} 0 1 = cc in absurd (omega arith)
    go true h =
        elim (dec_le (length (encode l)) room) [
          | yes k ↦ let q = e ∙ write_counted l room h k in (h, cc)
          | no k ↦ let q = e ∙ write_short l room h (omega arith) in let z : ◌≡◌ {A = ℕ} 0 1 = cc in absurd (omega arith)
        ]

-- the writer's refusals are those of document 01's table, 8 and 9
pub refused_number : (l : List ℕ) (room n : ℕ) → refused n ≡ write_answer l room → (8 ≤ n) × (n ≤ 9)
refused_number l room n e = go (rising l) refl
  where
    is : (k : ℕ) → write_answer l room ≡ refused k → n ≡ k
    is k h = cc

    go : (b : Bool) → rising l ≡ b → (8 ≤ n) × (n ≤ 9)
    go false h = let k = is 8 (write_falling l room h) in (omega arith, omega arith)
    go true h =
        elim (dec_le (length (encode l)) room) [
          | yes f ↦ let q = e ∙ write_counted l room h f in let z : ◌≡◌ {A = ℕ} 0 1 = cc in absurd (omega arith)
          | no f ↦ let k = is 9 (write_short l room h (omega arith)) in (omega arith, omega arith)
        ]

pub writes_refused : (l target : List ℕ) (why : WriteRefusal) → write_answer l (length target) ≡ refused (write_refusal why) → Writes l target (Err why) target
unfolding leaves
writes_refused l target why e = record { answer = sym e; target = rw e }

pub writes_bytes : (l target : List ℕ) (n : ℕ) → rising l ≡ true → n ≡ length (encode l) → n ≤ length target
    → Writes l target (Ok n) (sets target 0 (encode l))
unfolding leaves
writes_bytes l target n r k h =
    let fits : length (encode l) ≤ length target = omega arith in
    let e = write_counted l (length target) r fits in
    record { answer = ap count k ∙ sym e; target = rw e (sets_front (encode l) target fits) }
