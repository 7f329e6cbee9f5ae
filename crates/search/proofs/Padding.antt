-- "Bits from n on never matter": two texts of n bits that agree below n give the same answer to every search call. So do
-- two patterns that are alike, to every search call and to the call for H(B).
use Prim.Native.Nat.{ℕ}
use mathlib.Core.Path.{◌≡◌, refl, ap}
use mathlib.Core.Bool.{Bool, true, false, cond}
use mathlib.Core.List.{List, [], ◌∷◌}
use lib.Dec.{ltb}
use lib.ListN.{length}
use Rattle.bits.specs.Packed.{Packed, bytes_for, AgreeBelow}
use Rattle.rules.specs.Pattern.{Pattern}
use Rattle.rules.specs.Wild.{Alike}
use Rattle.search.specs.Verdict.{Request, Row, rows, refused, accepted, judge, AllFail, machine, verdict, hash_verdict}
use Rattle.rules.proofs.Padding.{text_bits, run_same}
use Rattle.rules.proofs.Wild.{run_alike_bits, hash_of_alike_bits}

pub judge_same : {A : Type 0} (table : List Row) (v z : A) → (AllFail table → v ≡ z) → judge table v ≡ judge table z
unfolding judge
judge_same [] v z h = ap accepted (h tt)
judge_same (r ∷ rest) v z h = go r.holds refl (λ g. judge_same rest v z g)
  where
    go : (e : Bool) → r.holds ≡ e → ((AllFail rest → v ≡ z) → judge rest v ≡ judge rest z)
        → cond e (refused r.number) (judge rest v) ≡ cond e (refused r.number) (judge rest z)
    go true e ih = refl
    go false e ih = ih (λ f. h (e, f))

-- the request with another text and another pattern
abbrev pub with_bits : Request → Packed → Pattern → Request
with_bits q t w =
    record {
      text = t;
      pattern = w;
      method = q.method;
      mark = q.mark;
      budget = q.budget;
      list = q.list;
      scratch = q.scratch;
    }

-- two texts of as many bits whose bits are the same, both of which have the bytes for them, or neither has
pub record SameText (n : ℕ) (a b : List ℕ) : Type 0 where
  pub missing : ltb (length a) (bytes_for n) ≡ ltb (length b) (bytes_for n)
  pub same : AgreeBelow n a b

-- two patterns that are alike, both of which have the bytes for either run, or neither has
pub record SamePattern (w v : Pattern) : Type 0 where
  pub missing : ltb (length w.bytes) (bytes_for w.count) ≡ ltb (length v.bytes) (bytes_for v.count)
  pub fixed_missing : ltb (length w.fixed) (bytes_for w.count) ≡ ltb (length v.fixed) (bytes_for v.count)
  pub alike : Alike w v

alike_itself : (w : Pattern) → Alike w w
alike_itself w = record { as_many = refl; fixed_alike = λ j l. refl; bits_alike = λ j l f. refl }

-- The text's bits from n on
pub verdict_same : (q : Request) (n : ℕ) (a b : List ℕ) → SameText n a b
    → verdict (with_bits q (text_bits n a) q.pattern) ≡ verdict (with_bits q (text_bits n b) q.pattern)
unfolding verdict machine rows
verdict_same q n a b s =
    rw s.missing
    (judge_same _ _ _ (λ f.
    run_same n q.pattern.count a b q.pattern.bytes q.pattern.fixed q.pattern.bytes q.pattern.fixed s.same (λ j c l. refl)
    q.method f.1.1.1.1.1.0 q.budget q.mark (length q.list)))

-- The pattern's values at wild bits, and its bits from m on in either run
module _ (w v : Pattern) (s : SamePattern w v) where
  pub verdict_alike : (q : Request) → verdict (with_bits q q.text w) ≡ verdict (with_bits q q.text v)
  unfolding verdict machine rows
  verdict_alike q =
      rw (← s.missing, ← s.fixed_missing, ← s.alike.as_many)
      (judge_same _ _ _ (λ f.
      run_alike_bits q.method q.text w v s.alike f.1.1.1.1.1.0 q.budget q.mark (length q.list)))

  pub hash_verdict_alike : (B : ℕ) → hash_verdict w B ≡ hash_verdict v B
  unfolding hash_verdict
  hash_verdict_alike B =
      rw (← s.missing, ← s.fixed_missing, ← s.alike.as_many) (judge_same _ _ _ (λ f. hash_of_alike_bits w v s.alike B))
