-- Refusals: the table is in the order 1 to 7, a number is given just where its row's condition holds after the earlier
-- ones fail, and a call is accepted just where none holds.
use Prim.Native.Nat.{ℕ}
use mathlib.Core.Path.{◌≡◌, refl, sym, ap, ◌∙◌}
use mathlib.Core.Logic.{◌↔◌}
use mathlib.Core.Bool.{Bool, true, false, cond}
use mathlib.Core.List.{List, [], ◌∷◌, ◌++◌, map}
use native.Mathlib.Omega.{arith}
use Rattle.rules.specs.Machine.{Run}
use Rattle.search.specs.Verdict.{Request, Row, rows, Verdict, refused, accepted, judge, AllFail, Given, machine, verdict}

-- "A search checks 1 to 7 in that order", and "17, right after 4"
pub in_order : (q : Request) → map (λ (r : Row). r.number) (rows q) ≡ 1 ∷ 2 ∷ 3 ∷ 4 ∷ 17 ∷ 5 ∷ 6 ∷ 7 ∷ []
unfolding rows
in_order q = refl

pub refused_not_accepted : {A : Type 0} (v : Verdict A) (k : ℕ) (b : A) → v ≡ refused k → v ≡ accepted b → ⊥
refused_not_accepted v k b p q = let z : ◌≡◌ {A = ℕ} 0 1 = cc in omega arith

-- what holds of the number of each row
abbrev pub Each : (ℕ → Type 0) → List Row → Type 0
Each P [] = Unit
Each P (r ∷ rest) = P r.number × Each P rest

pub each_append : (P : ℕ → Type 0) (l m : List Row) → Each P l → Each P m → Each P (l ++ m)
each_append P [] m p q = q
each_append P (r ∷ l) m p q = (p.0, each_append P l m p.1 q)

module _ {A : Type 0} (a : A) where
  pub judge_refused : (table : List Row) (k : ℕ) → judge table a ≡ refused k → Given k table
  unfolding judge
  judge_refused [] k h = absurd (refused_not_accepted (refused k) k a refl (sym h))
  judge_refused (r ∷ rest) k h = go r.holds refl (λ g. judge_refused rest k g) h
    where
      go : (b : Bool) → r.holds ≡ b → (judge rest a ≡ refused k → Given k rest)
          → cond b (refused r.number) (judge rest a) ≡ refused k → Given k (r ∷ rest)
      go true e ih g =
          let same : r.number ≡ k = cc in
          record { earlier = []; row = r; others = rest; here = refl; fail = tt; holds = e; number = same }
      go false e ih g =
          let f = ih g in
          record {
            earlier = r ∷ f.earlier;
            row = f.row;
            others = f.others;
            here = ap (λ (l : List Row). r ∷ l) f.here;
            fail = (e, f.fail);
            holds = f.holds;
            number = f.number;
          }

  -- it holds of a number that is given
  pub given : (P : ℕ → Type 0) (table : List Row) (k : ℕ) → Each P table → judge table a ≡ refused k → P k
  unfolding judge
  given P [] k e h = absurd (refused_not_accepted (refused k) k a refl (sym h))
  given P (r ∷ rest) k e h = go r.holds (given P rest k e.1) h
    where
      go : (c : Bool) → (judge rest a ≡ refused k → P k) → cond c (refused r.number) (judge rest a) ≡ refused k → P k
      go true ih g = let same : r.number ≡ k = cc in rw same at e.0
      go false ih g = ih g

  pub judge_accepted : (table : List Row) (b : A) → judge table a ≡ accepted b → AllFail table × (b ≡ a)
  unfolding judge
  judge_accepted [] b h = (tt, cc)
  judge_accepted (r ∷ rest) b h = go r.holds refl (λ g. judge_accepted rest b g) h
    where
      go : (c : Bool) → r.holds ≡ c → (judge rest a ≡ accepted b → AllFail rest × (b ≡ a))
          → cond c (refused r.number) (judge rest a) ≡ accepted b → AllFail (r ∷ rest) × (b ≡ a)
      go true e ih g = absurd (refused_not_accepted (refused r.number) r.number b refl g)
      go false e ih g = let f = ih g in ((e, f.0), f.1)

  pub past : (earlier : List Row) (rest : List Row) → AllFail earlier → judge (earlier ++ rest) a ≡ judge rest a
  unfolding judge
  past [] rest f = refl
  past (r ∷ l) rest f = rw f.0 (past l rest f.1)

  pub refused_judge : (table : List Row) (k : ℕ) → Given k table → judge table a ≡ refused k
  unfolding judge
  refused_judge table k g =
      ap (λ (l : List Row). judge l a) g.here
      ∙ past g.earlier (g.row ∷ g.others) g.fail
      ∙ rw (g.holds, g.number)

  pub accepted_judge : (table : List Row) → AllFail table → judge table a ≡ accepted a
  unfolding judge
  accepted_judge [] f = refl
  accepted_judge (r ∷ rest) f = rw f.0 (accepted_judge rest f.1)

-- "It is given where the row's condition holds after the earlier ones fail, and nowhere else"
pub refused_iff : (q : Request) (k : ℕ) → (verdict q ≡ refused k) ↔ Given k (rows q)
unfolding verdict
refused_iff q k = (judge_refused (machine q) (rows q) k, refused_judge (machine q) (rows q) k)

pub accepted_fail : (q : Request) (r : Run) → verdict q ≡ accepted r → AllFail (rows q)
unfolding verdict
accepted_fail q r h = (judge_accepted (machine q) (rows q) r h).0

pub accepted_iff : (q : Request) → (verdict q ≡ accepted (machine q)) ↔ AllFail (rows q)
unfolding verdict
accepted_iff q = (accepted_fail q (machine q), accepted_judge (machine q) (rows q))
