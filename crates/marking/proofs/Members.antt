-- Laws of membership: what two lists share, and what is on one of them only.
use Prim.Native.Nat.{ℕ, zero, suc, ◌+◌, ◌≤◌, ◌<◌}
use mathlib.Core.Path.{◌≡◌, refl, sym, ap, ◌∙◌, subst}
use mathlib.Core.Bool.{Bool, true, false, not, false≢true, or-true}
use mathlib.Core.Logic.{◌↔◌, ◌⊎◌, inl, inr}
use mathlib.Core.List.Memᴰ
use mathlib.Core.List.{List, [], ◌∷◌, ◌++◌, Memᴰ}
use native.Mathlib.Omega.{arith}
use native.Mathlib.Decide.{dec_lt}
use borrow.Author.Tests.{eq-eqb, ne_eqb, eqb-true, not-true}
use lib.Dec.{eqb}
use lib.ListN.{length}
use Rattle.positions.specs.Basics.{limit}
use Rattle.positions.specs.Rising.{rises_from, rising}
use Rattle.positions.proofs.Rising.{rises_on, rises_taken, rises_lower}
use Rattle.marking.specs.Marks.{on, keep, filter, both, only}

-- ---- one position

on_same : (p : ℕ) (qs : List ℕ) → on p (p ∷ qs) ≡ true
unfolding on
on_same p qs = rw (eq-eqb p p refl)

on_other : (p q : ℕ) (qs : List ℕ) → (p ≡ q → ⊥) → on p (q ∷ qs) ≡ on p qs
unfolding on
on_other p q qs h = rw (ne_eqb p q h)

-- a position below every position of a rising list is not on it
pub off_low : (p next : ℕ) (l : List ℕ) → rises_from next l ≡ true → p < next → on p l ≡ false
unfolding on
off_low p next [] e h = refl
off_low p next (q ∷ qs) e h =
    let t = rises_taken next q qs e in
    on_other p q qs (λ s. omega (arith, t.0)) ∙ off_low p (q + 1) qs t.2 (omega (arith, t.0))

-- ---- what two lists share

both_here : (p : ℕ) (ps l : List ℕ) → on p l ≡ true → both (p ∷ ps) l ≡ p ∷ both ps l
unfolding both filter
both_here p ps l h = rw h

both_past : (p : ℕ) (ps l : List ℕ) → on p l ≡ false → both (p ∷ ps) l ≡ both ps l
unfolding both filter
both_past p ps l h = rw h

-- a position that is below a rising list is not shared with it
both_low : (b next : ℕ) (ps l : List ℕ) → rises_from next ps ≡ true → b < next → both ps (b ∷ l) ≡ both ps l
unfolding both filter
both_low b next [] l e h = refl
both_low b next (p ∷ ps) l e h =
    let t = rises_taken next p ps e in
    rw (on_other p b l (λ s. omega (arith, t.0)), both_low b (p + 1) ps l t.2 (omega (arith, t.0)))

pub both_none : (ps : List ℕ) → both ps [] ≡ []
unfolding both filter on
both_none [] = refl
both_none (p ∷ ps) = both_none ps

-- The first positions decide: the same one is shared, and the lower one is not.
pub both_same : (a : ℕ) (ps qs : List ℕ) → rises_from (a + 1) ps ≡ true → both (a ∷ ps) (a ∷ qs) ≡ a ∷ both ps qs
both_same a ps qs e = both_here a ps (a ∷ qs) (on_same a qs) ∙ ap (λ (l : List ℕ). a ∷ l) (both_low a (a + 1) ps qs e (omega arith))

pub both_less : (a b : ℕ) (ps qs : List ℕ) → rises_from (b + 1) qs ≡ true → a < b → both (a ∷ ps) (b ∷ qs) ≡ both ps (b ∷ qs)
both_less a b ps qs e h =
    both_past a ps (b ∷ qs) (on_other a b qs (λ s. omega arith) ∙ off_low a (b + 1) qs e (omega arith))

pub both_more : (a b : ℕ) (ps qs : List ℕ) → rises_from (a + 1) ps ≡ true → b < a → both (a ∷ ps) (b ∷ qs) ≡ both (a ∷ ps) qs
unfolding both filter
both_more a b ps qs e h = rw (on_other a b qs (λ s. omega arith), both_low b (a + 1) ps qs e (omega arith))

-- positions that both lists begin with are shared
pub both_common : (next : ℕ) (front ps qs : List ℕ) → rises_from next (front ++ ps) ≡ true → both (front ++ ps) (front ++ qs) ≡ front ++ both ps qs
both_common next [] ps qs e = refl
both_common next (a ∷ front) ps qs e =
    let t = rises_taken next a (front ++ ps) e in
    both_same a (front ++ ps) (front ++ qs) t.2 ∙ ap (λ (l : List ℕ). a ∷ l) (both_common (a + 1) front ps qs t.2)

-- ---- a list is what it shares with another and the others

length_keep : (b : Bool) (p n : ℕ) (xs ys : List ℕ) → length xs + length ys ≡ n → length (keep b p xs) + length (keep (not b) p ys) ≡ suc n
length_keep true p n xs ys h = omega arith
length_keep false p n xs ys h = omega arith

pub both_only : (ps l : List ℕ) → length (both ps l) + length (only ps l) ≡ length ps
unfolding both only filter
both_only [] l = refl
both_only (p ∷ ps) l = length_keep (on p l) p (length ps) (both ps l) (only ps l) (both_only ps l)

-- what two rising lists share does not depend on which comes first
both_swapped : (k next next' : ℕ) (ps qs : List ℕ) → length ps + length qs ≤ k → rises_from next ps ≡ true → rises_from next' qs ≡ true → both ps qs ≡ both qs ps
unfolding both filter
both_swapped k next next' [] qs h e f = sym (both_none qs)
both_swapped k next next' (p ∷ ps) [] h e f = both_none (p ∷ ps)
both_swapped zero next next' (p ∷ ps) (q ∷ qs) h e f = absurd (omega arith)
both_swapped (suc k) next next' (p ∷ ps) (q ∷ qs) h e f =
    let t = rises_taken next p ps e in
    let u = rises_taken next' q qs f in
    elim (dec_lt p q) [
      | yes l ↦ both_less p q ps qs u.2 l ∙ both_swapped k (p + 1) next' ps (q ∷ qs) (omega arith) t.2 f ∙ sym (both_more q p qs ps u.2 l)
      | no l ↦
          elim (dec_lt q p) [
            | yes m ↦ both_more p q ps qs t.2 m ∙ both_swapped k next (q + 1) (p ∷ ps) qs (omega arith) e u.2 ∙ sym (both_less q p qs ps t.2 m)
            | no m ↦
                let s : p ≡ q = omega arith in
                let swapped : both (q ∷ ps) (q ∷ qs) ≡ both (q ∷ qs) (q ∷ ps) =
                both_same q ps qs (rw s at t.2) ∙ ap (λ (l : List ℕ). q ∷ l) (both_swapped k (p + 1) (q + 1) ps qs (omega arith) t.2 u.2) ∙ sym (both_same q qs ps u.2) in
                subst (λ (x : ℕ). both (x ∷ ps) (q ∷ qs) ≡ both (q ∷ qs) (x ∷ ps)) (sym s) swapped
          ]
    ]

pub both_swap : (ps qs : List ℕ) → rising ps ≡ true → rising qs ≡ true → both ps qs ≡ both qs ps
unfolding rising
both_swap ps qs e f = both_swapped (length ps + length qs) 0 0 ps qs (omega arith) e f

-- ---- membership, in the words of the library's lists

on_to_member : (p : ℕ) (l : List ℕ) → on p l ≡ true → Memᴰ p l
unfolding on
on_to_member p [] h = absurd (false≢true h)
on_to_member p (q ∷ qs) h = go (eqb p q) refl (λ e. on_to_member p qs e)
  where
    go : (b : Bool) → eqb p q ≡ b → (on p qs ≡ true → Memᴰ p qs) → Memᴰ p (q ∷ qs)
    go true e below = Memᴰ.head (eqb-true p q e)
    go false e below = Memᴰ.tail (below (rw e at h))

member_to_on : (p : ℕ) (l : List ℕ) → Memᴰ p l → on p l ≡ true
unfolding on
member_to_on p [] m = absurd (Memᴰ.not-nil m)
member_to_on p (q ∷ qs) m =
    elim (Memᴰ.cases_cons m) [
      | inl e ↦ rw (eq-eqb p q e)
      | inr k ↦ rw (member_to_on p qs k) (or-true (eqb p q))
    ]

pub on_member : (p : ℕ) (l : List ℕ) → (on p l ≡ true) ↔ Memᴰ p l
on_member p l = (on_to_member p l, member_to_on p l)

-- a list has nothing that is not on it
keep_none : (b : Bool) (p : ℕ) (ps : List ℕ) → b ≡ true → keep (not b) p ps ≡ ps
keep_none true p ps e = refl
keep_none false p ps e = absurd (false≢true e)

only_none : (ps l : List ℕ) → ((p : ℕ) → Memᴰ p ps → on p l ≡ true) → only ps l ≡ []
unfolding only filter
only_none [] l h = refl
only_none (p ∷ ps) l h = keep_none (on p l) p (only ps l) (h p (Memᴰ.head refl)) ∙ only_none ps l (λ q m. h q (Memᴰ.tail m))

pub only_itself : (l : List ℕ) → only l l ≡ []
only_itself l = only_none l l (λ p m. (on_member p l).1 m)

-- ---- what is shared and what is not, by membership

keep_member : (b : Bool) (p q : ℕ) (ps : List ℕ) → Memᴰ q (keep b p ps) → ((q ≡ p) × (b ≡ true)) ⊎ Memᴰ q ps
keep_member true p q ps m =
    elim (Memᴰ.cases_cons m) [
      | inl e ↦ inl (e, refl)
      | inr k ↦ inr k
    ]
keep_member false p q ps m = inr m

member_keep : (b : Bool) (p q : ℕ) (ps : List ℕ) → Memᴰ q ps → Memᴰ q (keep b p ps)
member_keep true p q ps m = Memᴰ.tail m
member_keep false p q ps m = m

-- the positions that pass a test, by membership, and in the order of the list that they are taken from
module _ (f : ℕ → Bool) where
  filter_member : (q : ℕ) (ps : List ℕ) → Memᴰ q (filter f ps) → Memᴰ q ps × (f q ≡ true)
  unfolding filter
  filter_member q [] m = absurd (Memᴰ.not-nil m)
  filter_member q (p ∷ ps) m =
      elim (keep_member (f p) p q (filter f ps) m) [
        | inl t ↦ (Memᴰ.head t.0, rw t.0 t.1)
        | inr k ↦ let r = filter_member q ps k in (Memᴰ.tail r.0, r.1)
      ]

  member_filter : (q : ℕ) (ps : List ℕ) → Memᴰ q ps → f q ≡ true → Memᴰ q (filter f ps)
  unfolding filter
  member_filter q [] m h = absurd (Memᴰ.not-nil m)
  member_filter q (p ∷ ps) m h =
      elim (Memᴰ.cases_cons m) [
        | inl e ↦ rw (← e, h) (Memᴰ.head refl)
        | inr k ↦ member_keep (f p) p q (filter f ps) (member_filter q ps k h)
      ]

  pub filter_iff : (q : ℕ) (ps : List ℕ) → Memᴰ q (filter f ps) ↔ (Memᴰ q ps × (f q ≡ true))
  filter_iff q ps = (λ m. filter_member q ps m, λ r. member_filter q ps r.0 r.1)

  filter_rises_from : (next : ℕ) (ps : List ℕ) → rises_from next ps ≡ true → rises_from next (filter f ps) ≡ true
  unfolding filter
  filter_rises_from next [] e = e
  filter_rises_from next (p ∷ ps) e =
      let t = rises_taken next p ps e in
      go (f p) t.0 t.1 (filter_rises_from (p + 1) ps t.2)
    where
      go : (b : Bool) → next ≤ p → p < limit → rises_from (p + 1) (filter f ps) ≡ true → rises_from next (keep b p (filter f ps)) ≡ true
      go true h k r = rises_on next p (filter f ps) h k ∙ r
      go false h k r = rises_lower next (p + 1) (filter f ps) (omega arith) r

  pub filter_rises : (ps : List ℕ) → rising ps ≡ true → rising (filter f ps) ≡ true
  unfolding rising
  filter_rises ps e = filter_rises_from 0 ps e

pub both_member : (q : ℕ) (ps l : List ℕ) → Memᴰ q (both ps l) ↔ (Memᴰ q ps × Memᴰ q l)
unfolding both
both_member q ps l =
    let x = filter_iff (λ p. on p l) q ps in
    (λ m. ((x.0 m).0, (on_member q l).0 (x.0 m).1), λ r. x.1 (r.0, (on_member q l).1 r.1))

pub only_member : (q : ℕ) (ps l : List ℕ) → Memᴰ q (only ps l) ↔ (Memᴰ q ps × (Memᴰ q l → ⊥))
unfolding only
only_member q ps l = (
  λ m. let r = x.0 m in (r.0, λ k. false≢true (sym (not-true (on q l) r.1) ∙ (on_member q l).1 k)),
  λ r. x.1 (r.0, rw (off (on q l) refl r.1)),
)
  where
    x : Memᴰ q (filter (λ p. not (on p l)) ps) ↔ (Memᴰ q ps × (not (on q l) ≡ true))
    x = filter_iff (λ p. not (on p l)) q ps

    off : (b : Bool) → on q l ≡ b → (Memᴰ q l → ⊥) → on q l ≡ false
    off true e n = absurd (n ((on_member q l).0 e))
    off false e n = e

-- what a rising list shares with another rises, and so does what it has alone: each position is counted once
pub both_rises : (ps l : List ℕ) → rising ps ≡ true → rising (both ps l) ≡ true
unfolding both
both_rises ps l e = filter_rises (λ p. on p l) ps e

pub only_rises : (ps l : List ℕ) → rising ps ≡ true → rising (only ps l) ≡ true
unfolding only
only_rises ps l e = filter_rises (λ p. not (on p l)) ps e
