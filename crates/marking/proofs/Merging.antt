-- Laws of the merge at an index of each list.
use Prim.Native.Nat.{ℕ, ◌+◌, ◌≤◌, ◌<◌}
use mathlib.Core.Path.{◌≡◌, sym, ap, subst, ◌∙◌}
use mathlib.Core.Bool.{true, false, ◌&&◌, false≢true}
use mathlib.Core.List.{List, ◌∷◌, ◌++◌}
use native.Mathlib.Omega.{arith}
use native.Mathlib.Decide.{dec_lt}
use borrow.Author.Tests.{lt-ltb, le-ltb, ltb-true}
use mir.Val.{bool_byte}
use lib.Dec.{ltb}
use lib.ListN.{length, get_or, take, drop, length-append, length-drop, take-append-drop, drop_of_length-le}
use lib.Seq.{length-take-le, drop-drop}
use Rattle.positions.specs.Rising.{rises_from, rising}
use Rattle.positions.proofs.Rising.{and_both, here, taken_here, rises_rest}
use Rattle.marking.specs.Marks.{filter, both}
use Rattle.marking.proofs.Members.{both_same, both_less, both_more, both_common, both_none}

-- what is left of a rising list, after the position at an index
rises_after : (l : List ℕ) (i : ℕ) → i < length l → rising l ≡ true → rises_from (get_or l i 0 + 1) (drop (i + 1) l) ≡ true
unfolding rising
rises_after l i h e = (taken_here l i h 0 (rises_rest 0 l i e)).2

-- ---- one step

-- by how much less than one position it goes on in each list, for the two positions
pub record Stays (x y : ℕ) : Type 0 where
  pub x_most : x ≤ 1
  pub y_most : y ≤ 1
  pub onward : x + y ≤ 1

pub step_stays : (a b : ℕ) → Stays (bool_byte (ltb b a)) (bool_byte (ltb a b))
step_stays a b =
    elim (dec_lt a b) [
      | yes h ↦
          rw (lt-ltb a b h, le-ltb b a (omega arith))
          (record { x_most = omega arith; y_most = omega arith; onward = omega arith })
      | no h ↦
          elim (dec_lt b a) [
            | yes k ↦
                rw (lt-ltb b a k, le-ltb a b (omega arith))
                (record { x_most = omega arith; y_most = omega arith; onward = omega arith })
            | no k ↦
                rw (le-ltb b a (omega arith), le-ltb a b (omega arith))
                (record { x_most = omega arith; y_most = omega arith; onward = omega arith })
          ]
    ]

-- the test of a step: there are steps left, and positions in both lists
pub record Goes (s c x n y m : ℕ) : Type 0 where
  pub some_steps : s < c
  pub in_key : x < n
  pub in_sheet : y < m

pub goes : (s c x n y m : ℕ) → (ltb s c && ltb x n && ltb y m) ≡ true → Goes s c x n y m
goes s c x n y m h =
    let t = and_both (ltb s c && ltb x n) (ltb y m) h in
    let u = and_both (ltb s c) (ltb x n) t.0 in
    record { some_steps = ltb-true s c u.0; in_key = ltb-true x n u.1; in_sheet = ltb-true y m t.1 }

-- so the first step is always made
pub stopped : (s c x n y m : ℕ) → (ltb s c && ltb x n && ltb y m) ≡ false → Goes s c x n y m → ⊥
stopped s c x n y m h g =
    let t : (ltb s c && ltb x n && ltb y m) ≡ true = rw (lt-ltb s c g.some_steps, lt-ltb x n g.in_key, lt-ltb y m g.in_sheet) in
    false≢true (sym h ∙ t)

module _ (key sheet : List ℕ) (i j : ℕ) (k : i < length key) (s : j < length sheet) (e : rising key ≡ true) (f : rising sheet ≡ true) where
  less : get_or key i 0 < get_or sheet j 0 → both (drop (i + 1) key) (drop j sheet) ≡ both (drop i key) (drop j sheet)
  less h =
      rw (here key i k, here sheet j s) (sym (both_less (get_or key i 0) (get_or sheet j 0) (drop (i + 1) key) (drop (j + 1) sheet) (rises_after sheet j s f) h))

  more : get_or sheet j 0 < get_or key i 0 → both (drop i key) (drop (j + 1) sheet) ≡ both (drop i key) (drop j sheet)
  more h =
      rw (here key i k, here sheet j s) (sym (both_more (get_or key i 0) (get_or sheet j 0) (drop (i + 1) key) (drop (j + 1) sheet) (rises_after key i k e) h))

  same : get_or key i 0 ≡ get_or sheet j 0 → get_or key i 0 ∷ both (drop (i + 1) key) (drop (j + 1) sheet) ≡ both (drop i key) (drop j sheet)
  same h =
      let on_sheet = here sheet j s ∙ ap (λ (p : ℕ). p ∷ drop (j + 1) sheet) (sym h) in
      sym ((λ z. both (here key i k z) (on_sheet z)) ∙ both_same (get_or key i 0) (drop (i + 1) key) (drop (j + 1) sheet) (rises_after key i k e))

  -- what the lists share before a step and after it, which goes to x and y: one position more where the step goes on in both
  pub step_counted : (x y : ℕ)
      → x + bool_byte (ltb (get_or sheet j 0) (get_or key i 0)) ≡ i + 1
      → y + bool_byte (ltb (get_or key i 0) (get_or sheet j 0)) ≡ j + 1
      → x + y + length (both (drop x key) (drop y sheet)) ≡ i + j + 1 + length (both (drop i key) (drop j sheet))
  step_counted x y on_key on_sheet =
      let a = get_or key i 0 in
      let b = get_or sheet j 0 in
      elim (dec_lt a b) [
        | yes h ↦
            let stays : bool_byte (ltb b a) ≡ 0 = ap bool_byte (le-ltb b a (omega arith)) in
            let goes : bool_byte (ltb a b) ≡ 1 = ap bool_byte (lt-ltb a b h) in
            let ex : x ≡ i + 1 = omega arith in
            let ey : y ≡ j = omega arith in
            rw (ex, ey) (omega (arith, ap length (less h)))
        | no h ↦
            elim (dec_lt b a) [
              | yes m ↦
                  let goes : bool_byte (ltb b a) ≡ 1 = ap bool_byte (lt-ltb b a m) in
                  let stays : bool_byte (ltb a b) ≡ 0 = ap bool_byte (le-ltb a b (omega arith)) in
                  let ex : x ≡ i = omega arith in
                  let ey : y ≡ j + 1 = omega arith in
                  rw (ex, ey) (omega (arith, ap length (more m)))
              | no m ↦
                  let goes : bool_byte (ltb b a) ≡ 0 = ap bool_byte (le-ltb b a (omega arith)) in
                  let stays : bool_byte (ltb a b) ≡ 0 = ap bool_byte (le-ltb a b (omega arith)) in
                  let ex : x ≡ i + 1 = omega arith in
                  let ey : y ≡ j + 1 = omega arith in
                  rw (ex, ey) (omega (arith, ap length (same (omega arith))))
            ]
      ]

-- ---- positions that are the same in both lists

module _ (key sheet : List ℕ) (i j n : ℕ) (k : i + n ≤ length key) (e : rising key ≡ true) (eq : take n (drop i key) ≡ take n (drop j sheet)) where
  pub same_counted : n + length (both (drop (i + n) key) (drop (j + n) sheet)) ≡ length (both (drop i key) (drop j sheet))
  unfolding rising
  same_counted =
      let front = take n (drop i key) in
      let in_key : drop i key ≡ front ++ drop (i + n) key = sym (take-append-drop n (drop i key)) ∙ ap (λ (l : List ℕ). front ++ l) (drop-drop n i key) in
      let on_sheet : drop j sheet ≡ front ++ drop (j + n) sheet = sym (take-append-drop n (drop j sheet)) ∙ (λ z. sym eq z ++ drop-drop n j sheet z) in
      let long : length front ≡ n = length-take-le n (drop i key) (simp length-drop (omega arith)) in
      let rest = both (drop (i + n) key) (drop (j + n) sheet) in
      let split = (λ z. both (in_key z) (on_sheet z)) ∙ both_common 0 front (drop (i + n) key) (drop (j + n) sheet) (subst (λ (l : List ℕ). rises_from 0 l ≡ true) in_key (rises_rest 0 key i e)) in
      omega (arith, ap length split, length-append front rest)

-- ---- nothing is shared past the end of either

pub past_key : (key sheet : List ℕ) (i j : ℕ) → length key ≤ i → length (both (drop i key) (drop j sheet)) ≡ 0
unfolding both filter
past_key key sheet i j h = rw (drop_of_length-le key h)

pub past_sheet : (key sheet : List ℕ) (i j : ℕ) → length sheet ≤ j → length (both (drop i key) (drop j sheet)) ≡ 0
past_sheet key sheet i j h = rw (drop_of_length-le sheet h, both_none (drop i key))
