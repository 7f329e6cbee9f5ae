-- Laws of `rises_from` and `encode_from` at an index of a list, and the byte count.
use Prim.Native.Nat.{ℕ, zero, suc, ◌+◌, ◌-◌, ◌≤◌, ◌<◌}
use mathlib.Core.Path.{◌≡◌, refl, sym, ap, ◌∙◌}
use mathlib.Core.Bool.{Bool, true, false, ◌&&◌, and-true, and-false, false≢true}
use mathlib.Core.List.{List, [], ◌∷◌, ◌++◌}
use native.Mathlib.Omega.{arith}
use native.Mathlib.Numerals.{add-one}
use native.Mathlib.Decide.{dec_le, dec_lt}
use borrow.Author.Tests.{lt-ltb, le-ltb, le-leb, lt-leb}
use lib.Dec.{leb, ltb, leb-zero}
use lib.ListN.{length, get_or, drop, length-append, length-drop, drop_of_length-le}
use lib.Pow.{are_bytes}
use lib.Seq.{drop-cons}
use Rattle.std.proofs.lemmas.List.{get_or_default}
use Rattle.positions.specs.Basics.{limit}
use Rattle.positions.specs.Rising.{rises_from, rising}
use Rattle.positions.specs.Encode.{encode_number, encode_from, encode}
use Rattle.positions.proofs.Groups.{number_bytes}

pub and_both : (a b : Bool) → (a && b) ≡ true → (a ≡ true) × (b ≡ true)
and_both true b h = (refl, h)
and_both false b h = absurd (false≢true h)

-- ---- the first position decides

rises_low : (next p : ℕ) (ps : List ℕ) → p < next → rises_from next (p ∷ ps) ≡ false
unfolding rises_from
rises_low next p ps h = rw (lt-leb next p h)

rises_large : (next p : ℕ) (ps : List ℕ) → limit ≤ p → rises_from next (p ∷ ps) ≡ false
unfolding rises_from
rises_large next p ps h = rw (le-ltb p limit h) (and-false (leb next p))

pub rises_on : (next p : ℕ) (ps : List ℕ) → next ≤ p → p < limit → rises_from next (p ∷ ps) ≡ rises_from (p + 1) ps
unfolding rises_from
rises_on next p ps l h = rw (le-leb next p l, lt-ltb p limit h)

pub rises_taken : (next p : ℕ) (ps : List ℕ) → rises_from next (p ∷ ps) ≡ true → (next ≤ p) × (p < limit) × (rises_from (p + 1) ps ≡ true)
rises_taken next p ps e =
    elim (dec_le next p) [
      | yes l ↦
          elim (dec_lt p limit) [
            | yes h ↦ (l, h, sym (rises_on next p ps l h) ∙ e)
            | no h ↦ absurd (false≢true (sym (rises_large next p ps (omega arith)) ∙ e))
          ]
      | no l ↦ absurd (false≢true (sym (rises_low next p ps (omega arith)) ∙ e))
    ]

-- a list that rises is no longer than the positions below the limit
pub rises_length : (next : ℕ) (l : List ℕ) → next ≤ limit → rises_from next l ≡ true → next + length l ≤ limit
rises_length next [] h e = omega arith
rises_length next (p ∷ ps) h e =
    let t = rises_taken next p ps e in
    omega (arith, t.0, rises_length (p + 1) ps (omega (arith, t.1)) t.2)

-- a lower least position allows the same, and what is left of a list rises as well
pub rises_lower : (low next : ℕ) (l : List ℕ) → low ≤ next → rises_from next l ≡ true → rises_from low l ≡ true
unfolding rises_from
rises_lower low next [] h e = refl
rises_lower low next (p ∷ ps) h e =
    let t = rises_taken next p ps e in
    rises_on low p ps (omega (arith, t.0)) t.1 ∙ t.2

pub rises_rest : (next : ℕ) (l : List ℕ) (i : ℕ) → rises_from next l ≡ true → rises_from next (drop i l) ≡ true
rises_rest next l zero e = e
rises_rest next [] (suc i) e = e
rises_rest next (p ∷ ps) (suc i) e =
    let t = rises_taken next p ps e in
    rises_rest next ps i (rises_lower next (p + 1) ps (omega (arith, t.0)) t.2)

-- ---- at an index of a list

module _ (l : List ℕ) (i : ℕ) (inside : i < length l) where
  pub here : drop i l ≡ get_or l i 0 ∷ drop (i + 1) l
  here = rw (add-one i, drop-cons l i 0 inside)

  pub low_here : (next : ℕ) → get_or l i 0 < next → rises_from next (drop i l) ≡ false
  low_here next h = ap (rises_from next) here ∙ rises_low next (get_or l i 0) (drop (i + 1) l) h

  pub large_here : (next : ℕ) → limit ≤ get_or l i 0 → rises_from next (drop i l) ≡ false
  large_here next h = ap (rises_from next) here ∙ rises_large next (get_or l i 0) (drop (i + 1) l) h

  pub on_here : (next : ℕ) → next ≤ get_or l i 0 → get_or l i 0 < limit → rises_from next (drop i l) ≡ rises_from (get_or l i 0 + 1) (drop (i + 1) l)
  on_here next l' h = ap (rises_from next) here ∙ rises_on next (get_or l i 0) (drop (i + 1) l) l' h

  pub taken_here : (next : ℕ) → rises_from next (drop i l) ≡ true
      → (next ≤ get_or l i 0) × (get_or l i 0 < limit) × (rises_from (get_or l i 0 + 1) (drop (i + 1) l) ≡ true)
  taken_here next e = rises_taken next (get_or l i 0) (drop (i + 1) l) (sym (ap (rises_from next) here) ∙ e)

  pub encode_here : (next : ℕ) → encode_from next (drop i l) ≡ encode_number (get_or l i 0 - next) ++ encode_from (get_or l i 0 + 1) (drop (i + 1) l)
  unfolding encode_from
  encode_here next = ap (encode_from next) here

  pub size_here : (next : ℕ) → length (encode_from next (drop i l)) ≡ length (encode_number (get_or l i 0 - next)) + length (encode_from (get_or l i 0 + 1) (drop (i + 1) l))
  size_here next = ap length (encode_here next) ∙ length-append (encode_number (get_or l i 0 - next)) (encode_from (get_or l i 0 + 1) (drop (i + 1) l))

  -- A position and the list after it: the next one must be above it, and then the next one and the list after that decide.
  pub falls_here : (last : ℕ) → get_or l i 0 ≤ last → (ltb last limit && rises_from (last + 1) (drop i l)) ≡ false
  falls_here last h = rw (low_here (last + 1) (omega arith)) (and-false (ltb last limit))

  pub next_here : (last : ℕ) → last < get_or l i 0
      → (ltb last limit && rises_from (last + 1) (drop i l)) ≡ (ltb (get_or l i 0) limit && rises_from (get_or l i 0 + 1) (drop (i + 1) l))
  next_here last h =
      elim (dec_lt (get_or l i 0) limit) [
        | yes k ↦ rw (lt-ltb last limit (omega arith), lt-ltb (get_or l i 0) limit k) (on_here (last + 1) (omega arith) k)
        | no k ↦
            rw (large_here (last + 1) (omega arith), le-ltb (get_or l i 0) limit (omega arith)) (and-false (ltb last limit))
      ]

  -- both in one: whether the next one is above it goes to what was found before
  pub found_here : (good : Bool) (last : ℕ)
      → ((good && ltb last (get_or l i 0)) && (ltb (get_or l i 0) limit && rises_from (get_or l i 0 + 1) (drop (i + 1) l)))
      ≡ (good && (ltb last limit && rises_from (last + 1) (drop i l)))
  found_here good last =
      elim (dec_lt last (get_or l i 0)) [
        | yes h ↦ rw (lt-ltb last (get_or l i 0) h, and-true good) (ap (λ b. good && b) (sym (next_here last h)))
        | no h ↦ rw (le-ltb last (get_or l i 0) (omega arith), falls_here last (omega arith), and-false good)
      ]

-- after the last position
module _ (l : List ℕ) (i : ℕ) (past : length l ≤ i) where
  pub rises_end : (next : ℕ) → rises_from next (drop i l) ≡ true
  unfolding rises_from
  rises_end next = rw (drop_of_length-le l past)

  pub encode_end : (next : ℕ) → encode_from next (drop i l) ≡ []
  unfolding encode_from
  encode_end next = rw (drop_of_length-le l past)

pub rises_none : (l : List ℕ) → length l ≡ 0 → rising l ≡ true
unfolding rising
rises_none l h = rises_end l 0 (omega arith) 0

-- the first position and the list after it
pub rises_first : (l : List ℕ) → 0 < length l → (ltb (get_or l 0 0) limit && rises_from (get_or l 0 0 + 1) (drop 1 l)) ≡ rising l
unfolding rising rises_from
rises_first [] h = absurd (omega arith)
rises_first (p ∷ ps) h = rw (leb-zero p)

-- a position and the list after it, where a part of the list begins with them
pub record Next (l : List ℕ) (i p : ℕ) (ps : List ℕ) : Type 0 where
  pub inside : i < length l
  pub first_is : p ≡ get_or l i 0
  pub rest_is : ps ≡ drop (i + 1) l

pub next : (l : List ℕ) (i p : ℕ) (ps : List ℕ) → drop i l ≡ p ∷ ps → Next l i p ps
next l i p ps e =
    let inside : i < length l = omega (arith, ap length e, length-drop i l) in
    let h = here l i inside in
    record { inside = inside; first_is = cc; rest_is = cc }

-- the last of a list, which is its first where there are no others
pub last_of : (first : ℕ) (others : List ℕ) → get_or others (length others - 1) first ≡ get_or (first ∷ others) (length others) 0
last_of first [] = refl
last_of first (p ∷ ps) = let last : length (p ∷ ps) - 1 ≡ length ps = omega arith in rw last (get_or_default (p ∷ ps) (length ps) first 0 (omega arith))

-- ---- the byte count

pub size_list : (l : List ℕ) → length (encode l) ≡ length (encode_number (length l)) + length (encode_from 0 l)
unfolding encode
size_list l = length-append (encode_number (length l)) (encode_from 0 l)

-- ---- what is encoded is bytes

bytes_append : (xs ys : List ℕ) → are_bytes xs ≡ true → are_bytes ys ≡ true → are_bytes (xs ++ ys) ≡ true
bytes_append [] ys hx hy = hy
bytes_append (x ∷ xs) ys hx hy =
    let t = and_both (ltb x 256) (are_bytes xs) hx in
    rw t.0 (bytes_append xs ys t.1 hy)

from_bytes : (next : ℕ) (l : List ℕ) → are_bytes (encode_from next l) ≡ true
unfolding encode_from
from_bytes next [] = refl
from_bytes next (p ∷ ps) = bytes_append (encode_number (p - next)) (encode_from (p + 1) ps) (number_bytes (p - next)) (from_bytes (p + 1) ps)

pub list_bytes : (l : List ℕ) → are_bytes (encode l) ≡ true
unfolding encode
list_bytes l = bytes_append (encode_number (length l)) (encode_from 0 l) (number_bytes (length l)) (from_bytes 0 l)
