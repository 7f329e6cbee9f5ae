-- Laws of reading a line: the characters 0 and 1 in front of it, and the byte that comes after them.
-- Assumes nothing.
use Rattle.std.proofs.Common.{◌≡◌, ℕ, ◌<◌, Bool, true, false, List, [], ◌∷◌, map, ◌≤◌, length, get_or, take, drop, refl, sym, ap, ◌∙◌, ne_eqb, eqb-true, drop_of_length-le, length-drop, true≢false, arith}
use Rattle.std.specs.List.{prefix_len}
use Rattle.std.proofs.lemmas.List.Sums.{prefix_len_stops}
use native.Mathlib.Numerals.{one-add}
use lib.Dec.{eqb}
use lib.Seq.{drop-cons}
use Rattle.lines.specs.Input.{is_digit, bit_of, Split, no_line, line, prepend, read_line}

-- several bits in front of a line
abbrev prepend_all : List ℕ → Split → Split
prepend_all [] l = l
prepend_all (b ∷ bs) l = prepend b (prepend_all bs l)

all_line : (bs rest : List ℕ) → prepend_all bs (line [] rest) ≡ line bs rest
unfolding prepend
all_line [] rest = refl
all_line (x ∷ bs) rest = ap (prepend x) (all_line bs rest)

all_none : (bs : List ℕ) → prepend_all bs no_line ≡ no_line
unfolding prepend
all_none [] = refl
all_none (x ∷ bs) = ap (prepend x) (all_none bs)

-- how many characters 0 and 1 stand in front
abbrev pub digits : List ℕ → ℕ
digits s = prefix_len is_digit s

digit_other : (c : ℕ) → is_digit c ≡ true → eqb c 10 ≡ false
digit_other c d = go (eqb c 10) refl
  where
    go : (b : Bool) → eqb c 10 ≡ b → b ≡ false
    go false e = refl
    go true e = let v : c ≡ 10 = eqb-true c 10 e in let no = rw v at d in absurd (true≢false (sym no))

-- the line begins with their bits
passed : (s : List ℕ) → read_line s ≡ prepend_all (map bit_of (take (digits s) s)) (read_line (drop (digits s) s))
unfolding read_line
passed [] = refl
passed (c ∷ s) = go (is_digit c) refl (passed s)
  where
    go : (b : Bool) → is_digit c ≡ b → read_line s ≡ prepend_all (map bit_of (take (digits s) s)) (read_line (drop (digits s) s))
        → read_line (c ∷ s) ≡ prepend_all (map bit_of (take (digits (c ∷ s)) (c ∷ s))) (read_line (drop (digits (c ∷ s)) (c ∷ s)))
    go true d more = rw (d, digit_other c d, one-add) (ap (prepend (bit_of c)) more)
    go false d more = simp d

-- byte 10 ends it
pub ended : (s rest : List ℕ) → drop (digits s) s ≡ 10 ∷ rest → read_line s ≡ line (map bit_of (take (digits s) s)) rest
unfolding read_line
ended s rest e = passed s ∙ rw e (all_line (map bit_of (take (digits s) s)) rest)

-- another byte does not
pub not_ended : (s rest : List ℕ) (c : ℕ) → drop (digits s) s ≡ c ∷ rest → (c ≡ 10 → ⊥) → read_line s ≡ no_line
unfolding read_line
not_ended s rest c e other =
    let inside : digits s < length s = omega (arith, length-drop (digits s) s, ap length e) in
    let same = rw (drop-cons s (digits s) 0) at e in
    let here : get_or s (digits s) 0 ≡ c = cc in
    let stop = rw here at (prefix_len_stops is_digit s 0 inside) in
    passed s ∙ rw (e, ne_eqb c 10 other, stop) (all_none (map bit_of (take (digits s) s)))

-- nor does the end of the bytes
pub all_digits : (s : List ℕ) → length (drop (digits s) s) ≡ 0 → read_line s ≡ no_line
unfolding read_line
all_digits s e =
    let past : length s ≤ digits s = omega (arith, length-drop (digits s) s) in
    passed s ∙ rw (drop_of_length-le s past) (all_none (map bit_of (take (digits s) s)))
