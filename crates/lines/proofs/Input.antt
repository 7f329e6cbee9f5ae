-- The parser accepts exactly the input that document 01 describes, and a beginning of the input is enough to judge it.
-- Assumes nothing.
use Prim.Native.Nat.{ℕ, zero, suc, ◌≤◌, ◌<◌}
use mathlib.Core.Path.{◌≡◌, refl, sym, ap, ◌∙◌}
use mathlib.Core.Logic.{◌↔◌}
use mathlib.Core.Bool.{Bool, true, false, cond, ◌&&◌}
use mathlib.Core.List.{List, [], ◌∷◌, ◌++◌, map}
use native.Mathlib.Omega.{arith}
use lib.Dec.{eqb, leb}
use lib.ListN.{length, take, length-append, length-map, length-take}
use lib.Seq.{take_all}
use borrow.Author.Tests.{eq-eqb, ne_eqb, eqb-true, eqb-false, le-leb, leb-true, leb-false}
use Rattle.lines.specs.Input.{is_digit, bit_of, char_of, Split, no_line, line, prepend, read_line, Parsed, bad, lines, fits, second_line, first_line, parse, Bits, Good, longest}

-- ---- what the code's tests decide

pub no_first : (s : List ℕ) → read_line s ≡ no_line → parse s ≡ bad
unfolding parse first_line
no_first s e = rw e

pub no_second : (s w rest : List ℕ) → read_line s ≡ line w rest → read_line rest ≡ no_line → parse s ≡ bad
unfolding parse first_line second_line
no_second s w rest e f = rw (e, f)

pub two_lines : (s w rest t after : List ℕ) → read_line s ≡ line w rest → read_line rest ≡ line t after → parse s ≡ second_line w (line t after)
unfolding parse first_line
two_lines s w rest t after e f = rw (e, f)

pub more_after : (w t after : List ℕ) → 0 < length after → second_line w (line t after) ≡ bad
unfolding second_line
more_after w t [] h = absurd (omega arith)
more_after w t (c ∷ rest) h = refl

pub none_after : (w t after : List ℕ) → length after ≡ 0 → second_line w (line t after) ≡ cond (fits (length w) (length t)) (lines w t) bad
unfolding second_line
none_after w t [] h = refl
none_after w t (c ∷ rest) h = absurd (omega arith)

pub fits_good : (m n : ℕ) → 1 ≤ m → m ≤ 2048 → n ≤ 4096 → fits m n ≡ true
fits_good m n a b c = rw (le-leb 1 m a, le-leb m 2048 b, le-leb n 4096 c)

and_both : (a b : Bool) → (a && b) ≡ true → (a ≡ true) × (b ≡ true)
and_both true b e = (refl, e)
and_both false b e = let z : ◌≡◌ {A = ℕ} 0 1 = cc in absurd (omega arith)

pub fits_bounds : (m n : ℕ) → fits m n ≡ true → (1 ≤ m) × ((m ≤ 2048) × (n ≤ 4096))
fits_bounds m n e =
    let a = and_both (leb 1 m) (leb m 2048 && leb n 4096) e in
    let b = and_both (leb m 2048) (leb n 4096) a.1 in
    (leb-true 1 m a.0, (leb-true m 2048 b.0, leb-true n 4096 b.1))

-- ---- a line that is read is its characters and byte 10

data Char (c : ℕ) : Type 0 where
  ends : c ≡ 10 → Char c
  digit : (c ≡ 10 → ⊥) → is_digit c ≡ true → c ≡ char_of (bit_of c) → Char c
  other : (c ≡ 10 → ⊥) → is_digit c ≡ false → Char c

char_is : (c : ℕ) → Char c
char_is c = go (eqb c 10) refl
  where
    is_49 : (b : Bool) → eqb c 49 ≡ b → (c ≡ 10 → ⊥) → eqb c 48 ≡ false → Char c
    is_49 true e n f = let v : c ≡ 49 = eqb-true c 49 e in digit n (rw (f, e)) (omega arith)
    is_49 false e n f = other n (rw (f, e))

    is_48 : (b : Bool) → eqb c 48 ≡ b → (c ≡ 10 → ⊥) → Char c
    is_48 true e n = let v : c ≡ 48 = eqb-true c 48 e in digit n (rw e) (omega arith)
    is_48 false e n = is_49 (eqb c 49) refl n e

    go : (b : Bool) → eqb c 10 ≡ b → Char c
    go true e = ends (eqb-true c 10 e)
    go false e = is_48 (eqb c 48) refl (eqb-false c 10 e)

-- a line is its characters, byte 10 and what follows
pub record Line (s w rest : List ℕ) : Type 0 where
  pub shape : s ≡ map char_of w ++ (10 ∷ rest)
  pub bits : Bits w

prepended : (b : ℕ) (l : Split) (w rest : List ℕ) → prepend b l ≡ line w rest → (v : List ℕ) × ((w ≡ b ∷ v) × (l ≡ line v rest))
unfolding prepend
prepended b no_line w rest e = let z : ◌≡◌ {A = ℕ} 0 1 = cc in absurd (omega arith)
prepended b (line v r) w rest e = (v, (cc, cc))

pub line_shape : (s w rest : List ℕ) → read_line s ≡ line w rest → Line s w rest
unfolding read_line
line_shape [] w rest e = let z : ◌≡◌ {A = ℕ} 0 1 = cc in absurd (omega arith)
line_shape (c ∷ s) w rest e = go (char_is c) (λ v f. line_shape s v rest f)
  where
    go : Char c → ((v : List ℕ) → read_line s ≡ line v rest → Line s v rest) → Line (c ∷ s) w rest
    go (ends v) ih =
        let f : line [] s ≡ line w rest = rw (eq-eqb c 10 v) at e in
        let none : w ≡ [] = cc in
        let same : rest ≡ s = cc in
        rw (none, same, v) (record { shape = refl; bits = tt })
    go (other n d) ih =
        let f : no_line ≡ line w rest = rw (ne_eqb c 10 n, d) at e in
        let z : ◌≡◌ {A = ℕ} 0 1 = cc in absurd (omega arith)
    go (digit n d v) ih =
        let f : prepend (bit_of c) (read_line s) ≡ line w rest = rw (ne_eqb c 10 n, d) at e in
        let p = prepended (bit_of c) (read_line s) w rest f in
        let l = ih p.0 p.1.1 in
        let q : w ≡ bit_of c ∷ p.0 = p.1.0 in
        record {
          shape = rw q (ap (λ (x : ℕ). x ∷ s) v ∙ ap (λ (x : List ℕ). char_of (bit_of c) ∷ x) l.shape);
          bits = rw q (omega arith, l.bits);
        }

digit_bit : (b : ℕ) → b < 2 → is_digit (char_of b) ≡ true
digit_bit zero h = refl
digit_bit (suc zero) h = refl
digit_bit (suc (suc b)) h = absurd (omega arith)

pub shape_line : (w rest : List ℕ) → Bits w → read_line (map char_of w ++ (10 ∷ rest)) ≡ line w rest
unfolding read_line prepend
shape_line [] rest b = refl
shape_line (x ∷ w) rest b =
    let small = b.0 in
    let bit : bit_of (char_of x) ≡ x = omega arith in
    rw (ne_eqb (char_of x) 10 (λ e. omega arith), digit_bit x small, shape_line w rest b.1, bit)

-- ---- the parser accepts exactly the good input

fitting : (w t v u : List ℕ) → cond (fits (length w) (length t)) (lines w t) bad ≡ lines v u → ((w ≡ v) × (t ≡ u)) × (fits (length w) (length t) ≡ true)
fitting w t v u e = go (fits (length w) (length t)) refl e
  where
    go : (b : Bool) → fits (length w) (length t) ≡ b → cond b (lines w t) bad ≡ lines v u → ((w ≡ v) × (t ≡ u)) × (fits (length w) (length t) ≡ true)
    go true f e = ((cc, cc), f)
    go false f e = let z : ◌≡◌ {A = ℕ} 0 1 = cc in absurd (omega arith)

second_good : (s w rest v u : List ℕ) (l : Split) → read_line rest ≡ l → Line s w rest → second_line w l ≡ lines v u → Good s v u
unfolding second_line
second_good s w rest v u no_line f k e = let z : ◌≡◌ {A = ℕ} 0 1 = cc in absurd (omega arith)
second_good s w rest v u (line t (c ∷ after)) f k e = let z : ◌≡◌ {A = ℕ} 0 1 = cc in absurd (omega arith)
second_good s w rest v u (line t []) f k e =
    let g = fitting w t v u e in
    let two = line_shape rest t [] f in
    let b = fits_bounds (length w) (length t) g.1 in
    rw (← g.0.0, ← g.0.1)
    (record {
      shape = k.shape ∙ ap (λ (x : List ℕ). map char_of w ++ (10 ∷ x)) two.shape;
      pattern_bits = k.bits;
      text_bits = two.bits;
      pattern_some = b.0;
      pattern_most = b.1.0;
      text_most = b.1.1;
    })

first_good : (s v u : List ℕ) (l : Split) → read_line s ≡ l → first_line l ≡ lines v u → Good s v u
unfolding first_line
first_good s v u no_line f e = let z : ◌≡◌ {A = ℕ} 0 1 = cc in absurd (omega arith)
first_good s v u (line w rest) f e = second_good s w rest v u (read_line rest) refl (line_shape s w rest f) e

pub parsed_good : (s w t : List ℕ) → parse s ≡ lines w t → Good s w t
unfolding parse
parsed_good s w t e = first_good s w t (read_line s) refl e

pub good_parsed : (s w t : List ℕ) → Good s w t → parse s ≡ lines w t
good_parsed s w t g =
    two_lines s w (map char_of t ++ (10 ∷ [])) t [] (rw g.shape (shape_line w (map char_of t ++ (10 ∷ [])) g.pattern_bits)) (shape_line t [] g.text_bits)
    ∙ none_after w t [] refl
    ∙ rw (fits_good (length w) (length t) g.pattern_some g.pattern_most g.text_most)

pub parse_iff : (s w t : List ℕ) → (parse s ≡ lines w t) ↔ Good s w t
parse_iff s w t = (parsed_good s w t, good_parsed s w t)

-- ---- the first 6,147 bytes decide

pub good_length : (s w t : List ℕ) → Good s w t → length s ≤ longest
good_length s w t g =
    rw g.shape
    (simp (length-append, length-map) (omega (arith, g.pattern_most, g.text_most)))

pub long_bad : (s : List ℕ) → longest < length s → parse s ≡ bad
long_bad s h = go (parse s) refl
  where
    go : (p : Parsed) → parse s ≡ p → p ≡ bad
    go bad e = refl
    go (lines w t) e = absurd (omega (arith, good_length s w t (parsed_good s w t e)))

-- far too long input is judged by its first bytes
pub beginning : (s : List ℕ) (k : ℕ) → longest < k → parse (take k s) ≡ parse s
beginning s k h = go (leb (length s) k) refl
  where
    go : (b : Bool) → leb (length s) k ≡ b → parse (take k s) ≡ parse s
    go true e = rw (take_all k s (leb-true (length s) k e))
    go false e =
        let over : k < length s = leb-false (length s) k e in
        long_bad (take k s) (rw length-take (omega arith)) ∙ sym (long_bad s (omega arith))

-- ---- what the code finds: two lines of characters, and the bytes after them

module _ (s pattern rest text after : List ℕ) (first : read_line s ≡ line (map bit_of pattern) rest) (second : read_line rest ≡ line (map bit_of text) after) where
  pub left_over : 0 < length after → bad ≡ parse s
  left_over h = sym (two_lines s _ rest _ after first second ∙ more_after _ _ after h)

  all_read : length after ≡ 0 → parse s ≡ cond (fits (length pattern) (length text)) (lines (map bit_of pattern) (map bit_of text)) bad
  all_read h =
      two_lines s _ rest _ after first second
      ∙ none_after _ _ after h
      ∙ rw (length-map pattern bit_of, length-map text bit_of)

  pub taken : length after ≡ 0 → fits (length pattern) (length text) ≡ true → lines (map bit_of pattern) (map bit_of text) ≡ parse s
  taken h f = sym (all_read h ∙ rw f)

  pub not_taken : length after ≡ 0 → fits (length pattern) (length text) ≡ false → bad ≡ parse s
  not_taken h f = sym (all_read h ∙ rw f)
