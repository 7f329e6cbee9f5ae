-- Laws of a line's parts, appended one after another.
-- Assumes nothing.
use Rattle.std.proofs.Common.{◌≡◌, ℕ, ◌+◌, ◌<◌, ◌^◌, List, [], ◌∷◌, ◌++◌, length, get_or, take, refl, sym, ap, ◌∙◌, append_assoc, append-nil, add-one}
use Rattle.std.specs.Fmt.{decimal}
use lib.Seq.{take-suc}
use Rattle.rules.specs.declared.Method.{Method}
use Rattle.lines.specs.Line.{name_of, refused_word, decimal_of, numbers, accepted_line, refused_line}
use Rattle.lines.proofs.Decimal.{decimal_is}

numbers-append : (xs ys : List ℕ) → numbers (xs ++ ys) ≡ numbers xs ++ numbers ys
unfolding numbers
numbers-append [] ys = refl
numbers-append (x ∷ xs) ys =
    ap (λ (l : List ℕ). (32 ∷ decimal_of x) ++ l) (numbers-append xs ys)
    ∙ sym (append_assoc (32 ∷ decimal_of x) (numbers xs) (numbers ys))

-- one number more, as the library prints it
pub numbers_more : (list : List ℕ) (i : ℕ) → i < length list → get_or list i 0 < 2 ^ 64 → numbers (take i list) ++ (32 ∷ decimal (get_or list i 0)) ≡ numbers (take (i + 1) list)
unfolding numbers
numbers_more list i h fits =
    rw (add-one i, take-suc list i 0 h, numbers-append, decimal_is (get_or list i 0) fits)
    (ap (λ (l : List ℕ). numbers (take i list) ++ (32 ∷ l)) (sym (append-nil _)))

-- the parts of a line
pub accepted_parts : (page : List ℕ) (x : Method) (steps : ℕ) (places : List ℕ)
    → (((page ++ name_of x) ++ numbers (steps ∷ length places ∷ [])) ++ numbers places) ++ (10 ∷ []) ≡ page ++ accepted_line x steps places
unfolding accepted_line
accepted_parts page x steps places =
    rw (numbers-append (steps ∷ length places ∷ []) places) (simp append_assoc)

pub refused_parts : (page : List ℕ) (x : Method) (number : ℕ)
    → (((page ++ name_of x) ++ refused_word) ++ numbers (number ∷ [])) ++ (10 ∷ []) ≡ page ++ refused_line x number
unfolding refused_line
refused_parts page x number = simp append_assoc
