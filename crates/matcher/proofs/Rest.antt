-- Steps on what is left of a list are steps on the list: the cells before it stay, and what is written there is written to the
-- list.
-- Assumes nothing.
use Rattle.std.proofs.Common.{◌≡◌, sym, ap, ◌∙◌, ℕ, ◌+◌, ◌-◌, ◌≤◌, Bool, List, [], ◌++◌, length, take, drop, arith}
use Rattle.std.proofs.lemmas.List.{length-drop, length-take, drop-drop, drop_all, take_all, append-nil, append_assoc}
use Rattle.std.proofs.lemmas.List.Edits.{sets, sets-eq}
use borrow.Rule.Slice.PartMut.{mid_of, put_mid}
use Rattle.bits.specs.Packed.{Packed}
use Rattle.rules.specs.declared.Method.{Method}
use Rattle.rules.specs.Pattern.{Pattern}
use Rattle.rules.specs.Step.{finds}
use Rattle.matcher.specs.Progress.{Writing, Stepped, Advanced}

module _ (list : List ℕ) (h : ℕ) (l : h ≤ length list) where
  -- the rest of the list, as a call is lent it
  abbrev pub rest_of : List ℕ
  rest_of = mid_of h (length list - h) list

  -- the list, when the rest of it is this
  abbrev pub with_rest : List ℕ → List ℕ
  with_rest = put_mid h (length list - h) list

  rest_is : rest_of ≡ drop h list
  rest_is =
      let size : length (drop h list) ≤ length list - h = omega (arith, length-drop h list) in
      take_all (length list - h) (drop h list) size

  rest_size : length rest_of - 0 ≡ length list - h
  rest_size = omega (arith, ap length rest_is, length-drop h list)

  -- what is written to the rest is written to the list
  sets_rest : (found : List ℕ) → length found ≤ length list - h → with_rest (sets rest_of 0 found) ≡ sets list h found
  sets_rest found k =
      let room : length (drop h list) ≡ length list - h = length-drop h list in
      let none : drop (length list - h) (drop h list) ≡ [] = drop_all (length list - h) (drop h list) (omega (arith, room)) in
      let after : drop (0 + length found) (drop h list) ≡ drop (h + length found) list = drop-drop (0 + length found) h list ∙ ap (λ (n : ℕ). drop n list) (omega arith) in
      let written : sets rest_of 0 found ≡ found ++ drop (h + length found) list = ap (λ (r : List ℕ). sets r 0 found) rest_is ∙ sets-eq found (drop h list) 0 (omega (arith, room)) ∙ ap (λ (r : List ℕ). found ++ r) after in
      ap (λ (r : List ℕ). take h list ++ (r ++ drop (length list - h) (drop h list))) written
      ∙ ap (λ (r : List ℕ). take h list ++ (found ++ drop (h + length found) list ++ r)) none
      ∙ ap (λ (r : List ℕ). take h list ++ r) (append-nil _)
      ∙ sym (append_assoc (take h list) found (drop (h + length found) list))
      ∙ sym (sets-eq found list h (omega arith))

  pub writing_rest : (found new : List ℕ) (hits : ℕ) → Writing rest_of 0 found new hits → Writing list h found (with_rest new) (h + hits)
  writing_rest found new hits u =
      let fits : length found ≤ length list - h = omega (arith, u.count, u.fits, rest_size) in
      record { cells = ap with_rest u.cells ∙ sets_rest found fits; count = omega (arith, u.count); fits = omega (arith, u.count) }

  module _ (x : Method) (t : Packed) (w : Pattern) (s at hits : ℕ) (full : Bool) (new : List ℕ) where
    -- one step
    pub stepped_rest : Stepped x t w s rest_of 0 at hits full new → Stepped x t w s list h at (h + hits) full (with_rest new)
    stepped_rest u =
        let all = finds x t w s in
        let size : length (take (length list - h) all) ≤ length list - h = omega (arith, length-take (length list - h) all) in
        record {
          is_full = rw rest_size at u.is_full;
          mark = rw rest_size at u.mark;
          count = omega (arith, rw rest_size at u.count);
          cells = ap with_rest (rw rest_size at u.cells) ∙ sets_rest (take (length list - h) all) size;
        }

    -- and many
    pub advanced_rest : (budget steps : ℕ) → Advanced x t w s budget rest_of 0 at steps hits full new
        → Advanced x t w s budget list h at steps (h + hits) full (with_rest new)
    advanced_rest budget steps u =
        record {
          found = u.found;
          writing = writing_rest u.found new hits u.writing;
          within = u.within;
          inside = u.inside;
          goes = u.goes;
          stops = λ e. rw rest_size at (u.stops e);
        }
