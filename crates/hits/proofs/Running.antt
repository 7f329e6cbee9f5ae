-- What a buffer holds after reads into it, and what is written for it.
-- Assumes nothing.
use Rattle.std.proofs.Common.{◌≡◌, ℕ, ◌+◌, ◌-◌, ◌≤◌, List, ◌++◌, length, take, slice_range, sym, ap, ◌∙◌, subst, le_refl, drop_at, length-take-le, true≢false, arith}
use Rattle.std.proofs.lemmas.Slice.{take-put_mid_below}
use Rattle.std.specs.Prelude.{IfSome, None, Some, IfOk, MatchResult, Ok, Err}
use Rattle.std.specs.Result.{is_ok}
use Rattle.std.specs.declared.result.Result.{Result}
use Rattle.std.specs.declared.option.Option.{Option}
use Rattle.std.specs.Io.KnownBytes.{Appends, Consumes}
use Rattle.std.proofs.KnownBytes.{Consumes-trans}
use borrow.Rule.Slice.PartMut.{put_mid, post_of}
use lib.Seq.{take-add, take-append-le}
use Rattle.hits.specs.Printed.{printed}
use Rattle.hits.specs.Report.{input_most}
use Rattle.hits.proofs.Printed.{first_bytes}

take_split : (a b : ℕ) (old new : List ℕ) → a ≤ b → take a new ≡ take a old → take a old ++ slice_range new a b ≡ take b new
take_split a b old new h front =
    let same : a + (b - a) ≡ b = omega arith in
    ap (λ l. l ++ slice_range new a b) (sym front) ∙ sym (take-add a (b - a) new) ∙ ap (λ n. take n new) same

part_put : (a k n : ℕ) (xs ys : List ℕ) → a ≤ length xs → n ≤ length ys → slice_range (put_mid a k xs ys) a (a + n) ≡ take n ys
part_put a k n xs ys within fits =
    let same : (a + n) - a ≡ n = omega arith in
    let after = post_of a k xs in
    ap (take ((a + n) - a)) (drop_at (take a xs) (ys ++ after) a (length-take-le a xs within)) ∙ ap (λ m. take m (ys ++ after)) same ∙ take-append-le n ys after fits

-- a read after those that filled the first `at` bytes
pub after_read : (a b c : Option (List ℕ)) (buf ys : List ℕ) (at k n : ℕ) → at ≤ length buf → n ≤ length ys → Consumes a b (take at buf) → Consumes b c (take n ys)
    → Consumes a c (take (at + n) (put_mid at k buf ys))
after_read a b c buf ys at k n within fits p q =
    let part = part_put at k n buf ys within fits in
    let joined = take_split at (at + n) buf (put_mid at k buf ys) (omega arith) (take-put_mid_below _ _ _ _ _ (le_refl _) within) in
    subst (Consumes a c) (ap (λ l. take at buf ++ l) (sym part) ∙ joined) (Consumes-trans a b c _ _ p q)

-- what holds of the value of a result holds of it with another error
pub with_error : {T E D : Type 0} (r : Result T E) (q : Result T D) (P : T → Type 0) (Q : E → Type 0) → MatchResult r (λ x. q ≡ Ok x) Q → is_ok q ≡ is_ok r → IfOk r P → IfOk q P
with_error (Ok x) q P Q same v h = rw same h
with_error (Err e) (Ok x) P Q same v h = absurd (true≢false v)
with_error (Err e) (Err d) P Q same v h = tt

-- the first bytes of the input decide what is written
pub written : (known : Option (List ℕ)) (buf text : List ℕ) (n : ℕ) (old new : Option (List ℕ)) → length buf ≡ input_most
    → IfSome known (λ s. take n buf ≡ take (length buf) s) → text ≡ printed (take n buf) → Appends old new text → IfSome known (λ s. Appends old new (printed s))
written None buf text n old new l r e a = tt
written (Some s) buf text n old new l r e a = rw (e ∙ ap printed (r ∙ ap (λ k. take k s) l) ∙ first_bytes s) at a
