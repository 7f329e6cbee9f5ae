-- "Bits from n on never matter", of a text; and of a pattern only which bits agree with its m: for texts of n bits that agree
-- below n and patterns of m bits with which the same bits agree the machine's run is the same, by every method.
use Prim.Native.Nat.{ℕ, zero, suc, ◌+◌, ◌-◌, ◌≤◌, ◌<◌}
use mathlib.Core.Path.{◌≡◌, refl, sym, ap, ◌∙◌}
use mathlib.Core.Bool.{Bool, true, false, cond}
use mathlib.Core.List.{List}
use native.Mathlib.Decide.{dec_le, dec_lt}
use native.Mathlib.Omega.{arith}
use lib.Dec.{leb}
use lib.ListN.{length}
use borrow.Author.Tests.{ltb-false, leb-false}
use Rattle.bits.specs.Packed.{Packed, bit_at, AgreeBelow}
use Rattle.bits.proofs.Padding.{bits_below}
use Rattle.rules.specs.declared.Method.{Method}
use Rattle.rules.specs.declared.Method.TheVariants.{Plain, Hash, Skip, Wide, Tail}
use Rattle.rules.specs.Pattern.{Pattern, agrees}
use Rattle.rules.specs.Occurrence.{places, Occurs, occurs, occurrences}
use Rattle.rules.specs.Hash.{meets, hash_of, hash_again, last_eight, hash_next}
use Rattle.rules.specs.Wide.{window, last_index, beyond, wide_next}
use Rattle.rules.specs.Tail.{prefix_ends, tail_length, tail_next}
use Rattle.rules.specs.Step.{unfit, finds, ahead, next}
use Rattle.rules.specs.Machine.{after, run}
use Rattle.rules.proofs.Ranges.{same_test, every_same, among_same, least_same, greatest_same}
use Rattle.rules.proofs.Occurrence.{occurs_iff}
use Rattle.rules.proofs.Hash.{meets_at, to_meets}
use Rattle.rules.proofs.Methods.{sound}
use Rattle.rules.proofs.Machine.{run_spent, run_ended, run_step, run_cut}

-- so many bits of these bytes, as a text and as a pattern
abbrev pub text_bits : ℕ → List ℕ → Packed
text_bits n bytes = record { bytes = bytes; count = n }

abbrev pub pattern_bits : ℕ → List ℕ → List ℕ → Pattern
pattern_bits m bytes fixed = record { bytes = bytes; fixed = fixed; count = m }

-- every bit agrees with both patterns or with neither
abbrev SameTest : ℕ → List ℕ → List ℕ → List ℕ → List ℕ → Type 0
SameTest m c f d g = (j b : ℕ) → j < m → agrees (pattern_bits m c f) j b ≡ agrees (pattern_bits m d g) j b

-- The pattern alone

meets_one_way : (m : ℕ) (c f d g : List ℕ) → SameTest m c f d g → (B e : ℕ) → meets (pattern_bits m c f) B e ≡ true → meets (pattern_bits m d g) B e ≡ true
meets_one_way m c f d g same B e h =
    to_meets (pattern_bits m d g) B e (λ j l i.
    sym (same (m + j - (8 + e)) _ (omega arith)) ∙ meets_at (pattern_bits m c f) B e h j l i)

module _ (m : ℕ) (c f d g : List ℕ) (same : SameTest m c f d g) where
  meets_same : (B e : ℕ) → meets (pattern_bits m c f) B e ≡ meets (pattern_bits m d g) B e
  meets_same B e = same_test _ _ (meets_one_way m c f d g same B e) (meets_one_way m d g c f (λ p b l. sym (same p b l)) B e)

  pub hash_of_same : (B : ℕ) → hash_of (pattern_bits m c f) B ≡ hash_of (pattern_bits m d g) B
  unfolding hash_of
  hash_of_same B = least_same _ _ 0 (1 + m) (λ e l u. meets_same B e)

  hash_again_same : (B : ℕ) → hash_again (pattern_bits m c f) B ≡ hash_again (pattern_bits m d g) B
  unfolding hash_again
  hash_again_same B = least_same _ _ 1 m (λ e l u. meets_same B e)

  last_index_same : (b : ℕ) → last_index (pattern_bits m c f) b ≡ last_index (pattern_bits m d g) b
  unfolding last_index
  last_index_same b = greatest_same _ _ m (λ k l. same k b l)

-- Text and pattern

occurs_one_way : (n m : ℕ) (a b c f d g : List ℕ) → AgreeBelow n a b → SameTest m c f d g → (s : ℕ)
    → Occurs (text_bits n a) (pattern_bits m c f) s → Occurs (text_bits n b) (pattern_bits m d g) s
occurs_one_way n m a b c f d g texts patterns s o =
    let top = o.inside in
    record {
      inside = top;
      same = λ j l.
          sym (patterns j _ l) ∙ rw (← (texts (s + j) (omega arith))) (o.same j l);
    }

module _ (n m : ℕ) (a b c f d g : List ℕ) (texts : AgreeBelow n a b) (patterns : SameTest m c f d g) where
  occurs_same : (s : ℕ) → occurs (text_bits n a) (pattern_bits m c f) s ≡ occurs (text_bits n b) (pattern_bits m d g) s
  occurs_same s =
      same_test _ _
      (λ h. (occurs_iff _ _ s).1 (occurs_one_way n m a b c f d g texts patterns s ((occurs_iff _ _ s).0 h)))
      (λ h.
      (occurs_iff _ _ s).1
      (occurs_one_way n m b a d g c f (λ p l. sym (texts p l)) (λ p b l. sym (patterns p b l)) s ((occurs_iff _ _ s).0 h)))

  occurrences_same : (p q : ℕ) → occurrences (text_bits n a) (pattern_bits m c f) p q ≡ occurrences (text_bits n b) (pattern_bits m d g) p q
  unfolding occurrences
  occurrences_same p q = among_same _ _ p (q - p) (λ s l u. occurs_same s)

  hash_same : (s : ℕ) → 8 ≤ m → s < places (text_bits n a) (pattern_bits m c f) → hash_next (text_bits n a) (pattern_bits m c f) s ≡ hash_next (text_bits n b) (pattern_bits m d g) s
  unfolding hash_next last_eight
  hash_same s long inside =
      rw (bits_below a b n (s + m - 8) 8 texts (omega arith), hash_of_same m c f d g patterns _, hash_again_same m c f d g patterns _)

  wide_same : (s : ℕ) → wide_next (text_bits n a) (pattern_bits m c f) s ≡ wide_next (text_bits n b) (pattern_bits m d g) s
  unfolding wide_next
  wide_same s = go (leb n end) refl
    where
      end : ℕ
      end = s + window (pattern_bits m c f)

      go : (e : Bool) → leb n end ≡ e
          → cond e (places (text_bits n a) (pattern_bits m c f)) (beyond end (last_index (pattern_bits m c f) (bit_at a end)))
          ≡ cond e (places (text_bits n b) (pattern_bits m d g)) (beyond end (last_index (pattern_bits m d g) (bit_at b end)))
      go true e = refl
      go false e = rw (texts end (leb-false _ _ e), last_index_same m c f d g patterns _)

  tail_same : (s : ℕ) → s < places (text_bits n a) (pattern_bits m c f) → tail_next (text_bits n a) (pattern_bits m c f) s ≡ tail_next (text_bits n b) (pattern_bits m d g) s
  unfolding tail_next tail_length prefix_ends
  tail_same s inside =
      ap (beyond (s + m))
      (greatest_same _ _ m (λ r l.
      every_same r _ _ (λ j h.
      rw (texts (s + m - r + j) (omega arith)) (patterns j _ (omega arith)))))

  ahead_same : (x : Method) → unfit x m ≡ false → (s : ℕ) → s < places (text_bits n a) (pattern_bits m c f)
      → ahead x (text_bits n a) (pattern_bits m c f) s ≡ ahead x (text_bits n b) (pattern_bits m d g) s
  unfolding ahead
  ahead_same Plain fit s inside = refl
  ahead_same Hash fit s inside = hash_same s (ltb-false _ _ fit) inside
  ahead_same Skip fit s inside = refl
  ahead_same Wide fit s inside = wide_same s
  ahead_same Tail fit s inside = tail_same s inside

  module _ (x : Method) (fit : unfit x m ≡ false) where
    next_same : (s : ℕ) → s < places (text_bits n a) (pattern_bits m c f) → next x (text_bits n a) (pattern_bits m c f) s ≡ next x (text_bits n b) (pattern_bits m d g) s
    unfolding next
    next_same s inside = rw (ahead_same x fit s inside)

    finds_same : (s : ℕ) → s < places (text_bits n a) (pattern_bits m c f) → finds x (text_bits n a) (pattern_bits m c f) s ≡ finds x (text_bits n b) (pattern_bits m d g) s
    finds_same s inside =
        (sound x (text_bits n a) (pattern_bits m c f) s fit inside).all
        ∙ occurrences_same s (next x (text_bits n a) (pattern_bits m c f) s)
        ∙ ap (occurrences (text_bits n b) (pattern_bits m d g) s) (next_same s inside)
        ∙ sym (sound x (text_bits n b) (pattern_bits m d g) s fit inside).all

    pub run_same : (budget s cells : ℕ)
        → run x (text_bits n a) (pattern_bits m c f) budget s cells ≡ run x (text_bits n b) (pattern_bits m d g) budget s cells
    run_same zero s cells =
        run_spent x (text_bits n a) (pattern_bits m c f) s cells ∙ sym (run_spent x (text_bits n b) (pattern_bits m d g) s cells)
    run_same (suc k) s cells = go (λ s cells. run_same k s cells) (dec_lt s (places (text_bits n a) (pattern_bits m c f)))
      where
        t : Packed
        t = text_bits n a

        u : Packed
        u = text_bits n b

        w : Pattern
        w = pattern_bits m c f

        v : Pattern
        v = pattern_bits m d g

        step : ((s cells : ℕ) → run x t w k s cells ≡ run x u v k s cells) → s < places t w → Dec (length (finds x t w s) ≤ cells)
            → run x t w (suc k) s cells ≡ run x u v (suc k) s cells
        step ih inside (yes l) =
            run_step x t w s cells k inside l
            ∙ ap (after 1 (finds x t w s)) (ih (next x t w s) (cells - length (finds x t w s)))
            ∙ rw (finds_same s inside, next_same s inside)
            (sym (run_step x u v s cells k inside (rw (finds_same s inside) at l)))
        step ih inside (no o) =
            let l : cells < length (finds x t w s) = omega arith in
            run_cut x t w s cells k inside l
            ∙ rw (finds_same s inside) (sym (run_cut x u v s cells k inside (rw (finds_same s inside) at l)))

        go : ((s cells : ℕ) → run x t w k s cells ≡ run x u v k s cells) → Dec (s < places t w)
            → run x t w (suc k) s cells ≡ run x u v (suc k) s cells
        go ih (yes inside) = step ih inside (dec_le _ _)
        go ih (no o) =
            run_ended x t w s cells (suc k) (omega arith) ∙ sym (run_ended x u v s cells (suc k) (omega arith))
