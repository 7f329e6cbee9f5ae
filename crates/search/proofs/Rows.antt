-- The table of refusals read row by row: the tests that a check makes, in their order, and the refusal that each comes to. Then
-- two refusals of the calls for H(B) and for the cells of scratch.
-- Assumes nothing.
use mathlib.Core.Path.{◌≡◌}
use mathlib.Core.Bool.{true, false}
use mathlib.Core.List.{List}
use Prim.Native.Nat.{ℕ, ◌^◌, ◌≤◌, ◌<◌}
use native.Mathlib.Omega.{arith}
use borrow.Author.Tests.{lt-ltb, le-ltb, eq-eqb, ne_eqb}
use lib.ListN.{length}
use Rattle.bits.specs.Packed.{bytes_for}
use Rattle.rules.specs.declared.Method.{Method}
use Rattle.rules.specs.Occurrence.{places}
use Rattle.rules.specs.Step.{unfit}
use Rattle.rules.specs.Scratch.{scratch_cells}
use Rattle.search.specs.Verdict.{Request, Verdict, rows, judge, refused, accepted, hash_verdict, scratch_verdict}
use Rattle.search.specs.Parts.{check_verdict}

module _ (q : Request) where
  abbrev Comes : Verdict (Unit {0}) → Type 0
  Comes v = v ≡ check_verdict q.text q.pattern q.method q.mark q.scratch

  pub row_1 : 2 ^ 30 < q.text.count → Comes (refused 1)
  unfolding check_verdict rows judge
  row_1 h = simp (lt-ltb _ _ h)

  module _ (a : q.text.count ≤ 2 ^ 30) where
    pub row_2 : length q.text.bytes < bytes_for q.text.count → Comes (refused 2)
    unfolding check_verdict rows judge
    row_2 h = simp (le-ltb _ _ a, lt-ltb _ _ h)

    module _ (b : bytes_for q.text.count ≤ length q.text.bytes) where
      pub row_3_none : q.pattern.count ≡ 0 → Comes (refused 3)
      unfolding check_verdict rows judge
      row_3_none h = simp (le-ltb _ _ a, le-ltb _ _ b, eq-eqb _ _ h)

      module _ (c : q.pattern.count ≡ 0 → ⊥) where
        pub row_3_many : 2048 < q.pattern.count → Comes (refused 3)
        unfolding check_verdict rows judge
        row_3_many h = simp (le-ltb _ _ a, le-ltb _ _ b, ne_eqb _ _ c, lt-ltb _ _ h)

        module _ (d : q.pattern.count ≤ 2048) where
          pub row_4 : length q.pattern.bytes < bytes_for q.pattern.count → Comes (refused 4)
          unfolding check_verdict rows judge
          row_4 h = simp (le-ltb _ _ a, le-ltb _ _ b, ne_eqb _ _ c, le-ltb _ _ d, lt-ltb _ _ h)

          module _ (e : bytes_for q.pattern.count ≤ length q.pattern.bytes) where
            pub row_17 : length q.pattern.fixed < bytes_for q.pattern.count → Comes (refused 17)
            unfolding check_verdict rows judge
            row_17 h = simp (le-ltb _ _ a, le-ltb _ _ b, ne_eqb _ _ c, le-ltb _ _ d, le-ltb _ _ e, lt-ltb _ _ h)

            module _ (e' : bytes_for q.pattern.count ≤ length q.pattern.fixed) where
              pub row_5 : unfit q.method q.pattern.count ≡ true → Comes (refused 5)
              unfolding check_verdict rows judge
              row_5 h = simp (le-ltb _ _ a, le-ltb _ _ b, ne_eqb _ _ c, le-ltb _ _ d, le-ltb _ _ e, le-ltb _ _ e', h)

              module _ (f : unfit q.method q.pattern.count ≡ false) where
                pub row_6 : places q.text q.pattern < q.mark → Comes (refused 6)
                unfolding check_verdict rows judge
                row_6 h = simp (le-ltb _ _ a, le-ltb _ _ b, ne_eqb _ _ c, le-ltb _ _ d, le-ltb _ _ e, le-ltb _ _ e', f, lt-ltb _ _ h)

                module _ (g : q.mark ≤ places q.text q.pattern) where
                  pub row_7 : length q.scratch < scratch_cells q.method q.pattern.count → Comes (refused 7)
                  unfolding check_verdict rows judge
                  row_7 h = simp (le-ltb _ _ a, le-ltb _ _ b, ne_eqb _ _ c, le-ltb _ _ d, le-ltb _ _ e, le-ltb _ _ e', f, le-ltb _ _ g, lt-ltb _ _ h)

                  pub no_row : scratch_cells q.method q.pattern.count ≤ length q.scratch → Comes (accepted tt)
                  unfolding check_verdict rows judge
                  no_row h = simp (le-ltb _ _ a, le-ltb _ _ b, ne_eqb _ _ c, le-ltb _ _ d, le-ltb _ _ e, le-ltb _ _ e', f, le-ltb _ _ g, le-ltb _ _ h)

-- a pattern of too few bits for H(B)
pub hash_unfit : (bytes fixed : List ℕ) (m B : ℕ) → (m ≡ 0 → ⊥) → bytes_for m ≤ length bytes → bytes_for m ≤ length fixed → m < 8
    → refused 5 ≡ hash_verdict (record { bytes = bytes; fixed = fixed; count = m }) B
unfolding hash_verdict judge
hash_unfit bytes fixed m B some enough there few =
    simp (ne_eqb m 0 some, le-ltb 2048 m (omega arith), le-ltb _ _ enough, le-ltb _ _ there, lt-ltb m 8 few)

-- a pattern that no method takes
pub cells_long : (x : Method) (m : ℕ) → 2048 < m → refused 3 ≡ scratch_verdict x m
unfolding scratch_verdict judge
cells_long x m h = simp (ne_eqb m 0 (omega arith), lt-ltb 2048 m h)
