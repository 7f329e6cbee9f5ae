-- Cells for all: with a cell for each place and a scratch that a search takes, more cells change nothing. And laws of the
-- arrays that are lent.
-- Assumes nothing.
use Prim.Native.Nat.{ℕ, zero, suc, ◌+◌, ◌-◌, ◌≤◌, ◌<◌}
use mathlib.Core.Path.{◌≡◌, refl, sym, ap, ◌∙◌}
use mathlib.Core.Bool.{false}
use mathlib.Core.List.{List}
use native.Mathlib.Decide.{dec_lt}
use native.Mathlib.Omega.{arith}
use lib.ListN.{length, replicate, length-replicate}
use borrow.Author.Tests.{le-ltb}
use Rattle.bits.specs.Packed.{Packed}
use Rattle.rules.specs.declared.Method.{Method}
use Rattle.rules.specs.Pattern.{Pattern}
use Rattle.rules.specs.Occurrence.{places}
use Rattle.rules.specs.Step.{unfit, finds, next}
use Rattle.rules.specs.Scratch.{scratch_cells}
use Rattle.rules.specs.Machine.{Run, after, run}
use Rattle.rules.proofs.Occurrence.{occurrences_length}
use Rattle.rules.proofs.Step.{next_le}
use Rattle.rules.proofs.Methods.{sound}
use Rattle.rules.proofs.Machine.{run_spent, run_ended, run_step}
use Rattle.search.specs.Verdict.{Request, Verdict, refused, accepted, rows, AllFail, Given, machine, verdict}
use Rattle.search.proofs.Verdict.{refused_iff, accepted_fail, accepted_iff}
use Rattle.hits.specs.Printed.{asked}

-- ---- arrays: their lengths by a law, since computing them counts each cell

pub holds : (k n : ℕ) → k ≤ n → k ≤ length (replicate {A = ℕ} n 0)
holds k n h = rw (length-replicate {A = ℕ} n 0) h

-- ---- cells

module _ (x : Method) (t : Packed) (w : Pattern) (fit : unfit x w.count ≡ false) where
  -- a step finds no more than the places that it decides
  few : (s : ℕ) → s < places t w → (s < next x t w s) × (length (finds x t w s) ≤ next x t w s - s)
  few s inside =
      let r = sound x t w s fit inside in
      (r.up, rw r.all (occurrences_length t w s (next x t w s)))

  enough : (b s c d : ℕ) → places t w ≤ s + c → places t w ≤ s + d → run x t w b s c ≡ run x t w b s d
  enough zero s c d h k = run_spent x t w s c ∙ sym (run_spent x t w s d)
  enough (suc b) s c d h k = go (λ u v. enough b (next x t w s) u v) (dec_lt s (places t w))
    where
      go : ((u v : ℕ) → places t w ≤ next x t w s + u → places t w ≤ next x t w s + v → run x t w b (next x t w s) u ≡ run x t w b (next x t w s) v)
          → Dec (s < places t w) → run x t w (suc b) s c ≡ run x t w (suc b) s d
      go ih (yes inside) =
          let f = few s inside in
          let top = next_le x t w s in
          run_step x t w s c b inside (omega (arith, f, top))
          ∙ ap (after 1 (finds x t w s)) (ih (c - length (finds x t w s)) (d - length (finds x t w s)) (omega (arith, f, top)) (omega (arith, f, top)))
          ∙ sym (run_step x t w s d b inside (omega (arith, f, top)))
      go ih (no n) = run_ended x t w s c (suc b) (omega arith) ∙ sym (run_ended x t w s d (suc b) (omega arith))

-- the request of the program, with the cells that it lends
abbrev pub lent : Packed → Pattern → Method → List ℕ → List ℕ → Request
lent t w x list scratch =
    record {
      text = t;
      pattern = w;
      method = x;
      mark = 0;
      budget = 4294967295;
      list = list;
      scratch = scratch;
    }

module _ (t : Packed) (w : Pattern) (x : Method) (list other scratch free : List ℕ)
    (cells : places t w ≤ length list) (others : places t w ≤ length other) (room : scratch_cells x w.count ≤ length scratch) (frees : scratch_cells x w.count ≤ length free) where
  same_rows : rows (lent t w x list scratch) ≡ rows (lent t w x other free)
  unfolding rows
  same_rows = rw (le-ltb _ _ room, le-ltb _ _ frees)

  same_fail : AllFail (rows (lent t w x list scratch)) → AllFail (rows (lent t w x other free))
  same_fail f = rw same_rows at f

  same_given : (k : ℕ) → Given k (rows (lent t w x list scratch)) → Given k (rows (lent t w x other free))
  same_given k g = rw same_rows at g

  same : verdict (lent t w x list scratch) ≡ verdict (lent t w x other free)
  unfolding rows machine
  same = go (verdict (lent t w x list scratch)) refl
    where
      go : (v : Verdict Run) → verdict (lent t w x list scratch) ≡ v → v ≡ verdict (lent t w x other free)
      go (refused k) e = sym ((refused_iff (lent t w x other free) k).1 (same_given k ((refused_iff (lent t w x list scratch) k).0 e)))
      go (accepted r) e =
          let f = accepted_fail (lent t w x list scratch) r e in
          sym e
          ∙ (accepted_iff (lent t w x list scratch)).1 f
          ∙ ap accepted (enough x t w f.1.1.1.1.1.0 4294967295 0 (length list) (length other) (omega arith) (omega arith))
          ∙ sym ((accepted_iff (lent t w x other free)).1 (same_fail f))

pub verdict_enough : (t : Packed) (w : Pattern) (x : Method) (list scratch : List ℕ) → places t w ≤ length list → scratch_cells x w.count ≤ length scratch
    → verdict (lent t w x list scratch) ≡ verdict (asked t w x)
unfolding asked
verdict_enough t w x list scratch cells room =
    same t w x list (replicate (places t w) 0) scratch (replicate (scratch_cells x w.count) 0) cells (rw (length-replicate {A = ℕ} (places t w) 0) (omega arith)) room
    (rw (length-replicate {A = ℕ} (scratch_cells x w.count) 0) (omega arith))
