-- From the check of a call to what its steps may rely on, and from what its steps leave to the call's promise.
-- Assumes nothing.
use Rattle.std.specs.Prelude.{Result, Ok, Err}
use mathlib.Core.Path.{◌≡◌, refl, sym, ap, ◌∙◌}
use mathlib.Core.Bool.{Bool, true, false, ◌||◌}
use mathlib.Core.List.{List}
use Prim.Native.Nat.{ℕ, ◌^◌, ◌≤◌, ◌<◌}
use native.Mathlib.Omega.{arith}
use borrow.Author.Tests.{ltb-false, eqb-false}
use lib.Dec.{ltb, eqb}
use lib.ListN.{length}
use Rattle.bits.specs.Packed.{Packed}
use Rattle.rules.specs.declared.Method.{Method}
use Rattle.search.specs.declared.Answer.{Answer}
use Rattle.search.specs.declared.Refusal.{Refusal}
use Rattle.rules.specs.Pattern.{Pattern}
use Rattle.rules.specs.Occurrence.{places}
use Rattle.rules.specs.Step.{unfit}
use Rattle.rules.specs.Machine.{run, stopped}
use Rattle.search.specs.Verdict.{Request, rows, AllFail, refused, machine, verdict, number_of_refusal, Carries}
use Rattle.matcher.specs.declared.steps.Reached.{Reached}
use Rattle.matcher.specs.declared.steps.Full.{Full}
use Rattle.matcher.specs.Tables.{Prepared}
use Rattle.search.specs.Parts.{check_of, check_verdict, Allowed, Ran, RunGives, come_to, Tells, TellsOf, Leaves}
use Rattle.rules.proofs.Occurrence.{occurrences_length}
use Rattle.rules.proofs.Machine.{run_ended, left}
use Rattle.search.proofs.Verdict.{judge_accepted, judge_refused, refused_judge}

pub neither : (a b : Bool) → (a || b) ≡ false → (a ≡ false) × (b ≡ false)
neither true b e = let z : ◌≡◌ {A = ℕ} 0 1 = cc in absurd (omega arith)
neither false b e = (refl, e)

-- a call that no row refuses
pub allowed : (q : Request) → AllFail (rows q) → Allowed q.method q.text q.pattern q.mark q.scratch
unfolding rows
allowed q (a, (b, (c, (d, (d', (e, (f, (g, h)))))))) =
    let m = neither (eqb q.pattern.count 0) (ltb 2048 q.pattern.count) c in
    let some = eqb-false q.pattern.count 0 m.0 in
    record {
      few_bits = ltb-false _ _ a;
      bytes_there = ltb-false _ _ b;
      pattern = record { some_bits = omega (arith, some); few_bits = ltb-false _ _ m.1; bytes_there = ltb-false _ _ d; fixed_there = ltb-false _ _ d'; fit = e };
      inside = ltb-false _ _ f;
      room = ltb-false _ _ g;
    }

-- the places that a call writes are few
pub few_hits : (x : Method) (t : Packed) (w : Pattern) (s budget : ℕ) (before : List ℕ) (at steps hits : ℕ) (cut : Bool) (list : List ℕ)
    → unfit x w.count ≡ false → s ≤ places t w → t.count ≤ 2 ^ 30 → 0 < w.count → Ran x t w s budget before at steps hits cut list → hits ≤ 2 ^ 30
few_hits x t w s budget before at steps hits cut list fit h n m r =
    let l = left x t w fit budget s (length before) h in
    omega (arith, r.hits_are, ap length l.written_are, occurrences_length t w s (run x t w budget s (length before)).mark, l.high)

module _ (x : Method) (t : Packed) (w : Pattern) (s budget : ℕ) (before cells : List ℕ) where
  -- no place to search
  pub leaves_none : (a : Answer) → places t w ≤ s → Carries a (stopped (places t w) s) → Leaves x t w s budget before cells a before cells
  unfolding stopped
  leaves_none a h k =
      let is = run_ended x t w s (length before) budget h in
      record {
        answer = rw is k;
        list_is = rw is refl;
        scratch_length = refl;
        scratch_rest = refl;
      }

  -- the steps are made
  pub leaves_run : (a : Answer) (at steps hits : ℕ) (cut : Bool) (list scratch : List ℕ) → Ran x t w s budget before at steps hits cut list
      → Tells a at steps hits cut (places t w) → Prepared x w cells scratch → Leaves x t w s budget before cells a list scratch
  leaves_run a at steps hits cut list scratch r k p =
      record {
        answer = record { steps = k.steps_are ∙ r.steps_are; occurrences = k.hits_are ∙ r.hits_are; mark = k.mark_is ∙ r.mark_is; ending = k.ending_is ∙ r.ending_is };
        list_is = r.list_is;
        scratch_length = p.size;
        scratch_rest = p.rest;
      }

-- the same of what the loop gave back
pub few_come : (x : Method) (t : Packed) (w : Pattern) (s budget : ℕ) (before : List ℕ) (r : Result Reached Full) (list : List ℕ)
    → unfit x w.count ≡ false → s ≤ places t w → t.count ≤ 2 ^ 30 → 0 < w.count → RunGives x t w s budget before r list → (come_to r).hits ≤ 2 ^ 30
few_come x t w s budget before (Ok r) list fit h n m u = few_hits x t w s budget before _ _ _ _ list fit h n m u
few_come x t w s budget before (Err f) list fit h n m u = few_hits x t w s budget before _ _ _ _ list fit h n m u

pub leaves_of : (x : Method) (t : Packed) (w : Pattern) (s budget : ℕ) (before cells : List ℕ) (a : Answer) (r : Result Reached Full) (list scratch : List ℕ)
    → RunGives x t w s budget before r list → TellsOf a r (places t w) → Prepared x w cells scratch → Leaves x t w s budget before cells a list scratch
leaves_of x t w s budget before cells a (Ok r) list scratch u k p = leaves_run x t w s budget before cells a _ _ _ _ list scratch u k p
leaves_of x t w s budget before cells a (Err f) list scratch u k p = leaves_run x t w s budget before cells a _ _ _ _ list scratch u k p

-- what the check said, of the whole request
module _ (q : Request) (k : Result (Unit {0}) Refusal) (says : check_of k ≡ check_verdict q.text q.pattern q.method q.mark q.scratch) where
  pub passed : k ≡ Ok tt → AllFail (rows q)
  unfolding check_verdict rows
  passed e = (judge_accepted tt (rows q) tt (sym says ∙ ap check_of e)).0

  pub not_passed : (r : Refusal) → k ≡ Err r → verdict q ≡ refused (number_of_refusal r)
  unfolding check_verdict rows verdict
  not_passed r e = refused_judge (machine q) (rows q) (number_of_refusal r) (judge_refused tt (rows q) (number_of_refusal r) (sym says ∙ ap check_of e))
