-- What a search call promises of its answer gives the line that is printed of it.
-- Assumes nothing.
use Prim.Native.Nat.{ℕ, ◌≤◌}
use mathlib.Core.Path.{◌≡◌, ◌∙◌}
use mathlib.Core.List.{List}
use lib.ListN.{length, take, drop}
use lib.Seq.{take-append_seam}
use Rattle.bits.specs.Packed.{Packed}
use Rattle.rules.specs.declared.Method.{Method}
use Rattle.rules.specs.Pattern.{Pattern}
use Rattle.rules.specs.Occurrence.{places}
use Rattle.rules.specs.Scratch.{scratch_cells}
use Rattle.search.specs.declared.Answer.{Answer}
use Rattle.search.specs.declared.Refusal.{Refusal}
use Rattle.std.specs.Prelude.{Ok, Err}
use Rattle.search.specs.Verdict.{Outcome, Request, verdict, machine, number_of_refusal, RefusedAs, AcceptedAs, Searched}
use Rattle.lines.specs.Line.{accepted_line, refused_line}
use Rattle.hits.specs.Printed.{line_of, search_line}
use Rattle.hits.proofs.Enough.{lent, verdict_enough}

refused_line_lem : (x : Method) (q : Request) (r : Refusal) (list scratch : List ℕ) → RefusedAs q r list scratch
    → refused_line x (number_of_refusal r) ≡ line_of x (verdict q)
unfolding line_of
refused_line_lem x q r list scratch p = rw p.verdict_is

-- the first cells are the places written
written_first : (q : Request) (a : Answer) (list scratch : List ℕ) → AcceptedAs q a list scratch → take a.occurrences list ≡ (machine q).written
written_first q a list scratch p =
    rw (p.answer.occurrences, p.list_is) (take-append_seam (machine q).written (drop (length (machine q).written) q.list))

accepted_line_lem : (x : Method) (q : Request) (a : Answer) (list scratch : List ℕ) → AcceptedAs q a list scratch
    → accepted_line x a.steps (take a.occurrences list) ≡ line_of x (verdict q)
unfolding line_of
accepted_line_lem x q a list scratch p =
    rw (p.verdict_is, written_first q a list scratch p, p.answer.steps)

-- a call of the program, from a fresh mark, with cells for all, and the cells that it leaves
pub record Call (t : Packed) (w : Pattern) (x : Method) (list scratch : List ℕ) (o : Outcome) (after free : List ℕ) : Type 0 where
  pub mark : ℕ
  pub fresh : mark ≡ 0
  pub cells : places t w ≤ length list
  pub room : scratch_cells x w.count ≤ length scratch
  pub promise : Searched (record { text = t; pattern = w; method = x; mark = mark; budget = 4294967295; list = list; scratch = scratch }) o after free

module _ {t : Packed} {w : Pattern} {x : Method} {list scratch : List ℕ} {o : Outcome} {after free : List ℕ} (call : Call t w x list scratch o after free) where
  as_lent : Searched (lent t w x list scratch) o after free
  as_lent = rw call.fresh at call.promise

  line_is : line_of x (verdict (lent t w x list scratch)) ≡ search_line t w x
  unfolding search_line
  line_is = rw (verdict_enough t w x list scratch call.cells call.room)

  pub refused_printed : {r : Refusal} {number : ℕ} → o ≡ Err r → number ≡ number_of_refusal r → refused_line x number ≡ search_line t w x
  refused_printed {r} is e =
      let q = rw is at as_lent in
      rw e (refused_line_lem x (lent t w x list scratch) r after free q ∙ line_is)

  pub accepted_printed : {a : Answer} → o ≡ Ok a → accepted_line x a.steps (take a.occurrences after) ≡ search_line t w x
  accepted_printed {a} is =
      let q = rw is at as_lent in
      accepted_line_lem x (lent t w x list scratch) a after free q ∙ line_is
