-- The search for a set of patterns from C: what the library promises gives what the call promises; and every list of such calls
-- is a list of calls of the library, so the theorem about these (`whole` of the set crate) holds of what C sees.
-- Assumes nothing.
use Prim.Native.Nat.{ℕ, ◌≤◌, ◌<◌}
use mathlib.Core.Path.{◌≡◌, refl, sym, ◌∙◌, ap}
use mathlib.Core.Bool.{Bool, true, false}
use mathlib.Core.Logic.{◌⊎◌, inl, inr}
use mathlib.Core.List.{List, [], ◌∷◌, map}
use lib.Dec.{ltb, eqb}
use lib.ListN.{length, drop}
use borrow.Author.Tests.{ltb-false}
use Rattle.bits.specs.Packed.{Packed}
use Rattle.rules.specs.Machine.{Ending, done, spent, full}
use Rattle.search.specs.Verdict.{Verdict, refused, accepted, judge, ending_of}
use Rattle.search.proofs.Verdict.{judge_accepted}
use Rattle.set.specs.declared.Answer.{Answer}
use Rattle.set.specs.declared.Refusal.{Refusal}
use Rattle.set_rules.specs.PatternSet.{PatternSet}
use Rattle.set_rules.specs.SetMachine.{SetRun}
use Rattle.set_rules.specs.Verdict.{Request, rows, machine, verdict, list_after}
use Rattle.set.specs.Promise.{number_of_refusal, AcceptedAs, RefusedAs, Searched}
use Rattle.set.specs.Calls as library
use Rattle.set.proofs.Answers.{numbers_are}
use Rattle.set.proofs.Calls as theorem
use Rattle.capi.specs.Told.{answer_cells_missing, gives, Tells}
use Rattle.capi.specs.Scan.{stop_number}
use Rattle.capi.specs.CallList.{Seen}
use Rattle.capi.specs.PatternSet.{SetCall, set_request, set_verdict, SetSearched, set_call_of, SetMade, set_mark_after, AllSetMade, set_seen_of, set_seen, set_mark_by, set_seen_by, set_machine_seen, stop_seen, refusal_seen, outcome_seen, call_seen, calls_seen, set_last_mark, SetWhole}
use Rattle.capi.proofs.Telling.{few_cells, enough_cells, refusing}

-- ---- one call

module _ (q : SetCall) where
  pub set_short : length q.answer < 4 → SetSearched q answer_cells_missing q.list q.answer
  unfolding set_verdict
  set_short h = record { tells = rw (few_cells 4 q.answer) (refusing _ _); list_is = rw (few_cells 4 q.answer) }

  module _ (h : 4 ≤ length q.answer) where
    -- the verdict is the library's own
    pub set_by : set_verdict q ≡ verdict (set_request q)
    unfolding set_verdict
    set_by = rw (enough_cells 4 q.answer)

    pub set_refused : (y : Refusal) (r : ℕ) (list : List ℕ) → RefusedAs (set_request q) y list → r ≡ number_of_refusal y → SetSearched q r list q.answer
    set_refused y r list s e =
        let v = set_by ∙ s.verdict_is in
        record { tells = rw v (record { result_is = e; answer_is = refl }); list_is = rw v s.list_is }

    pub set_accepted : (a : Answer) (r : ℕ) (list answer : List ℕ) → AcceptedAs (set_request q) a list
        → Tells (gives (a.steps ∷ a.occurrences ∷ a.mark.at.0 ∷ stop_number (ending_of a.stop) ∷ [])) q.answer r answer
        → SetSearched q r list answer
    set_accepted a r list answer s t =
        let v = set_by ∙ s.verdict_is in
        record {
          tells = rw v (rw (s.answer.steps, s.answer.occurrences, s.answer.mark, s.answer.ending) at t);
          list_is = rw v s.list_is;
        }

-- ---- every list of calls

-- what a refusal's number tells: it is neither 0 nor 101, and C reads the refusal off it
record Numbered (k : ℕ) : Type 0 where
  read : number_of_refusal (refusal_seen k) ≡ k
  some : eqb k 0 ≡ false
  own : eqb k answer_cells_missing ≡ false

numbered : {A : Type 0} (a : A) (t : Packed) (ws : PatternSet) (s k : ℕ) → judge (rows t ws s) a ≡ refused k → Numbered k
numbered =
    numbers_are Numbered
    (record { read = refl; some = refl; own = refl })
    (record { read = refl; some = refl; own = refl })
    (record { read = refl; some = refl; own = refl })
    (record { read = refl; some = refl; own = refl })
    (record { read = refl; some = refl; own = refl })
    (record { read = refl; some = refl; own = refl })
    (record { read = refl; some = refl; own = refl })

-- a way to stop, read off its number and the mark
seen_ending : (m : ℕ) (e : Ending) → ((p : ℕ) → e ≡ full p → m ≡ p) → ending_of (stop_seen m (stop_number e)) ≡ e
seen_ending m done h = refl
seen_ending m spent h = refl
seen_ending m (full p) h = ap full (h p refl)

-- the outcome that C reads off an accepted call, and off a refused one
accepted_seen : (q : Request) (r : SetRun) (rest list : List ℕ) → r ≡ machine q → verdict q ≡ accepted r → list ≡ list_after r q.list
    → Searched q (outcome_seen 0 (r.steps ∷ length r.written ∷ r.mark ∷ stop_number r.ending ∷ rest)) list
accepted_seen q r rest list same v l =
    let own : verdict q ≡ accepted (machine q) = v ∙ ap {B = Verdict SetRun} accepted same in
    let left = theorem.accepted_left q own in
    let mark = ap (λ (o : SetRun). o.mark) same in
    let ending = ap (λ (o : SetRun). o.ending) same in
    record {
      verdict_is = own;
      answer =
          record {
            steps = ap (λ (o : SetRun). o.steps) same;
            occurrences = ap (λ (o : SetRun). length o.written) same;
            mark = mark;
            ending = seen_ending r.mark r.ending (λ p e. mark ∙ (left.full_at p (sym ending ∙ e)).0) ∙ ending;
          };
      list_is = l ∙ ap (λ (o : SetRun). list_after o q.list) same;
    }

refused_seen : (q : Request) (k : ℕ) (answer list : List ℕ) → verdict q ≡ refused k → Numbered k → list ≡ q.list
    → Searched q (outcome_seen k answer) list
refused_seen q k answer list v n l = rw n.some (record { verdict_is = v ∙ ap {B = Verdict SetRun} refused (sym n.read); list_is = l })

module _ (t : Packed) (ws : PatternSet) (s : ℕ) (c : SetMade) where
  -- the call is one of the library's
  record Taken : Type 0 where
    searched : Searched (library.request_of t ws s (call_seen c).asked) (outcome_seen c.result c.answer_after) c.list_after
    own : eqb c.result answer_cells_missing ≡ false
    mark : set_mark_after s c ≡ library.mark_of s (outcome_seen c.result c.answer_after)
    shown : set_mark_after s c ≡ set_mark_by (set_verdict (set_call_of t ws s c.asked)) s

  taken : SetSearched (set_call_of t ws s c.asked) c.result c.list_after c.answer_after → 4 ≤ length c.asked.answer → Taken
  unfolding verdict
  taken p h = go (set_verdict (set_call_of t ws s c.asked)) refl
    where
      q : Request
      q = set_request (set_call_of t ws s c.asked)

      go : (v : Verdict SetRun) → set_verdict (set_call_of t ws s c.asked) ≡ v → Taken
      go (refused k) e =
          let is = set_by (set_call_of t ws s c.asked) h in
          let told = rw e at p.tells in
          let n = numbered (machine q) t ws s k (sym is ∙ e) in
          record {
            searched = rw told.result_is (refused_seen q k c.answer_after c.list_after (sym is ∙ e) n (rw e at p.list_is));
            own = rw told.result_is n.own;
            mark = rw (told.result_is, n.some) refl;
            shown = rw (told.result_is, n.some, e) refl;
          }
      go (accepted r) e =
          let is = set_by (set_call_of t ws s c.asked) h in
          let told = rw e at p.tells in
          let same = (judge_accepted (machine q) (rows t ws s) r (sym is ∙ e)).1 in
          record {
            searched = rw (told.result_is, told.answer_is) (accepted_seen q r (drop 4 c.asked.answer) c.list_after same (sym is ∙ e) (rw e at p.list_is));
            own = rw told.result_is refl;
            mark = rw told.result_is refl;
            shown = rw (told.result_is, told.answer_is, e) refl;
          }

  -- or it got 101 and left the mark
  record Skipped : Type 0 where
    result : c.result ≡ answer_cells_missing
    shown : set_mark_after s c ≡ set_mark_by (set_verdict (set_call_of t ws s c.asked)) s

  each : SetSearched (set_call_of t ws s c.asked) c.result c.list_after c.answer_after → Skipped ⊎ Taken
  unfolding set_verdict
  each p = go (ltb (length c.asked.answer) 4) refl
    where
      go : (b : Bool) → ltb (length c.asked.answer) 4 ≡ b → Skipped ⊎ Taken
      go true e =
          let told = rw e at p.tells.result_is in
          inl (record { result = told; shown = rw (told, e) refl })
      go false e = inr (taken p (ltb-false (length c.asked.answer) 4 e))

-- what C sees of each call is what the machine shows, or its refusal
mark_shown : (t : Packed) (ws : PatternSet) (s : ℕ) (c : SetMade) → Skipped t ws s c ⊎ Taken t ws s c
    → set_mark_after s c ≡ set_mark_by (set_verdict (set_call_of t ws s c.asked)) s
mark_shown t ws s c (inl k) = k.shown
mark_shown t ws s c (inr k) = k.shown

seen_from : (t : Packed) (ws : PatternSet) (calls : List SetMade) (s : ℕ) → AllSetMade t ws s calls
    → set_seen s calls ≡ set_machine_seen t ws s (map (λ (c : SetMade). c.asked) calls)
unfolding set_seen set_machine_seen
seen_from t ws [] s m = refl
seen_from t ws (c ∷ cs) s m =
    rw (← first, ← mark) (ap (λ (l : List Seen). set_seen_of s c ∷ l) (seen_from t ws cs (set_mark_after s c) m.1))
  where
    mark : set_mark_after s c ≡ set_mark_by (set_verdict (set_call_of t ws s c.asked)) s
    mark = mark_shown t ws s c (each t ws s c m.0)

    first : set_seen_of s c ≡ set_seen_by (set_call_of t ws s c.asked) (set_verdict (set_call_of t ws s c.asked))
    first =
        let p = m.0 in
        λ i. record {
          result = p.tells.result_is i;
          answer = p.tells.answer_is i;
          list = p.list_is i;
          mark = mark i;
        }

record From (t : Packed) (ws : PatternSet) (s : ℕ) (cs : List SetMade) : Type 0 where
  made : library.Made t ws s (calls_seen cs)
  mark : set_last_mark s cs ≡ library.last_mark s (calls_seen cs)

from : (t : Packed) (ws : PatternSet) (cs : List SetMade) (s : ℕ) → AllSetMade t ws s cs → From t ws s cs
unfolding calls_seen set_last_mark library.last_mark
from t ws [] s m = record { made = tt; mark = refl }
from t ws (c ∷ cs) s m = go (from t ws cs) (each t ws s c m.0)
  where
    go : ((z : ℕ) → AllSetMade t ws z cs → From t ws z cs) → Skipped t ws s c ⊎ Taken t ws s c → From t ws s (c ∷ cs)
    go ih (inl k) =
        let e = k.result in
        let r = ih s (rw e at m.1) in
        record { made = rw e r.made; mark = rw e r.mark }
    go ih (inr k) =
        let r = ih (library.mark_of s (outcome_seen c.result c.answer_after)) (rw k.mark at m.1) in
        record { made = rw k.own (k.searched, r.made); mark = rw (k.own, k.mark) r.mark }

-- The theorem: every list of calls from C, the first from mark 0.
pub set_whole : (t : Packed) (ws : PatternSet) (calls : List SetMade) → AllSetMade t ws 0 calls → SetWhole t ws calls
set_whole t ws calls m =
    let f = from t ws calls 0 m in
    record { seen_is = seen_from t ws calls 0 m; made = f.made; whole = theorem.whole t ws (calls_seen calls) f.made; mark = f.mark }
