-- Every list of search calls from C: each call is a call of the library's search or was refused with 100 or 101, so the
-- theorem about every list of calls of the library (`whole` of the search crate) gives the claim in what C sees.
-- Assumes nothing.
use Prim.Native.Nat.{ℕ, ◌≤◌, ◌<◌}
use mathlib.Core.Path.{◌≡◌, refl, sym, ◌∙◌, ap}
use mathlib.Core.Bool.{Bool, true, false}
use mathlib.Core.Logic.{◌↔◌, ◌⊎◌, inl, inr}
use mathlib.Core.List.Memᴰ
use mathlib.Core.List.{List, [], ◌∷◌, map, Memᴰ}
use mathlib.Core.Option.{Option, none, some}
use native.Mathlib.Omega.{arith}
use lib.Dec.{ltb, eqb}
use lib.ListN.{length}
use borrow.Author.Tests.{ltb-false}
use Rattle.bits.specs.Packed.{Packed}
use Rattle.rules.specs.Pattern.{Pattern}
use Rattle.rules.specs.Machine.{Ending, done, spent, full}
use Rattle.rules.specs.declared.Method.{Method}
use Rattle.std.specs.Prelude.{Ok, Err}
use Rattle.search.specs.declared.Refusal.{Refusal}
use Rattle.search.specs.declared.Refusal.TheVariants.{TextTooLong, TextBytesMissing, PatternLength, PatternBytesMissing, FixedBytesMissing, PatternUnfit, BeyondEnd, ScratchTooShort}
use Rattle.search.specs.Verdict.{Outcome, refused, verdict, number_of_refusal, Searched}
use Rattle.search.specs.Calls as library
use Rattle.search.proofs.Calls as theorem
use Rattle.capi.specs.Told.{unknown_method, answer_cells_missing, Tells}
use Rattle.capi.specs.Scan.{Named, known, unknown, method_named, stop_number, request_of, search_verdict, Searches}
use Rattle.capi.specs.Inner.{outcome_tells}
use Rattle.capi.specs.CallList.{call_of, Made, mark_after, places_in, steps_in, stop_in, AllMade, Seen, seen_of, seen, mark_by, seen_by, machine_seen, last_mark, joined, all_steps, later, last_stop, Whole}
use Rattle.capi.proofs.Calling.{searched_by}
use Rattle.capi.proofs.Answers.{as_searched}

-- a way to stop by its number
abbrev pub stop_numbers : Option Ending → Option ℕ
stop_numbers none = none
stop_numbers (some e) = some (stop_number e)

-- no refusal has the number 0
not_zero : (y : Refusal) → eqb (number_of_refusal y) 0 ≡ false
not_zero TextTooLong = refl
not_zero TextBytesMissing = refl
not_zero PatternLength = refl
not_zero PatternBytesMissing = refl
not_zero FixedBytesMissing = refl
not_zero PatternUnfit = refl
not_zero BeyondEnd = refl
not_zero ScratchTooShort = refl

module _ (t : Packed) (w : Pattern) (s : ℕ) (c : Made) where
  -- a call that was refused before there was a search
  pub record Skipped : Type 0 where
    pub mark : mark_after s c ≡ s
    pub places : places_in c ≡ []
    pub steps : steps_in c ≡ 0
    pub stop : stop_in c ≡ none
    pub verdict_mark : mark_by (search_verdict (call_of t w s c.asked)) s ≡ s

  -- the call of the library that it is
  pub record Taken : Type 0 where
    pub call : library.Call
    pub searched : Searched (library.request_of t w s call.asked) call.outcome call.list_after call.scratch_after
    pub mark : mark_after s c ≡ library.mark_of s call.outcome
    pub places : places_in c ≡ library.places_of call.outcome call.list_after
    pub steps : steps_in c ≡ library.steps_of call.outcome
    pub stop : stop_in c ≡ stop_numbers (library.stop_of call.outcome)
    pub budget : call.asked.budget ≡ c.asked.budget
    pub list : call.asked.list ≡ c.asked.list
    pub verdict_mark : mark_by (search_verdict (call_of t w s c.asked)) s ≡ library.mark_of s call.outcome

  skipped : (k : ℕ) → search_verdict (call_of t w s c.asked) ≡ refused k → c.result ≡ k → eqb k 0 ≡ false → Skipped
  skipped k v r e =
      record { mark = rw (r, e) refl; places = rw (r, e) refl; steps = rw (r, e) refl; stop = rw (r, e) refl; verdict_mark = rw v refl }

  module _ (x : Method) where
    made : Outcome → library.Call
    made o =
        record {
          asked = record { method = x; budget = c.asked.budget; list = c.asked.list; scratch = c.asked.scratch };
          outcome = o;
          list_after = c.list_after;
          scratch_after = c.scratch_after;
        }

    taken : (o : Outcome) → Searched (request_of x (call_of t w s c.asked)) o c.list_after c.scratch_after
        → Tells (outcome_tells o) c.asked.answer c.result c.answer_after
        → search_verdict (call_of t w s c.asked) ≡ verdict (request_of x (call_of t w s c.asked)) → Taken
    unfolding made
    taken (Ok a) p h v =
        record {
          call = made (Ok a);
          searched = p;
          mark = rw (h.result_is, h.answer_is) refl;
          places = rw (h.result_is, h.answer_is) refl;
          steps = rw (h.result_is, h.answer_is) refl;
          stop = rw (h.result_is, h.answer_is) refl;
          budget = refl;
          list = refl;
          verdict_mark = rw (v ∙ p.verdict_is) (sym p.answer.mark);
        }
    taken (Err y) p h v =
        record {
          call = made (Err y);
          searched = p;
          mark = rw (h.result_is, not_zero y) refl;
          places = rw (h.result_is, not_zero y) refl;
          steps = rw (h.result_is, not_zero y) refl;
          stop = rw (h.result_is, not_zero y) refl;
          budget = refl;
          list = refl;
          verdict_mark = rw (v ∙ p.verdict_is) refl;
        }

  pub each : Searches (call_of t w s c.asked) c.result c.list_after c.scratch_after c.answer_after → Skipped ⊎ Taken
  unfolding search_verdict
  each p = by (method_named c.asked.method) refl
    where
      cells : (x : Method) → method_named c.asked.method ≡ known x → (b : Bool) → ltb (length c.asked.answer) 4 ≡ b → Skipped ⊎ Taken
      cells x e true h =
          let told = rw h at (rw e at p.tells.result_is) in
          inl (skipped answer_cells_missing (rw (e, h) refl) told refl)
      cells x e false h =
          let four = ltb-false (length c.asked.answer) 4 h in
          let a = as_searched (call_of t w s c.asked) x _ _ _ _ e four p in
          inr (taken x a.outcome a.searched a.tells (searched_by (call_of t w s c.asked) x e four))

      by : (n : Named) → method_named c.asked.method ≡ n → Skipped ⊎ Taken
      by unknown e = inl (skipped unknown_method (rw e refl) (rw e at p.tells.result_is) refl)
      by (known x) e = cells x e (ltb (length c.asked.answer) 4) refl

-- the call of the library, among these, that a call from C is
record Among (calls : List library.Call) (c : Made) : Type 0 where
  call : library.Call
  member : Memᴰ call calls
  steps : steps_in c ≡ library.steps_of call.outcome
  stop : stop_in c ≡ stop_numbers (library.stop_of call.outcome)
  budget : call.asked.budget ≡ c.asked.budget

-- it is one of them, or was refused before there was a search
abbrev Kept : List library.Call → Made → Type 0
Kept calls c = ((steps_in c ≡ 0) × (stop_in c ≡ none)) ⊎ Among calls c

-- the calls of the library that a list of calls from C is
record Same (t : Packed) (w : Pattern) (s : ℕ) (cs : List Made) : Type 0 where
  calls : List library.Call
  made : library.Made t w s calls
  mark : last_mark s cs ≡ library.last_mark s calls
  places : joined cs ≡ library.joined calls
  steps : all_steps cs ≡ library.all_steps calls
  stop : last_stop cs ≡ stop_numbers (library.last_stop calls)
  each_is : (c : Made) → Memᴰ c cs → Kept calls c

later_none : (e : Option ℕ) → later none e ≡ e
later_none none = refl
later_none (some n) = refl

later_numbers : (e l : Option Ending) → later (stop_numbers e) (stop_numbers l) ≡ stop_numbers (library.later e l)
later_numbers e none = refl
later_numbers e (some l) = refl

wider : (calls : List library.Call) (call : library.Call) (c : Made) → Kept calls c → Kept (call ∷ calls) c
wider calls call c (inl k) = inl k
wider calls call c (inr a) =
    inr (record { call = a.call; member = Memᴰ.tail a.member; steps = a.steps; stop = a.stop; budget = a.budget })

same : (t : Packed) (w : Pattern) (cs : List Made) (s : ℕ) → AllMade t w s cs → Same t w s cs
unfolding last_mark joined all_steps last_stop library.last_mark library.joined library.all_steps library.last_stop
same t w [] s m =
    record {
      calls = [];
      made = tt;
      mark = refl;
      places = refl;
      steps = refl;
      stop = refl;
      each_is = λ c i. absurd (Memᴰ.not-nil i);
    }
same t w (c ∷ cs) s m = go (same t w cs) (each t w s c m.0)
  where
    pick : {calls : List library.Call} (d : Made) → Skipped t w s c → (Memᴰ d cs → Kept calls d)
        → (d ≡ c) ⊎ Memᴰ d cs → Kept calls d
    pick d k f (inl e) = inl (rw e k.steps, rw e k.stop)
    pick d k f (inr i) = f i

    choose : (d : Made) (k : Taken t w s c) (calls : List library.Call) → (Memᴰ d cs → Kept calls d)
        → (d ≡ c) ⊎ Memᴰ d cs → Kept (k.call ∷ calls) d
    choose d k calls f (inl e) =
        inr
        (record {
          call = k.call;
          member = Memᴰ.head refl;
          steps = rw e k.steps;
          stop = rw e k.stop;
          budget = rw e k.budget;
        })
    choose d k calls f (inr i) = wider calls k.call d (f i)

    go : ((s' : ℕ) → AllMade t w s' cs → Same t w s' cs) → Skipped t w s c ⊎ Taken t w s c → Same t w s (c ∷ cs)
    go ih (inl k) =
        let r = ih s (rw k.mark at m.1) in
        record {
          calls = r.calls;
          made = r.made;
          mark = rw k.mark r.mark;
          places = rw k.places r.places;
          steps = rw k.steps (omega (arith, r.steps));
          stop = rw k.stop (later_none (last_stop cs) ∙ r.stop);
          each_is = λ d i. pick d k (r.each_is d) (Memᴰ.cases_cons i);
        }
    go ih (inr k) =
        let r = ih (library.mark_of s k.call.outcome) (rw k.mark at m.1) in
        record {
          calls = k.call ∷ r.calls;
          made = (k.searched, r.made);
          mark = rw k.mark r.mark;
          places = rw (k.places, r.places) refl;
          steps = rw (k.steps, r.steps) refl;
          stop = rw (k.stop, r.stop) (later_numbers (library.stop_of k.call.outcome) (library.last_stop r.calls));
          each_is = λ d i. choose d k r.calls (r.each_is d) (Memᴰ.cases_cons i);
        }

-- stop number 0 is done
done_zero : (e : Ending) → (stop_number e ≡ 0) ↔ (e ≡ done)
done_zero done = (λ h. refl, λ h. refl)
done_zero spent = (λ h. absurd (omega arith), λ h. absurd (omega (arith, ap stop_number h)))
done_zero (full p) = (λ h. absurd (omega arith), λ h. absurd (omega (arith, ap stop_number h)))

is_spent : (o : Option Ending) → stop_numbers o ≡ some 2 → o ≡ some spent
is_spent none h = let z : ◌≡◌ {A = ℕ} 0 1 = cc in absurd (omega arith)
is_spent (some done) h = let z : ◌≡◌ {A = ℕ} 0 2 = cc in absurd (omega arith)
is_spent (some spent) h = refl
is_spent (some (full p)) h = let z : ◌≡◌ {A = ℕ} 1 2 = cc in absurd (omega arith)

-- the claims about each call, from those about the library's
module _ (t : Packed) (w : Pattern) (calls : List library.Call) (all : library.Whole t w calls) (c : Made) where
  spent_by : stop_in c ≡ some 2 → Kept calls c → steps_in c ≡ c.asked.budget
  spent_by h (inl k) = let none_is = k.1 in let z : ◌≡◌ {A = ℕ} 0 1 = cc in absurd (omega arith)
  spent_by h (inr a) = a.steps ∙ all.spent_all a.call a.member (is_spent _ (sym a.stop ∙ h)) ∙ a.budget

  within_by : Kept calls c → steps_in c ≤ c.asked.budget
  within_by (inl k) = rw k.0 (omega arith)
  within_by (inr a) = rw (a.steps, ← a.budget) (all.within a.call a.member)

finished_by : {n k : ℕ} (l : Option Ending) → ((e : Ending) → l ≡ some e → (e ≡ done) ↔ (n < k)) → (e : ℕ)
    → stop_numbers l ≡ some e → (e ≡ 0) ↔ (n < k)
finished_by none f e h = let z : ◌≡◌ {A = ℕ} 0 1 = cc in absurd (omega arith)
finished_by (some l) f e h =
    let i = f l refl in
    let is : stop_number l ≡ e = cc in
    rw (sym is) (λ z. i.0 ((done_zero l).0 z), λ u. (done_zero l).1 (i.1 u))

-- what C sees of each call is what the machine shows, or its refusal
mark_shown : (t : Packed) (w : Pattern) (s : ℕ) (c : Made) → Skipped t w s c ⊎ Taken t w s c
    → mark_after s c ≡ mark_by (search_verdict (call_of t w s c.asked)) s
mark_shown t w s c (inl k) = k.mark ∙ sym k.verdict_mark
mark_shown t w s c (inr k) = k.mark ∙ sym k.verdict_mark

seen_from : (t : Packed) (w : Pattern) (calls : List Made) (s : ℕ) → AllMade t w s calls
    → seen s calls ≡ machine_seen t w s (map (λ (c : Made). c.asked) calls)
unfolding seen machine_seen
seen_from t w [] s m = refl
seen_from t w (c ∷ cs) s m =
    rw (← first, ← mark) (ap (λ (l : List Seen). seen_of s c ∷ l) (seen_from t w cs (mark_after s c) m.1))
  where
    mark : mark_after s c ≡ mark_by (search_verdict (call_of t w s c.asked)) s
    mark = mark_shown t w s c (each t w s c m.0)

    first : seen_of s c ≡ seen_by (call_of t w s c.asked) (search_verdict (call_of t w s c.asked))
    first =
        let p = m.0 in
        λ i. record {
          result = p.tells.result_is i;
          answer = p.tells.answer_is i;
          list = p.list_is i;
          mark = mark i;
        }

-- The theorem: every list of calls from C, the first from mark 0.
pub whole : (t : Packed) (w : Pattern) (calls : List Made) → AllMade t w 0 calls → Whole t w calls
whole t w calls m =
    let r = same t w calls 0 m in
    let all = theorem.whole t w r.calls r.made in
    record {
      seen_is = seen_from t w calls 0 m;
      places_are = rw (r.places, r.mark) all.places_are;
      rising = rw r.places all.rising;
      exactly = λ p. rw (r.places, r.mark) (all.exactly p);
      finished = λ e h. rw r.mark (finished_by (library.last_stop r.calls) all.finished e (sym r.stop ∙ h));
      spent_all = λ c i h. spent_by t w r.calls all c h (r.each_is c i);
      within = λ c i. within_by t w r.calls all c (r.each_is c i);
      bounded = rw (r.steps, r.mark) all.bounded;
    }

-- The calls of the library that a list of calls from C is, of which the last accepted one stopped with 0: the same places, and done.
pub record Finished (t : Packed) (w : Pattern) (cs : List Made) : Type 0 where
  pub calls : List library.Call
  pub made : library.Made t w 0 calls
  pub places : joined cs ≡ library.joined calls
  pub stop : library.last_stop calls ≡ some done

pub finished : (t : Packed) (w : Pattern) (cs : List Made) → AllMade t w 0 cs → last_stop cs ≡ some 0 → Finished t w cs
finished t w cs m h =
    let r = same t w cs 0 m in
    record { calls = r.calls; made = r.made; places = r.places; stop = stopped (library.last_stop r.calls) (sym r.stop ∙ h) }
  where
    stopped : (l : Option Ending) → stop_numbers l ≡ some 0 → l ≡ some done
    stopped none e = let z : ◌≡◌ {A = ℕ} 0 1 = cc in absurd (omega arith)
    stopped (some l) e = let is : stop_number l ≡ 0 = cc in ap some ((done_zero l).0 is)
