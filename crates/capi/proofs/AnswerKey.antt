-- The key that a finished search gives: every list of search calls of which the last accepted one is done, in the library and from C.
-- Assumes nothing.
use Prim.Native.Nat.{ℕ, zero, suc, ◌^◌, ◌≤◌, ◌<◌}
use mathlib.Core.Path.{◌≡◌, refl, sym, ap, ◌∙◌}
use mathlib.Core.Bool.{Bool, true, false, ◌||◌, false≢true}
use mathlib.Core.Logic.{◌↔◌}
use mathlib.Core.List.{List, [], ◌∷◌, Memᴰ}
use mathlib.Core.Option.{Option, none, some}
use native.Mathlib.Omega.{arith}
use borrow.Author.Tests.{ltb-false, eqb-false}
use lib.Dec.{ltb, eqb}
use lib.ListN.{length, get_or}
use Rattle.bits.specs.Packed.{Packed}
use Rattle.rules.specs.Pattern.{Pattern}
use Rattle.rules.specs.Occurrence.{places, Occurs, occurs, occurrences}
use Rattle.rules.specs.Machine.{Ending, done, Run}
use Rattle.rules.proofs.Ranges.{same_test}
use Rattle.rules.proofs.Occurrence.{occurs_iff, occurrences_rising, occurrences_exactly}
use Rattle.std.specs.Prelude.{Ok, Err}
use Rattle.search.specs.Verdict.{Outcome, Request, accepted, rows, machine, verdict, Searched}
use Rattle.search.specs.Calls as library
use Rattle.search.proofs.Verdict.{accepted_fail}
use Rattle.search.proofs.Calls.{complete}
use Rattle.positions.specs.Basics.{limit}
use Rattle.positions.specs.Rising.{rising}
use Rattle.positions.proofs.StrictlyRising.{strict_is_rising}
use Rattle.marking.specs.declared.Totals.{Totals}
use Rattle.std.specs.Prelude.{Ok}
use Rattle.marking.specs.Marks.{on, keep, filter, both, marks}
use Rattle.marking.specs.Promise.{MarksSitting}
use Rattle.marking.specs.Holds.{sheet_at}
use Rattle.marking.proofs.Members.{on_member, both_swap, filter_iff, filter_rises}
use Rattle.marking.proofs.Holds.{accepted_holds}
use Rattle.capi.specs.CallList.{Made, AllMade, joined, last_stop}
use Rattle.capi.specs.Sitting.{SittingMarked}
use Rattle.capi.specs.AnswerKey.{occurring, IsKey, RightOccur}
use Rattle.capi.proofs.CallList.{finished}
use Rattle.capi.proofs.SittingCalls.{marked_holds, marked_rises}

-- ---- a text and a pattern that a search takes

record Taken (t : Packed) (w : Pattern) : Type 0 where
  short : t.count ≤ limit
  some_bit : 1 ≤ w.count

-- a call that was accepted took them
taken_by : (q : Request) (r : Run) → verdict q ≡ accepted r → Taken q.text q.pattern
unfolding rows
taken_by q r e =
    let f = accepted_fail q r e in
    let bits = or_false_both (eqb q.pattern.count 0) (ltb 2048 q.pattern.count) f.1.1.0 in
    record {
      short = ltb-false (2 ^ 30) q.text.count f.0;
      some_bit = positive q.pattern.count (λ z. eqb-false q.pattern.count 0 bits.0 z);
    }
  where
    or_false_both : (a b : Bool) → (a || b) ≡ false → (a ≡ false) × (b ≡ false)
    or_false_both false b h = (refl, h)
    or_false_both true b h = absurd (false≢true (sym h))

    positive : (m : ℕ) → (m ≡ 0 → ⊥) → 1 ≤ m
    positive zero n = absurd (n refl)
    positive (suc m) n = omega arith

-- where one call stopped, one was accepted
taken : (t : Packed) (w : Pattern) (s : ℕ) (calls : List library.Call) (e : Ending) → library.Made t w s calls → library.last_stop calls ≡ some e → Taken t w
unfolding library.last_stop
taken t w s [] e m h = let z : ◌≡◌ {A = ℕ} 0 1 = cc in absurd (omega arith)
taken t w s (c ∷ cs) e m h = go c.outcome refl (library.last_stop cs) refl (λ f k. taken t w (library.mark_of s c.outcome) cs f m.1 k)
  where
    of : (o : Outcome) → c.outcome ≡ o → (l : Option Ending) → library.later (library.stop_of o) l ≡ some e → l ≡ none → Taken t w
    of (Ok a) i l k n = taken_by (library.request_of t w s c.asked) (machine (library.request_of t w s c.asked)) (accepted_verdict i m.0)
      where
        accepted_verdict : c.outcome ≡ Ok a → Searched (library.request_of t w s c.asked) c.outcome c.list_after c.scratch_after
            → verdict (library.request_of t w s c.asked) ≡ accepted (machine (library.request_of t w s c.asked))
        accepted_verdict j q = let r = rw j at q in r.verdict_is
    of (Err y) i l k n = let z : ◌≡◌ {A = ℕ} 0 1 = cc in absurd (omega arith)

    go : (o : Outcome) → c.outcome ≡ o → (l : Option Ending) → library.last_stop cs ≡ l → ((f : Ending) → library.last_stop cs ≡ some f → Taken t w) → Taken t w
    go o i none k below = of o i none (rw (i, k) at h) refl
    go o i (some l) k below = below l k

-- ---- all occurrences, as a key

member_at : (l : List ℕ) (i : ℕ) → i < length l → Memᴰ (get_or l i 0) l
member_at [] i h = absurd (omega arith)
member_at (p ∷ ps) zero h = Memᴰ.head refl
member_at (p ∷ ps) (suc i) h = Memᴰ.tail (member_at ps i (omega arith))

module _ (t : Packed) (w : Pattern) (fits : Taken t w) (key : List ℕ) (are : key ≡ occurrences t w 0 (places t w)) where
  only_occurrences : (p : ℕ) → Memᴰ p key ↔ Occurs t w p
  only_occurrences p =
      let x = occurrences_exactly t w 0 (places t w) p in
      rw are (λ m. (x.0 m).0, λ o. x.1 (o, omega arith, o.inside))

  key_rises : rising key ≡ true
  key_rises =
      strict_is_rising key
      (record {
        strictly = rw are (occurrences_rising t w 0 (places t w));
        under = λ i h. omega (arith, ((only_occurrences (get_or key i 0)).0 (member_at key i h)).inside, fits.short, fits.some_bit);
      })

  on_key : (p : ℕ) → on p key ≡ occurs t w p
  on_key p =
      same_test (on p key) (occurs t w p)
      (λ h. (occurs_iff t w p).1 ((only_occurrences p).0 ((on_member p key).0 h)))
      (λ h. (on_member p key).1 ((only_occurrences p).1 ((occurs_iff t w p).0 h)))

  occurring_shared : (sheet : List ℕ) → both sheet key ≡ occurring t w sheet
  unfolding both occurring filter
  occurring_shared [] = refl
  occurring_shared (p ∷ ps) = rw (on_key p) (ap (keep (occurs t w p) p) (occurring_shared ps))

  is_key : IsKey t w key
  unfolding marks occurring
  is_key =
      record {
        exactly = only_occurrences;
        rises = key_rises;
        right_is = λ sheet r. ap length (both_swap key sheet key_rises r ∙ occurring_shared sheet);
        occurring_are =
            λ sheet p.
            let x = filter_iff (occurs t w) p sheet in
            let o = occurs_iff t w p in
            (λ m. ((x.0 m).0, o.0 (x.0 m).1), λ m. x.1 (m.0, o.1 m.1));
        occurring_rise = λ sheet r. filter_rises (occurs t w) sheet r;
      }

-- ---- the theorems

-- "the key that a finished search gives": the joined places of every list of search calls, whatever method, budget and list each gets, of
-- which the last accepted one said done
pub searched_key : (t : Packed) (w : Pattern) (calls : List library.Call) → library.Made t w 0 calls → library.last_stop calls ≡ some done
    → IsKey t w (library.joined calls)
searched_key t w calls m h = is_key t w (taken t w 0 calls done m h) (library.joined calls) (complete t w calls m h)

-- and a sitting marked against it by a call: the first cell of every sheet counts just the occurrences on the sheet
pub right_searched : (t : Packed) (w : Pattern) (calls : List library.Call) (sheets counts before after : List ℕ) (u : Totals)
    → library.Made t w 0 calls → library.last_stop calls ≡ some done → MarksSitting (library.joined calls) sheets counts before (Ok u) after
    → RightOccur t w sheets counts after
unfolding marks
right_searched t w calls sheets counts before after u m h s i k =
    let a = accepted_holds (library.joined calls) sheets counts before after u s in
    a.holds.right_are i k ∙ (searched_key t w calls m h).right_is (sheet_at sheets counts i) (a.sheets_rise i k)

-- the same for calls from C, of which the last accepted one stopped with 0
pub found_key : (t : Packed) (w : Pattern) (calls : List Made) → AllMade t w 0 calls → last_stop calls ≡ some 0 → IsKey t w (joined calls)
found_key t w calls m h =
    let f = finished t w calls m h in
    rw f.places (searched_key t w f.calls f.made f.stop)

-- and a sitting marked against it from C
pub right_occur : (t : Packed) (w : Pattern) (calls : List Made) {sheets counts report answer report' answer' : List ℕ}
    → AllMade t w 0 calls → last_stop calls ≡ some 0 → SittingMarked (joined calls) sheets counts report answer 0 report' answer'
    → RightOccur t w sheets counts report'
unfolding marks
right_occur t w calls {sheets} {counts} m h s i k =
    (marked_holds s).right_are i k
    ∙ (found_key t w calls m h).right_is (sheet_at sheets counts i) (marked_rises s i k)
