-- "Bits from n on never matter": two texts of n bits that agree below n give the same answer to every call for a set. What a
-- pattern has at wild bits and after its last bit never matters either: `same_hits` of Order.antt, with each pattern in its place.
-- Assumes nothing.
use Prim.Native.Nat.{ℕ, zero, suc, ◌+◌, ◌-◌}
use mathlib.Core.Path.{◌≡◌, refl, ap}
use mathlib.Core.Bool.{Bool, true, false, ◌&&◌}
use mathlib.Core.List.{List, map}
use native.Mathlib.Omega.{arith}
use borrow.Author.Tests.{ltb-true}
use lib.Dec.{ltb}
use lib.ListN.{length}
use Rattle.bits.specs.Packed.{Packed, AgreeBelow}
use Rattle.rules.specs.Pattern.{Pattern, agrees}
use Rattle.rules.specs.Occurrence.{places, matches, occurs}
use Rattle.rules.proofs.Ranges.{every_same, among_same}
use Rattle.rules.proofs.Padding.{text_bits}
use Rattle.search.proofs.Padding.{judge_same, SameText}
use Rattle.set_rules.specs.PatternSet.{PatternSet, pattern_at, set_places}
use Rattle.set_rules.specs.Hits.{hit_at, standing, hits_at}
use Rattle.set_rules.specs.SetMachine.{halted, set_run}
use Rattle.set_rules.specs.Verdict.{Request, rows, room_in, machine, verdict}

-- the request with another text
abbrev pub with_text : Request → Packed → Request
with_text q t = record { text = t; patterns = q.patterns; mark = q.mark; budget = q.budget; list = q.list }

module _ (n : ℕ) (a b : List ℕ) (same : AgreeBelow n a b) where
  -- a pattern that fits is compared with bits before n alone
  occurs_same : (w : Pattern) (s : ℕ) → occurs (text_bits n a) w s ≡ occurs (text_bits n b) w s
  unfolding occurs matches
  occurs_same w s = go (ltb s (places (text_bits n a) w)) refl
    where
      go : (c : Bool) → ltb s (places (text_bits n a) w) ≡ c → (c && matches (text_bits n a) w s) ≡ (c && matches (text_bits n b) w s)
      go true e =
          let inside = ltb-true s (places (text_bits n a) w) e in
          every_same w.count _ _ (λ j l. ap (agrees w j) (same (s + j) (omega arith)))
      go false e = refl

  module _ (ws : PatternSet) where
    hits_same : (s : ℕ) → hits_at (text_bits n a) ws s ≡ hits_at (text_bits n b) ws s
    unfolding hits_at standing
    hits_same s = ap (map (hit_at s)) (among_same _ _ 0 (length ws.counts) (λ i l u. occurs_same (pattern_at ws i) s))

    ends_same : set_places (text_bits n a) ws ≡ set_places (text_bits n b) ws
    unfolding set_places
    ends_same = refl

    run_same : (budget s room : ℕ) → set_run (text_bits n a) ws budget s room ≡ set_run (text_bits n b) ws budget s room
    unfolding set_run
    run_same zero s room = ap (λ (e : ℕ). halted e s) ends_same
    run_same (suc k) s room = rw (ends_same, hits_same s, run_same k (suc s) (room - length (hits_at (text_bits n b) ws s))) refl

-- the text's bits from n on
pub set_verdict_same : (q : Request) (n : ℕ) (a b : List ℕ) → SameText n a b
    → verdict (with_text q (text_bits n a)) ≡ verdict (with_text q (text_bits n b))
unfolding verdict machine rows
set_verdict_same q n a b s =
    rw (s.missing, ends_same n a b s.same q.patterns)
    (judge_same _ _ _ (λ f. run_same n a b s.same q.patterns q.budget q.mark (room_in q.list)))
