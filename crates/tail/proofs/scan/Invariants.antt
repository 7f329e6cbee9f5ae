-- `tail::scan` meets its contract. The loop's invariant: the steps made wrote what they found, and they reach the place, or the end of the
-- places where it lies past that; `far` and `found` are what the last window tells; and the first step is as it should be.
-- Assumes nothing.
use mathlib.Core.Path.{◌≡◌}
use mathlib.Core.Bool.{false}
use Prim.Native.Nat.{◌-◌, ◌≤◌, min}
use lib.Bits.{bit_and, bit_xor}
use lib.Dec.{eqb}
use Rattle.rules.specs.declared.Method.TheVariants.{Tail}
use Rattle.rules.specs.Occurrence.{places}
use Rattle.matcher.specs.Asked.{text_in, pattern_in}
use Rattle.matcher.specs.Progress.{Stepped, Advanced}
use Rattle.tail.specs.Lengths.{Moves}
use Rattle.tail.proofs.scan.Given as goal

abbrev pub invariant-loop-at : goal.invariant-loop-at
invariant-loop-at l = let t = text_in l.search.query in
    let w = pattern_in l.search.query in
    let there = min l.at (places t w) in
    Advanced Tail t w l.initial.at l.budget l.initial.list 0 there l.steps l.hits false l.list
    × (l.at ≤ l.search.query.n)
    × Moves l.k l.last l.far
    × (l.found ≡ eqb (bit_and (bit_xor l.last l.whole) l.care) 0)
    × (l.steps ≡ 0 → (l.at ≡ l.initial.at) × (l.hits ≡ 0) × (l.list ≡ l.initial.list))
    × (l.steps ≡ 1 → Stepped Tail t w l.initial.at l.initial.list 0 there l.hits false l.list)

abbrev pub decreases-loop-at : goal.decreases-loop-at
decreases-loop-at l = l.budget - l.steps
