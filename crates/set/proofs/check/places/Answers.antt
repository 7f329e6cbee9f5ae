use mathlib.Core.Path.{refl, ◌∙◌, sym, ap₂}
use Prim.Native.Nat.{◌+◌, ◌-◌, max}
use lib.ListN.{get_or}
use Rattle.set_rules.specs.PatternSet.{largest}
use Rattle.set_rules.proofs.Hits.{largest_more}
use Rattle.set.proofs.check.places.Goals as goal

pub loop-m-init : goal.loop-m-init
unfolding largest
loop-m-init c = refl

pub loop-m-preserved : goal.loop-m-preserved
loop-m-preserved c =
    let a = c.args in
    let l = c.loop-m in
    c.max-most.ensures
    ∙ ap₂ max l.invariant c.saturating_sub.ensures
    ∙ sym (largest_more (λ j. (1 + a.n) - get_or a.counts.now j 0) l.m-index)
