-- `capi::scan::method_of` meets its contract: an arm for each number, and the others are unknown.
-- Assumes nothing.
use mathlib.Core.Path.{refl}
use borrow.Author.Tests.{ne_eqb}
use native.Mathlib.Omega.{arith}
use Rattle.capi.specs.Scan.{method_named}
use Rattle.capi.proofs.scan.method_of.Goals as goal

pub returns-in-0 : goal.returns-in-0
unfolding method_named
returns-in-0 c = rw c.in-0.is refl

pub returns-in-1 : goal.returns-in-1
unfolding method_named
returns-in-1 c = rw c.in-1.is refl

pub returns-in-2 : goal.returns-in-2
unfolding method_named
returns-in-2 c = rw c.in-2.is refl

pub returns-in-3 : goal.returns-in-3
unfolding method_named
returns-in-3 c = rw c.in-3.is refl

pub returns-in-4 : goal.returns-in-4
unfolding method_named
returns-in-4 c = rw c.in-4.is refl

pub returns-in_default : goal.returns-in_default
unfolding method_named
returns-in_default c =
    let k = c.args.k in
    rw (
      ne_eqb k 0 (λ e. omega (arith, e)),
      ne_eqb k 1 (λ e. omega (arith, e)),
      ne_eqb k 2 (λ e. omega (arith, e)),
      ne_eqb k 3 (λ e. omega (arith, e)),
      ne_eqb k 4 (λ e. omega (arith, e)),
    ) refl
