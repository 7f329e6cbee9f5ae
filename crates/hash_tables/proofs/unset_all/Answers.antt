-- `hash_tables::unset_all` meets its contract.
-- Assumes nothing.
use mathlib.Core.Path.{◌≡◌, ap, ◌∙◌}
use Prim.Native.Nat.{ℕ}
use native.Mathlib.Omega.{arith}
use lib.ListN.{length, take, drop, replicate, length-drop}
use lib.Seq.{length-take-le}
use Rattle.hash_tables.proofs.HashRows.{filled_at, filled_only}
use Rattle.hash_tables.proofs.unset_all.Goals as goal

pub returns : goal.returns
returns c =
    let cells = c.args.cells.now in
    let size : length (take 16 (drop 342 cells)) ≡ 16 = length-take-le 16 (drop 342 cells) (omega (arith, length-drop 342 cells)) in
    let all : c.fill.new.self ≡ replicate 16 65535 = c.fill.ensures.after (λ y e. cc) ∙ ap (λ (n : ℕ). replicate n 65535) size in
    rw all (record { unset = λ h l. filled_at cells 342 16 65535 (omega arith) h l; only = filled_only cells 342 16 65535 (omega arith) })
