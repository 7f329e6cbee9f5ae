-- `plain::candidate` meets its contract: the rest of the block, and then whole blocks.
-- Assumes nothing.
use Rattle.std.proofs.Common.{ℕ, ◌+◌, ◌*◌, ◌≤◌, Bool, Option, None, Some, MatchOption, arith}
use Rattle.bits.specs.declared.Place.{Place}
use Rattle.plain.specs.RowCells.{NonePass, IsFirst}
use Rattle.plain.proofs.Between.{between_join}
use Rattle.plain.proofs.RowCells.{block_passed, block_fits}
use Rattle.plain.proofs.candidate.Goals as goal

pub returns-in-Some-clause-first : goal.returns-in-Some-clause-first
returns-in-Some-clause-first c =
    let a = c.args in
    let byte = c.byte-b in
    let load = c.word_at_byte.ensures in
    let offset = c.offset.ensures in
    let row = c.in-Some.ensures in
    let here = byte.ensures in
    let there = c.place_at.ensures in
    record {
      from = omega (arith, row.1.from);
      passes = rw there (block_fits a.text.now a.cells.now byte.result.0 _ _ row.0 load row.1.passes);
      none_sooner = λ p g u. block_passed a.text.now a.cells.now byte.result.0 _ _ _ (omega arith) load row.1.none_sooner p (omega arith) (omega arith);
    }

-- none before b passes, and the first place from b on is known
rest : (f : ℕ → Bool) (s b limit : ℕ) (first : Option Place) → s ≤ b → NonePass f s b
    → MatchOption first (NonePass f b limit) (λ p. IsFirst f b p.0) → MatchOption first (NonePass f s limit) (λ p. IsFirst f s p.0)
rest f s b limit None l none found = between_join _ s b limit none found
rest f s b limit (Some p) l none found =
    record { from = omega (arith, found.from); passes = found.passes; none_sooner = between_join _ s b p.0 none found.none_sooner }

pub returns-in-None-clause-first : goal.returns-in-None-clause-first
returns-in-None-clause-first c =
    let a = c.args in
    let byte = c.byte-b in
    let load = c.word_at_byte.ensures in
    let offset = c.offset.ensures in
    let here = byte.ensures in
    rest _ a.s.0 (8 * (byte.result.0 + 1)) a.limit.0 _ (omega arith)
    (λ p g u. block_passed a.text.now a.cells.now byte.result.0 _ 8 _ (omega arith) load c.in-None.ensures p (omega arith) (omega arith))
    c.in_blocks.ensures
