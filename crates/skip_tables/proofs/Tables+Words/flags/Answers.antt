-- `skip_tables::Tables::flags` meets its contract: the words of the byte's halves joined, and in the last block cut off after index 0.
-- Assumes nothing.
use Prim.Native.Nat.{ℕ, ◌+◌, ◌-◌, ◌*◌, ◌/◌, ◌%◌}
use native.Mathlib.Omega.{arith}
use lib.ListN.{get_or}
use Rattle.matcher.specs.Lined.{Lined}
use Rattle.matcher.specs.Asked.{lent}
use Rattle.skip_tables.proofs.SkipWords.{flags_whole, flags_last}
use Rattle.skip_tables.proofs.Tables+Words.flags.Goals as goal
use Rattle.skip_tables.proofs.Tables+Words.flags.Goals.{Start}

-- the words of the byte's last and of its first four bits
halves : (c : Start)
    → let a = c.args in
    let word : ℕ → ℕ = λ x. get_or a.self.now.cells.now (22 * a.c + 6 + x) 0 in
    Lined (lent c.args.self.now.pattern.now) (57 * a.c) 4 (a.v % 16) (word (a.v % 16)) × Lined (lent c.args.self.now.pattern.now) (57 * a.c) 4 (a.v / 16) (word (a.v / 16))
halves c =
    let a = c.args in
    let words = c.args.self.now.holds.words_are a.c c.requires in
    (words (a.v % 16) (omega arith), words (a.v / 16) (omega (arith, c.ranges.v.fits)))

pub returns-then-left-lt57 : goal.returns-then-left-lt57
returns-then-left-lt57 c =
    let a = c.args in
    let h = halves (goal.at.returns-then-left-lt57 c).Start in
    flags_last (lent c.args.self.now.pattern.now) a.v (57 * a.c) _ _ h.0 h.1 (a.self.now.pattern.now.m - 7 - 57 * a.c) c.if-left-lt57.true (omega arith)

pub returns : goal.returns
returns c =
    let a = c.args in
    let h = halves (goal.at.returns c).Start in
    flags_whole (lent c.args.self.now.pattern.now) a.v (57 * a.c) _ _ h.0 h.1 (omega arith)
