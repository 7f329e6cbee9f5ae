-- `positions::number::read_here` meets its contract: a single byte is settled here, `read_on` has the rest.
-- Assumes nothing.
use Rattle.std.proofs.Common.{ℕ, ◌≡◌, ◌-◌, ◌≤◌, ◌<◌, List, length, take, drop, get_or, sym, ◌∙◌, arith}
use Rattle.std.proofs.lemmas.List.{length-drop, take_all, at_drop_more}
use Rattle.positions.specs.Decode.{read_number}
use Rattle.positions.proofs.ReadGroups.{number_one, number_more}
use Rattle.positions.proofs.number.read_here.Goals as goal

-- the bytes after the first one
rest_is : (file : List ℕ) → take (length file - 1) (drop 1 file) ≡ drop 1 file
rest_is file =
    let size : length (drop 1 file) ≤ length file - 1 = omega (arith, length-drop 1 file) in
    take_all (length file - 1) (drop 1 file) size

pub returns-then-b-lt128 : goal.returns-then-b-lt128
returns-then-b-lt128 c =
    let file = c.args.file.now in
    rw (rest_is file) (sym (at_drop_more read_number file 0 0 c.requires ∙ number_one (get_or file 0 0) (drop 1 file) c.if-b-lt128.true))

pub read_on-requires : goal.read_on-requires
read_on-requires c = omega (arith, c.type_inv.file 0)

pub returns : goal.returns
returns c =
    let file = c.args.file.now in
    rw (rest_is file) at c.read_on.ensures ∙ sym (at_drop_more read_number file 0 0 c.requires ∙ number_more (get_or file 0 0) (drop 1 file) c.if-b-lt128.false)
