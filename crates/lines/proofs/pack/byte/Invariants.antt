-- `lines::pack::byte` meets its contract. The loop's invariant: the characters passed are joined.
-- Assumes nothing.
use Rattle.std.proofs.Common.{◌≡◌, map}
use Rattle.lines.specs.Input.{bit_of}
use Rattle.lines.specs.Packing.{bits_from}
use Rattle.lines.proofs.pack.byte.Given as goal

abbrev pub invariant-loop-k : goal.invariant-loop-k
invariant-loop-k l = l.x ≡ bits_from (map bit_of l.chars) 0 l.k
