-- `lines::pack::pack` meets its contract. The loop's invariant: the characters passed are packed, eight to a byte.
-- Assumes nothing.
use Rattle.std.proofs.Common.{◌≡◌, ◌*◌, ◌≤◌, length, drop, map}
use Rattle.std.specs.Slice.Iter.{chunks_rest, chunks_size}
use Rattle.arrayvec.specs.ArrayVec.{array_vec_len}
use Rattle.bits.specs.Packed.{bytes_for}
use Rattle.lines.specs.Input.{bit_of}
use Rattle.lines.specs.Packing.{bytes_from}
use Rattle.lines.proofs.pack.pack.Given as goal

abbrev pub invariant-loop-eight : goal.invariant-loop-eight
invariant-loop-eight g l =
    record {
      size : chunks_size l.eight-iterator ≡ 8;
      left : chunks_rest l.eight-iterator ≡ drop (array_vec_len l.bytes * 8) l.chars;
      packed : l.bytes.items ≡ bytes_from (map bit_of l.chars) 0 (array_vec_len l.bytes);
      few : array_vec_len l.bytes ≤ bytes_for (length l.chars);
    }
