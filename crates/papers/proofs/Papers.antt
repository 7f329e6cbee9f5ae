-- The rows hold: each computes.
use mathlib.Core.Path.{refl}
use Rattle.bits.specs.Packed.{bit_at, bits_at}
use Rattle.rules.specs.Ranges.{every, among, least, greatest}
use Rattle.rules.specs.Pattern.{is_fixed, agrees}
use Rattle.rules.specs.Occurrence.{matches, occurs, occurrences}
use Rattle.rules.specs.Plain.{from_bits, in_row, fixed_in_row, row_bit, mask_bit, row_byte, row_mask, row_fits, plain_finds}
use Rattle.rules.specs.Hash.{meets, hash_of, hash_again, last_eight, hash_finds, hash_next}
use Rattle.rules.specs.Skip.{shows, shown_at, skip_finds}
use Rattle.rules.specs.Wide.{counts, stands, flagged, wide_finds, last_index, wide_next}
use Rattle.rules.specs.Tail.{prefix_ends, tail_length, tail_finds, tail_next}
use Rattle.rules.specs.Step.{finds, ahead, next}
use Rattle.rules.specs.Machine.{stopped, cut, after, run}
use Rattle.rules.specs.Papers.{marks_from}
use Rattle.positions.specs.Rising.{rises_from, rising}
use Rattle.positions.specs.Encode.{groups, encode_number, encode_from, encode}
use Rattle.positions.specs.Decode.{last_group, read_groups, read_number, read_position, read_body, whole, contents, decode}
use Rattle.marking.specs.Marks.{on, filter, both, only, marks}
use Rattle.marking.specs.Sitting.{sum, sheets_of, all_rise, all_marks, totals_of, verdict}
use Rattle.papers.specs.Papers.{Papers}

pub papers : Papers
unfolding bit_at bits_at every among least greatest is_fixed agrees matches occurs occurrences from_bits in_row fixed_in_row row_bit mask_bit row_byte row_mask row_fits plain_finds meets hash_of hash_again last_eight hash_finds hash_next shows shown_at skip_finds counts stands flagged wide_finds last_index wide_next prefix_ends tail_length tail_finds tail_next finds ahead next stopped cut after run marks_from groups encode_number encode_from encode last_group read_groups read_number read_position read_body whole contents decode rises_from rising on filter both only marks sum sheets_of all_rise all_marks totals_of verdict
papers =
    record {
      r1_v1 = refl;
      r2_v2 = refl;
      h_01100101 = refl;
      h_11001011 = refl;
      h_10010110 = refl;
      h_11111111 = refl;
      h_00000000 = refl;
      hash_marks = refl;
      hash_run = refl;
      skip_marks = refl;
      skip_run = refl;
      one_cell_plain = refl;
      one_cell_hash = refl;
      one_cell_wide = refl;
      empty_plain = refl;
      empty_wide = refl;
      overlapping = refl;
      wide_marks = refl;
      wide_run = refl;
      list_three = refl;
      list_300 = refl;
      list_empty = refl;
      list_three_back = refl;
      list_300_back = refl;
      list_empty_back = refl;
      tail_marks_1 = refl;
      tail_run_1 = refl;
      tail_marks_2 = refl;
      tail_run_2 = refl;
      one_cell_tail = refl;
      tail_marks_ones = refl;
      tail_run_ones = refl;
      tail_prefix = refl;
      tail_border = refl;
      tail_marks_3 = refl;
      tail_run_3 = refl;
      sitting = refl;
      sitting_totals = refl;
      one_cell_skip = refl;
      next_call_plain = refl;
      next_call_hash = refl;
      next_call_skip = refl;
      next_call_wide = refl;
      last_call_tail = refl;
      cut_not_tried = refl;
      cut_tried = refl;
      cut_not_spent = refl;
      no_cell_plain = refl;
      no_cell_hash = refl;
      cells_plain_1 = refl;
      cells_plain_2 = refl;
      cells_plain_9 = refl;
      cells_plain_10 = refl;
      cells_plain_2048 = refl;
      cells_hash_8 = refl;
      cells_hash_2048 = refl;
      cells_skip_15 = refl;
      cells_skip_2048 = refl;
      cells_wide_1 = refl;
      cells_wide_2048 = refl;
      cells_tail_1 = refl;
      cells_tail_64 = refl;
      plain_marks = refl;
      wide_marks_1 = refl;
      wild_all = refl;
      wild_plain_marks = refl;
      wild_plain = refl;
      wild_hash_marks = refl;
      wild_hash = refl;
      wild_wide_marks = refl;
      wild_wide = refl;
      wild_tail_marks = refl;
      wild_tail = refl;
      wild_skip_marks = refl;
      wild_skip = refl;
      wild_ones = refl;
      h_own = refl;
      h_read = refl;
      again_own = refl;
      again_read = refl;
      again_step = refl;
      wide_wild_index = refl;
      wide_wild_marks = refl;
      skip_wild_1 = refl;
      skip_wild_8 = refl;
      skip_wild_4 = refl;
      skip_wild_finds = refl;
      skip_wild_run = refl;
      all_wild = refl;
    }
