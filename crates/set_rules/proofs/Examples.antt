-- The small papers for a set hold: each computes.
-- Assumes nothing.
use mathlib.Core.Path.{refl}
use Rattle.bits.specs.Packed.{bit_at}
use Rattle.rules.specs.Ranges.{every, among}
use Rattle.rules.specs.Pattern.{is_fixed, agrees}
use Rattle.rules.specs.Occurrence.{matches, occurs}
use Rattle.rules.specs.Plain.{from_bits, in_row, fixed_in_row, row_bit, mask_bit, row_byte, row_mask, row_fits, plain_finds}
use Rattle.rules.specs.Step.{finds, ahead, next}
use Rattle.rules.specs.Machine.{stopped, cut, after, run}
use Rattle.search.specs.Verdict.{judge}
use Rattle.set_rules.specs.PatternSet.{start_of, largest, set_places}
use Rattle.set_rules.specs.Hits.{standing, hits_at, hits_of, all_hits, cells_of}
use Rattle.set_rules.specs.SetMachine.{halted, no_room, onward, set_run}
use Rattle.set_rules.specs.Verdict.{rows_from, rows, machine, verdict}
use Rattle.set_rules.specs.Examples.{Examples}

pub examples : Examples
unfolding bit_at every among is_fixed agrees matches occurs from_bits in_row fixed_in_row row_bit mask_bit row_byte row_mask row_fits plain_finds finds ahead next stopped cut after run judge start_of largest set_places standing hits_at hits_of all_hits cells_of halted no_room onward set_run rows_from rows machine verdict
examples =
    record {
      starts = refl;
      second = refl;
      each_e = refl;
      largest_e = refl;
      agrees_past = refl;
      none_past = refl;
      together = refl;
      wild = refl;
      all = refl;
      other_order = refl;
      equal = refl;
      whole = refl;
      none_written = refl;
      full_later = refl;
      cells_stay = refl;
      no_cell = refl;
      odd_cell = refl;
      odd_stays = refl;
      budget_1 = refl;
      budget_0 = refl;
      budget_last = refl;
      one_set = refl;
      one_plain = refl;
      no_18 = refl;
      no_18_many = refl;
      from_64 = refl;
      no_2_first = refl;
      no_1_first = refl;
      no_4_turn = refl;
      no_17_turn = refl;
      no_17_first = refl;
      no_3 = refl;
      no_3_long = refl;
      no_4 = refl;
      no_17 = refl;
      no_6 = refl;
      at_e = refl;
    }
