-- The small examples of the refusals and of the program hold: each computes, but for the one about any 2^30 bits.
-- Assumes nothing.
use mathlib.Core.Path.{◌≡◌, refl}
use mathlib.Core.List.{List}
use Prim.Native.Nat.{ℕ, ◌^◌, ◌≤◌}
use borrow.Author.Tests.{le-ltb}
use lib.ListN.{length}
use Rattle.rules.specs.declared.Method.TheVariants.{Plain}
use Rattle.rules.specs.Papers.{V1}
use Rattle.bits.specs.Packed.{bit_at, bits_at}
use Rattle.rules.specs.Ranges.{every, among, least, greatest}
use Rattle.rules.specs.Pattern.{is_fixed, agrees}
use Rattle.rules.specs.Occurrence.{matches, occurs, occurrences}
use Rattle.rules.specs.Plain.{from_bits, in_row, fixed_in_row, row_bit, mask_bit, row_byte, row_mask, row_fits, plain_finds}
use Rattle.rules.specs.Hash.{meets, hash_of, hash_again, last_eight, hash_finds, hash_next}
use Rattle.rules.specs.Skip.{shows, shown_at, skip_finds}
use Rattle.rules.specs.Wide.{counts, stands, flagged, wide_finds, last_index, wide_next}
use Rattle.rules.specs.Tail.{prefix_ends, tail_length, tail_finds, tail_next}
use Rattle.rules.specs.Step.{finds, ahead, next}
use Rattle.rules.specs.Scratch.{most_cells}
use Rattle.rules.specs.Machine.{stopped, cut, after, run}
use Rattle.search.specs.Verdict.{rows, judge, accepted, machine, verdict, hash_verdict, scratch_verdict}
use Rattle.search.specs.Examples.{Examples, ask, long}
use Rattle.search.proofs.Verdict.{accepted_iff}

-- none of the rows applies to 2^30 bits, where their bytes are there
long_text : (bytes : List ℕ) → 2 ^ 27 ≤ length bytes → verdict (ask Plain (long bytes) V1 0 most_cells) ≡ accepted (machine (ask Plain (long bytes) V1 0 most_cells))
unfolding rows
long_text bytes h =
    (accepted_iff (ask Plain (long bytes) V1 0 most_cells)).1 (refl, (le-ltb (length bytes) (2 ^ 27) h, (refl, (refl, (refl, (refl, (refl, (refl, tt))))))))

pub examples : Examples
unfolding bit_at bits_at every among least greatest is_fixed agrees matches occurs occurrences from_bits in_row fixed_in_row row_bit mask_bit row_byte row_mask row_fits plain_finds meets hash_of hash_again last_eight hash_finds hash_next shows shown_at skip_finds counts stands flagged wide_finds last_index wide_next prefix_ends tail_length tail_finds tail_next finds ahead next stopped cut after run rows judge machine verdict hash_verdict scratch_verdict
examples =
    record {
      no_1 = refl;
      no_2 = refl;
      no_3 = refl;
      no_3_long = refl;
      no_4 = refl;
      no_5 = refl;
      no_5_skip = refl;
      no_5_tail = refl;
      no_4_tail = refl;
      from_5_tail = refl;
      no_6 = refl;
      plain_48 = refl;
      no_7 = refl;
      no_7_careless = refl;
      hash_512 = refl;
      no_7_hash = refl;
      skip_277 = refl;
      no_7_skip = refl;
      wide_146 = refl;
      no_7_wide = refl;
      tail_2 = refl;
      no_7_tail = refl;
      all_hold = refl;
      from_5 = refl;
      no_17 = refl;
      no_17_empty = refl;
      no_4_first = refl;
      from_17 = refl;
      fixed_enough = refl;
      h_17 = refl;
      h_4_first = refl;
      h_17_first = refl;
      wild_line = refl;
      wild_skip = refl;
      from_6 = refl;
      long_text = long_text;
      long_pattern = refl;
      hash_8 = refl;
      skip_15 = refl;
      tail_64 = refl;
      tail_1 = refl;
      at_end = refl;
      prints_plain = refl;
      prints_hash = refl;
      prints_skip = refl;
      prints_wide = refl;
      prints_tail = refl;
      flag_past = refl;
      h_value = refl;
      h_3 = refl;
      h_4 = refl;
      h_5 = refl;
      cells_value = refl;
      cells_3 = refl;
      cells_3_long = refl;
      cells_5 = refl;
      cells_5_skip = refl;
      cells_5_tail = refl;
    }
