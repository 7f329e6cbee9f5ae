-- The starred rows of "Papers from the course", in document 01's order, and after them the rows of the changes (the tail method, a
-- sitting, the cut step, the scratch, wild bits), as one claim about the definitions. The texts and patterns are those of
-- rules/specs/Papers.antt.
use Rattle.std.specs.Prelude.{◌≡◌, [], ◌∷◌, true, false}
use Rattle.std.proofs.Math.Option.{some}
use Rattle.rules.specs.declared.Method.TheVariants.{Plain, Hash, Skip, Wide, Tail}
use Rattle.rules.specs.Hash.{hash_of, hash_again}
use Rattle.rules.specs.Skip.{shows, skip_finds}
use Rattle.rules.specs.Wide.{last_index}
use Rattle.rules.specs.Tail.{tail_length}
use Rattle.rules.specs.Scratch.{scratch_cells}
use Rattle.rules.specs.Machine.{done, spent, full, run}
use Rattle.rules.specs.Papers.{R1, V1, R2, V2, V1Wild, V1WildOnes, V2Wild, wild3, wild_one, skip_pattern, skip_text, empty, ones5, one, ones3, zeros200, tail_text, tail_pattern, all_occurrences, whole_run, marks}
use Rattle.positions.specs.Basics.{ok}
use Rattle.positions.specs.Encode.{encode}
use Rattle.positions.specs.Decode.{decode}
use Rattle.marking.specs.Sitting.{marked, verdict, all_marks, totals_of}

pub record Papers : Type 0 where
  -- "R1, V1: hit 11 only. R2, V2: 0, 6, 12."
  pub r1_v1 : all_occurrences R1 V1 ≡ 11 ∷ []
  pub r2_v2 : all_occurrences R2 V2 ≡ 0 ∷ 6 ∷ 12 ∷ []
  -- "V2: H(01100101) = 2, H(11001011) = 1, H(10010110) = 0; H(11111111) = 19, H(00000000) = 21."
  pub h_01100101 : hash_of V2 0b01100101 ≡ 2
  pub h_11001011 : hash_of V2 0b11001011 ≡ 1
  pub h_10010110 : hash_of V2 0b10010110 ≡ 0
  pub h_11111111 : hash_of V2 0b11111111 ≡ 19
  pub h_00000000 : hash_of V2 0b00000000 ≡ 21
  -- "Hash, R1, V1: marks 0, 7, 11, 17, 26, 27." The last one is E, and five steps are all
  pub hash_marks : marks Hash R1 V1 5 ≡ 0 ∷ 7 ∷ 11 ∷ 17 ∷ 26 ∷ 27 ∷ []
  pub hash_run : whole_run Hash R1 V1 1000 ≡ record { steps = 5; written = 11 ∷ []; mark = 27; ending = done }
  -- "Skip, R2, V2: marks 0, 9, 13."
  pub skip_marks : marks Skip R2 V2 2 ≡ 0 ∷ 9 ∷ 13 ∷ []
  pub skip_run : whole_run Skip R2 V2 1000 ≡ record { steps = 2; written = 0 ∷ 6 ∷ 12 ∷ []; mark = 13; ending = done }
  -- "R2, V2, one cell: place 0 written, full at 6"; and document 02: "In 01's one-cell paper the steps become plain 6, hash
  -- 1, wide 0."
  pub one_cell_plain : whole_run Plain R2 V2 1 ≡ record { steps = 6; written = 0 ∷ []; mark = 6; ending = full 6 }
  pub one_cell_hash : whole_run Hash R2 V2 1 ≡ record { steps = 1; written = 0 ∷ []; mark = 6; ending = full 6 }
  pub one_cell_wide : whole_run Wide R2 V2 1 ≡ record { steps = 0; written = 0 ∷ []; mark = 6; ending = full 6 }
  -- "n = 0, word 1: done, no step. Word 111 in 11111: 0, 1, 2."
  pub empty_plain : whole_run Plain empty one 1000 ≡ record { steps = 0; written = []; mark = 0; ending = done }
  pub empty_wide : whole_run Wide empty one 1000 ≡ record { steps = 0; written = []; mark = 0; ending = done }
  pub overlapping : all_occurrences ones5 ones3 ≡ 0 ∷ 1 ∷ 2 ∷ []
  -- "200 zero bits, word 1, wide: marks 0, 65, 130, 195, 200."
  pub wide_marks : marks Wide zeros200 one 4 ≡ 0 ∷ 65 ∷ 130 ∷ 195 ∷ 200 ∷ []
  pub wide_run : whole_run Wide zeros200 one 1000 ≡ record { steps = 4; written = []; mark = 200; ending = done }
  -- "List 0, 6, 12 is 03 00 05 05; 300 is 01 AC 02; the empty list is 00." Each way, with a cell for each position
  pub list_three : encode (0 ∷ 6 ∷ 12 ∷ []) ≡ 0x03 ∷ 0x00 ∷ 0x05 ∷ 0x05 ∷ []
  pub list_300 : encode (300 ∷ []) ≡ 0x01 ∷ 0xAC ∷ 0x02 ∷ []
  pub list_empty : encode [] ≡ 0x00 ∷ []
  pub list_three_back : decode (0x03 ∷ 0x00 ∷ 0x05 ∷ 0x05 ∷ []) 3 ≡ ok (0 ∷ 6 ∷ 12 ∷ [])
  pub list_300_back : decode (0x01 ∷ 0xAC ∷ 0x02 ∷ []) 1 ≡ ok (300 ∷ [])
  pub list_empty_back : decode (0x00 ∷ []) 0 ≡ ok []
  -- Tail: V1 in R1; V2 in R2 with cells for all and with one; 111 in 11111. The marks are those before and after each step.
  pub tail_marks_1 : marks Tail R1 V1 5 ≡ 0 ∷ 7 ∷ 11 ∷ 17 ∷ 26 ∷ 27 ∷ []
  pub tail_run_1 : whole_run Tail R1 V1 1000 ≡ record { steps = 5; written = 11 ∷ []; mark = 27; ending = done }
  pub tail_marks_2 : marks Tail R2 V2 3 ≡ 0 ∷ 6 ∷ 12 ∷ 13 ∷ []
  pub tail_run_2 : whole_run Tail R2 V2 1000 ≡ record { steps = 3; written = 0 ∷ 6 ∷ 12 ∷ []; mark = 13; ending = done }
  pub one_cell_tail : whole_run Tail R2 V2 1 ≡ record { steps = 1; written = 0 ∷ []; mark = 6; ending = full 6 }
  pub tail_marks_ones : marks Tail ones5 ones3 3 ≡ 0 ∷ 1 ∷ 2 ∷ 3 ∷ []
  pub tail_run_ones : whole_run Tail ones5 ones3 1000 ≡ record { steps = 3; written = 0 ∷ 1 ∷ 2 ∷ []; mark = 3; ending = done }
  -- and a window that is no occurrence: its r is the length of a prefix that does not end the pattern itself (whose own r is 0)
  pub tail_prefix : tail_length tail_text tail_pattern 0 ≡ some 3
  pub tail_border : tail_length tail_text tail_pattern 4 ≡ some 0
  pub tail_marks_3 : marks Tail tail_text tail_pattern 3 ≡ 0 ∷ 1 ∷ 4 ∷ 5 ∷ []
  pub tail_run_3 : whole_run Tail tail_text tail_pattern 1000 ≡ record { steps = 3; written = 4 ∷ []; mark = 5; ending = done }
  -- Marking: the key of R2 and V2, and three sheets: the key itself; one place wrong; nothing. A sheet may begin below the end of the one
  -- before it.
  pub sitting : verdict (all_occurrences R2 V2) (0 ∷ 6 ∷ 12 ∷ 0 ∷ 7 ∷ 12 ∷ []) (3 ∷ 3 ∷ 0 ∷ []) 9
      ≡ marked
      (record { right = 3; missed = 0; false_positives = 0 }
      ∷ record { right = 2; missed = 1; false_positives = 1 }
      ∷ record { right = 0; missed = 3; false_positives = 0 }
      ∷ [])
  pub sitting_totals : totals_of (all_marks (all_occurrences R2 V2) (0 ∷ 6 ∷ 12 ∷ 0 ∷ 7 ∷ 12 ∷ []) (3 ∷ 3 ∷ 0 ∷ [])) ≡ record { right = 5; missed = 4; false_positives = 1 }
  -- The cut step: skip in one cell; the calls that go on from 6 and from 12, whose steps count as usual
  pub one_cell_skip : whole_run Skip R2 V2 1 ≡ record { steps = 0; written = 0 ∷ []; mark = 6; ending = full 6 }
  pub next_call_plain : run Plain R2 V2 1000 6 1 ≡ record { steps = 6; written = 6 ∷ []; mark = 12; ending = full 12 }
  pub next_call_hash : run Hash R2 V2 1000 6 1 ≡ record { steps = 1; written = 6 ∷ []; mark = 12; ending = full 12 }
  pub next_call_skip : run Skip R2 V2 1000 6 2 ≡ record { steps = 1; written = 6 ∷ 12 ∷ []; mark = 13; ending = done }
  pub next_call_wide : run Wide R2 V2 1000 6 2 ≡ record { steps = 1; written = 6 ∷ 12 ∷ []; mark = 13; ending = done }
  pub last_call_tail : run Tail R2 V2 1000 12 1 ≡ record { steps = 1; written = 12 ∷ []; mark = 13; ending = done }
  -- It is tried only while fewer steps than the budget are made, and it uses up none of them: with a budget of 6 plain does
  -- not come to it, with 7 it does; and in wide a budget of 1 is not spent
  pub cut_not_tried : run Plain R2 V2 6 0 1 ≡ record { steps = 6; written = 0 ∷ []; mark = 6; ending = spent }
  pub cut_tried : run Plain R2 V2 7 0 1 ≡ record { steps = 6; written = 0 ∷ []; mark = 6; ending = full 6 }
  pub cut_not_spent : run Wide R2 V2 1 0 1 ≡ record { steps = 0; written = 0 ∷ []; mark = 6; ending = full 6 }
  -- and with no cell at all, and an occurrence at the mark, the call stops where it began
  pub no_cell_plain : whole_run Plain R2 V2 0 ≡ record { steps = 0; written = []; mark = 0; ending = full 0 }
  pub no_cell_hash : whole_run Hash R2 V2 0 ≡ record { steps = 0; written = []; mark = 0; ending = full 0 }
  -- The scratch: each method's figure for the shortest and the longest pattern that it takes. Plain's goes by the bytes of its
  -- longest row, m + 7 bits, and not by those of the pattern: 2 bits take 32 cells, and 10 bits 48
  pub cells_plain_1 : scratch_cells Plain 1 ≡ 16
  pub cells_plain_2 : scratch_cells Plain 2 ≡ 32
  pub cells_plain_9 : scratch_cells Plain 9 ≡ 32
  pub cells_plain_10 : scratch_cells Plain 10 ≡ 48
  pub cells_plain_2048 : scratch_cells Plain 2048 ≡ 4112
  pub cells_hash_8 : scratch_cells Hash 8 ≡ 512
  pub cells_hash_2048 : scratch_cells Hash 2048 ≡ 512
  pub cells_skip_15 : scratch_cells Skip 15 ≡ 271
  pub cells_skip_2048 : scratch_cells Skip 2048 ≡ 2304
  pub cells_wide_1 : scratch_cells Wide 1 ≡ 128
  pub cells_wide_2048 : scratch_cells Wide 2048 ≡ 4222
  pub cells_tail_1 : scratch_cells Tail 1 ≡ 2
  pub cells_tail_64 : scratch_cells Tail 64 ≡ 2
  -- Wild bits: V1 in R1 by plain and wide, whose runs are in search/specs/Examples.antt; then V1 with a field of four bits wild,
  -- which occurs at 17 and 22 too. Skip takes neither, and its refusals are there as well; its row here is V2 with
  -- every third bit wild, which occurs in R2 at 3 and 9 too
  pub plain_marks : marks Plain R1 V1 3 ≡ 0 ∷ 1 ∷ 2 ∷ 3 ∷ []
  pub wide_marks_1 : marks Wide R1 V1 1 ≡ 0 ∷ 27 ∷ []
  pub wild_all : all_occurrences R1 V1Wild ≡ 11 ∷ 17 ∷ 22 ∷ []
  pub wild_plain_marks : marks Plain R1 V1Wild 3 ≡ 0 ∷ 1 ∷ 2 ∷ 3 ∷ []
  pub wild_plain : whole_run Plain R1 V1Wild 1000 ≡ record { steps = 27; written = 11 ∷ 17 ∷ 22 ∷ []; mark = 27; ending = done }
  pub wild_hash_marks : marks Hash R1 V1Wild 7 ≡ 0 ∷ 1 ∷ 4 ∷ 7 ∷ 11 ∷ 17 ∷ 22 ∷ 27 ∷ []
  pub wild_hash : whole_run Hash R1 V1Wild 1000 ≡ record { steps = 7; written = 11 ∷ 17 ∷ 22 ∷ []; mark = 27; ending = done }
  pub wild_wide_marks : marks Wide R1 V1Wild 1 ≡ 0 ∷ 27 ∷ []
  pub wild_wide : whole_run Wide R1 V1Wild 1000 ≡ record { steps = 1; written = 11 ∷ 17 ∷ 22 ∷ []; mark = 27; ending = done }
  pub wild_tail_marks : marks Tail R1 V1Wild 6 ≡ 0 ∷ 4 ∷ 7 ∷ 11 ∷ 17 ∷ 22 ∷ 27 ∷ []
  pub wild_tail : whole_run Tail R1 V1Wild 1000 ≡ record { steps = 6; written = 11 ∷ 17 ∷ 22 ∷ []; mark = 27; ending = done }
  pub wild_skip_marks : marks Skip R2 V2Wild 2 ≡ 0 ∷ 9 ∷ 13 ∷ []
  pub wild_skip : whole_run Skip R2 V2Wild 1000 ≡ record { steps = 2; written = 0 ∷ 3 ∷ 6 ∷ 9 ∷ 12 ∷ []; mark = 13; ending = done }
  -- what the first run has at wild bits never matters, nor what either has from bit m on
  pub wild_ones : whole_run Hash R1 V1WildOnes 1000 ≡ whole_run Hash R1 V1Wild 1000
  -- V1's own last eight bits are 00110100. 00101000 agrees with the wild pattern's last eight too: H is 0 for both, and the move
  -- after it goes by the value just read, 5 and not 6. From mark 17 it leads to 22; a move by 6 would pass the occurrence there
  pub h_own : hash_of V1Wild 0b00110100 ≡ 0
  pub h_read : hash_of V1Wild 0b00101000 ≡ 0
  pub again_own : hash_again V1Wild 0b00110100 ≡ 6
  pub again_read : hash_again V1Wild 0b00101000 ≡ 5
  pub again_step : run Hash R1 V1Wild 1 17 1000 ≡ record { steps = 1; written = 17 ∷ []; mark = 22; ending = spent }
  -- A wide move that a wild bit decides: ?1 has no 0, and the greatest index that agrees with a 0 is the wild bit's
  pub wide_wild_index : last_index wild_one 0 ≡ some 0
  pub wide_wild_marks : marks Wide zeros200 wild_one 4 ≡ 0 ∷ 65 ∷ 130 ∷ 195 ∷ 199 ∷ []
  -- A byte that two indices show through one wild bit: the places 1 and 8 of one step, and no place between them
  pub skip_wild_1 : shows skip_text skip_pattern 1 1 ≡ true
  pub skip_wild_8 : shows skip_text skip_pattern 1 8 ≡ true
  pub skip_wild_4 : shows skip_text skip_pattern 1 4 ≡ false
  pub skip_wild_finds : skip_finds skip_text skip_pattern 0 ≡ 1 ∷ 8 ∷ []
  pub skip_wild_run : whole_run Skip skip_text skip_pattern 1000 ≡ record { steps = 1; written = 1 ∷ 8 ∷ []; mark = 9; ending = done }
  -- A pattern all of whose bits are wild occurs at every place
  pub all_wild : all_occurrences ones5 wild3 ≡ 0 ∷ 1 ∷ 2 ∷ []
