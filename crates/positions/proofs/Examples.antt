-- The examples of the table of refusals that belong to the position list file, edges of the format, and what stands in the buffers: one
-- collection, about the definitions to which writer and reader are equated. The starred row of the file is in the crate `papers`.
use Prim.Native.Nat.{◌^◌, ◌-◌}
use mathlib.Core.Path.{◌≡◌, refl}
use mathlib.Core.List.{[], ◌∷◌}
use Rattle.positions.specs.Basics.{ok, fault}
use Rattle.positions.specs.Rising.{rising, rises_from}
use Rattle.positions.specs.Encode.{encode, encode_from, encode_number, groups}
use Rattle.positions.specs.Decode.{decode, contents, whole, read_body, read_position, read_number, read_groups, last_group}
use Rattle.positions.specs.Promise.{write_answer, count, refused, leaves, read_cells}

-- Document 01, "When the panel says no", rows 8 to 14; rows 10 to 13 with one cell
pub record Refusals : Type 0 where
  pub no8 : write_answer (6 ∷ 6 ∷ []) 2 ≡ refused 8
  pub no9 : write_answer (300 ∷ []) 2 ≡ refused 9
  pub no10 : decode (0x01 ∷ []) 1 ≡ fault 10
  pub no11 : decode (0x01 ∷ 0x80 ∷ 0x00 ∷ []) 1 ≡ fault 11
  pub no12 : decode (0x01 ∷ 0x80 ∷ 0x80 ∷ 0x80 ∷ 0x80 ∷ 0x04 ∷ []) 1 ≡ fault 12
  pub no13 : decode (0x00 ∷ 0x00 ∷ []) 1 ≡ fault 13
  pub no14 : decode (0x01 ∷ 0x05 ∷ []) 0 ≡ fault 14

pub refusals : Refusals
unfolding write_answer rising rises_from encode encode_from encode_number groups decode contents whole read_body read_position read_number read_groups last_group
refusals = record { no8 = refl; no9 = refl; no10 = refl; no11 = refl; no12 = refl; no13 = refl; no14 = refl }

-- edges: the largest position and one more, five groups, the largest count, an empty file
pub record Edges : Type 0 where
  pub largest : encode ((2 ^ 30 - 1) ∷ []) ≡ 0x01 ∷ 0xFF ∷ 0xFF ∷ 0xFF ∷ 0xFF ∷ 0x03 ∷ []
  pub largest_back : decode (0x01 ∷ 0xFF ∷ 0xFF ∷ 0xFF ∷ 0xFF ∷ 0x03 ∷ []) 1 ≡ ok ((2 ^ 30 - 1) ∷ [])
  pub largest_taken : write_answer ((2 ^ 30 - 1) ∷ []) 6 ≡ count 6
  pub too_large : write_answer ((2 ^ 30) ∷ []) 6 ≡ refused 8
  pub both : write_answer (6 ∷ 6 ∷ []) 0 ≡ refused 8
  pub by_distance : decode (0x02 ∷ 0xFF ∷ 0xFF ∷ 0xFF ∷ 0xFF ∷ 0x03 ∷ 0x00 ∷ []) 2 ≡ fault 12
  pub above : decode (0x81 ∷ 0x80 ∷ 0x80 ∷ 0x80 ∷ 0x04 ∷ []) 1 ≡ fault 12
  pub largest_count : decode (0x80 ∷ 0x80 ∷ 0x80 ∷ 0x80 ∷ 0x04 ∷ []) 1 ≡ fault 10
  pub largest_count_cells : decode (0x80 ∷ 0x80 ∷ 0x80 ∷ 0x80 ∷ 0x04 ∷ []) (2 ^ 30) ≡ fault 10
  pub zero_fifth : decode (0x80 ∷ 0x80 ∷ 0x80 ∷ 0x80 ∷ 0x00 ∷ []) 1 ≡ fault 11
  pub no_fifth : decode (0x80 ∷ 0x80 ∷ 0x80 ∷ 0x80 ∷ []) 1 ≡ fault 10
  pub sixth : decode (0x80 ∷ 0x80 ∷ 0x80 ∷ 0x80 ∷ 0x80 ∷ []) 1 ≡ fault 12
  pub empty : decode [] 1 ≡ fault 10
  pub left_over : decode (0x03 ∷ 0x00 ∷ 0x05 ∷ 0x05 ∷ 0x00 ∷ []) 3 ≡ fault 13

pub edges : Edges
unfolding write_answer rising rises_from encode encode_from encode_number groups decode contents whole read_body read_position read_number read_groups last_group
edges =
    record {
      largest = refl;
      largest_back = refl;
      largest_taken = refl;
      too_large = refl;
      both = refl;
      by_distance = refl;
      above = refl;
      largest_count = refl;
      largest_count_cells = refl;
      zero_fifth = refl;
      no_fifth = refl;
      sixth = refl;
      empty = refl;
      left_over = refl;
    }

-- Document 02, A6: files with fewer cells than the count "that also end early (now 10), hold a long number (11), a large number or
-- position (12) or leftover bytes (13)", with no cell or with one, and a sound file. A reading that is cut short at the cells gives 13
-- for all of them with no cell.
pub record FewCells : Type 0 where
  pub early : decode (0x02 ∷ 0x05 ∷ []) 0 ≡ fault 10
  pub early_one : decode (0x02 ∷ 0x05 ∷ []) 1 ≡ fault 10
  pub claimed : decode (0x80 ∷ 0x80 ∷ 0x80 ∷ 0x80 ∷ 0x04 ∷ 0x00 ∷ []) 0 ≡ fault 10
  pub long : decode (0x02 ∷ 0x05 ∷ 0x80 ∷ 0x00 ∷ []) 0 ≡ fault 11
  pub long_one : decode (0x02 ∷ 0x05 ∷ 0x80 ∷ 0x00 ∷ []) 1 ≡ fault 11
  pub large_number : decode (0x02 ∷ 0x05 ∷ 0x81 ∷ 0x80 ∷ 0x80 ∷ 0x80 ∷ 0x04 ∷ []) 1 ≡ fault 12
  pub large_position : decode (0x02 ∷ 0xFF ∷ 0xFF ∷ 0xFF ∷ 0xFF ∷ 0x03 ∷ 0x00 ∷ []) 1 ≡ fault 12
  pub left_over : decode (0x02 ∷ 0x05 ∷ 0x05 ∷ 0x00 ∷ []) 0 ≡ fault 13
  pub left_over_one : decode (0x02 ∷ 0x05 ∷ 0x05 ∷ 0x00 ∷ []) 1 ≡ fault 13
  pub sound : decode (0x02 ∷ 0x05 ∷ 0x05 ∷ []) 0 ≡ fault 14
  pub sound_one : decode (0x02 ∷ 0x05 ∷ 0x05 ∷ []) 1 ≡ fault 14
  pub sound_two : decode (0x02 ∷ 0x05 ∷ 0x05 ∷ []) 2 ≡ ok (5 ∷ 11 ∷ [])

pub few_cells : FewCells
unfolding decode contents whole read_body read_position read_number read_groups last_group
few_cells =
    record {
      early = refl;
      early_one = refl;
      claimed = refl;
      long = refl;
      long_one = refl;
      large_number = refl;
      large_position = refl;
      left_over = refl;
      left_over_one = refl;
      sound = refl;
      sound_one = refl;
      sound_two = refl;
    }

-- what stands in the buffers: a target and cells that already hold something
pub record Buffers : Type 0 where
  pub written : leaves (write_answer (300 ∷ []) 5) (encode (300 ∷ [])) (1 ∷ 2 ∷ 3 ∷ 4 ∷ 5 ∷ []) ≡ 0x01 ∷ 0xAC ∷ 0x02 ∷ 4 ∷ 5 ∷ []
  pub not_written : leaves (write_answer (300 ∷ []) 2) (encode (300 ∷ [])) (1 ∷ 2 ∷ []) ≡ 1 ∷ 2 ∷ []
  pub read : read_cells (decode (0x02 ∷ 0x00 ∷ 0x05 ∷ []) 4) (7 ∷ 7 ∷ 7 ∷ 7 ∷ []) ≡ 0 ∷ 6 ∷ 7 ∷ 7 ∷ []
  pub not_read : read_cells (decode (0x02 ∷ 0x00 ∷ []) 4) (7 ∷ 7 ∷ 7 ∷ 7 ∷ []) ≡ 7 ∷ 7 ∷ 7 ∷ 7 ∷ []
  pub not_read_few : read_cells (decode (0x02 ∷ 0x00 ∷ 0x05 ∷ []) 1) (7 ∷ []) ≡ 7 ∷ []

pub buffers : Buffers
unfolding write_answer leaves read_cells rising rises_from encode encode_from encode_number groups decode contents whole read_body read_position read_number read_groups last_group
buffers = record { written = refl; not_written = refl; read = refl; not_read = refl; not_read_few = refl }

-- the whole collection
pub record All : Type 0 where
  pub of_refusals : Refusals
  pub of_edges : Edges
  pub of_few_cells : FewCells
  pub of_buffers : Buffers

pub all : All
all = record { of_refusals = refusals; of_edges = edges; of_few_cells = few_cells; of_buffers = buffers }
