-- The small examples of the table of refusals ("When the panel says no"), what it names as accepted, the program's
-- example, and a flag past the last place.
use Rattle.std.specs.Prelude.{ℕ, ◌-◌, ◌^◌, ◌≤◌, ◌≡◌, true, List, [], ◌∷◌, length, replicate}
use Rattle.bits.specs.Packed.{Packed, bytes_for}
use Rattle.rules.specs.declared.Method.{Method}
use Rattle.rules.specs.declared.Method.TheVariants.{Plain, Hash, Skip, Wide, Tail}
use Rattle.rules.specs.Pattern.{Pattern}
use Rattle.rules.specs.Wide.{stands}
use Rattle.rules.specs.Scratch.{most_cells}
use Rattle.rules.specs.Machine.{done}
use Rattle.search.specs.Verdict.{Request, refused, accepted, machine, verdict, hash_verdict, scratch_verdict}
use Rattle.rules.specs.Papers.{R1, V1, R2, V2, V1Wild, ones5, ones3, whole_run}

-- a request with a mark and so many cells of scratch
abbrev pub ask : Method → Packed → Pattern → ℕ → ℕ → Request
ask x t w s cells =
    record {
      text = t;
      pattern = w;
      method = x;
      mark = s;
      budget = 2 ^ 32 - 1;
      list = replicate 40 0;
      scratch = replicate cells 0;
    }

-- so many bits in so many bytes
abbrev pub text : ℕ → ℕ → Packed
text n bytes = record { bytes = replicate bytes 0; count = n }

-- so many bits in so many bytes as a pattern, and so many bytes of ones as its second run
abbrev pub fixed_for : ℕ → ℕ → ℕ → Pattern
fixed_for m bytes more = record { bytes = replicate bytes 0; fixed = replicate more 255; count = m }

-- a pattern of so many bits in so many bytes, each bit fixed
abbrev pub pattern : ℕ → ℕ → Pattern
pattern m bytes = fixed_for m bytes (bytes_for m)

-- 2^30 bits of any bytes
abbrev pub long : List ℕ → Packed
long bytes = record { bytes = bytes; count = 2 ^ 30 }

pub record Examples : Type 0 where
  pub no_1 : verdict (ask Plain (text 1073741825 1) V1 0 most_cells) ≡ refused 1
  pub no_2 : verdict (ask Plain (text 9 1) V1 0 most_cells) ≡ refused 2
  pub no_3 : verdict (ask Plain R1 (pattern 0 1) 0 most_cells) ≡ refused 3
  pub no_3_long : verdict (ask Plain R1 (pattern 2049 257) 0 most_cells) ≡ refused 3
  pub no_4 : verdict (ask Plain R1 (pattern 9 1) 0 most_cells) ≡ refused 4
  pub no_5 : verdict (ask Hash R1 (pattern 7 1) 0 most_cells) ≡ refused 5
  pub no_5_skip : verdict (ask Skip R1 (pattern 14 2) 0 most_cells) ≡ refused 5
  -- tail "takes words of at most 64 bits; a longer one gets 5", before 6 and 7 and after 4
  pub no_5_tail : verdict (ask Tail R1 (pattern 65 9) 0 most_cells) ≡ refused 5
  pub no_4_tail : verdict (ask Tail R1 (pattern 65 8) 0 most_cells) ≡ refused 4
  pub from_5_tail : verdict (ask Tail R1 (pattern 65 9) 1 0) ≡ refused 5
  pub no_6 : verdict (ask Plain R1 V1 28 most_cells) ≡ refused 6
  -- "Number 7 is given below those figures": of each method the figure is accepted, and a cell less is not. For V1, m = 10, plain
  -- takes 16 × ceil(17/8) cells, where a careless ceil(10/8) would make do with 32; for V2, m = 21, skip takes 277
  pub plain_48 : verdict (ask Plain R1 V1 0 48) ≡ accepted (machine (ask Plain R1 V1 0 48))
  pub no_7 : verdict (ask Plain R1 V1 0 47) ≡ refused 7
  pub no_7_careless : verdict (ask Plain R1 V1 0 32) ≡ refused 7
  pub hash_512 : verdict (ask Hash R1 V1 0 512) ≡ accepted (machine (ask Hash R1 V1 0 512))
  pub no_7_hash : verdict (ask Hash R1 V1 0 511) ≡ refused 7
  pub skip_277 : verdict (ask Skip R2 V2 0 277) ≡ accepted (machine (ask Skip R2 V2 0 277))
  pub no_7_skip : verdict (ask Skip R2 V2 0 276) ≡ refused 7
  pub wide_146 : verdict (ask Wide R1 V1 0 146) ≡ accepted (machine (ask Wide R1 V1 0 146))
  pub no_7_wide : verdict (ask Wide R1 V1 0 145) ≡ refused 7
  pub tail_2 : verdict (ask Tail R1 V1 0 2) ≡ accepted (machine (ask Tail R1 V1 0 2))
  pub no_7_tail : verdict (ask Tail R1 V1 0 1) ≡ refused 7
  -- where several conditions hold the first one is given
  pub all_hold : verdict (ask Hash (text 1073741825 1) (pattern 0 0) 1 0) ≡ refused 1
  pub from_5 : verdict (ask Hash R1 (pattern 7 1) 31 0) ≡ refused 5
  -- "Refused: 17, right after 4": after 4, and before 5, 6 and 7
  pub no_17 : verdict (ask Plain R1 (fixed_for 9 2 1) 0 most_cells) ≡ refused 17
  pub no_17_empty : verdict (ask Plain R1 (fixed_for 1 1 0) 0 most_cells) ≡ refused 17
  pub no_4_first : verdict (ask Plain R1 (fixed_for 9 1 1) 0 most_cells) ≡ refused 4
  pub from_17 : verdict (ask Hash R1 (fixed_for 7 1 0) 31 0) ≡ refused 17
  pub fixed_enough : verdict (ask Plain R1 (fixed_for 9 2 2) 0 most_cells) ≡ accepted (machine (ask Plain R1 (fixed_for 9 2 2) 0 most_cells))
  pub from_6 : verdict (ask Wide R1 V1 28 0) ≡ refused 6
  -- "Accepted: n = 2^30, m = 2,048, hash with m = 8, skip with m = 15, mark = E."
  pub long_text : (bytes : List ℕ) → 2 ^ 27 ≤ length bytes → verdict (ask Plain (long bytes) V1 0 most_cells) ≡ accepted (machine (ask Plain (long bytes) V1 0 most_cells))
  pub long_pattern : verdict (ask Plain R1 (pattern 2048 256) 0 most_cells) ≡ accepted (machine (ask Plain R1 (pattern 2048 256) 0 most_cells))
  pub hash_8 : verdict (ask Hash R1 (pattern 8 1) 0 most_cells) ≡ accepted (machine (ask Hash R1 (pattern 8 1) 0 most_cells))
  pub skip_15 : verdict (ask Skip R1 (pattern 15 2) 0 most_cells) ≡ accepted (machine (ask Skip R1 (pattern 15 2) 0 most_cells))
  pub tail_64 : verdict (ask Tail R1 (pattern 64 8) 0 most_cells) ≡ accepted (machine (ask Tail R1 (pattern 64 8) 0 most_cells))
  pub tail_1 : verdict (ask Tail R1 (pattern 1 1) 0 most_cells) ≡ accepted (machine (ask Tail R1 (pattern 1 1) 0 most_cells))
  pub at_end : verdict (ask Plain R1 V1 27 most_cells) ≡ accepted (machine (ask Plain R1 V1 27 most_cells))
  -- what `hits` prints for V1 and R1: "plain 27 1 11", "hash 5 1 11", "skip refused 5", "wide 1 1 11"; and "tail 5 1 11"
  pub prints_plain : whole_run Plain R1 V1 40 ≡ record { steps = 27; written = 11 ∷ []; mark = 27; ending = done }
  pub prints_hash : whole_run Hash R1 V1 40 ≡ record { steps = 5; written = 11 ∷ []; mark = 27; ending = done }
  pub prints_skip : verdict (ask Skip R1 V1 0 most_cells) ≡ refused 5
  pub prints_wide : whole_run Wide R1 V1 40 ≡ record { steps = 1; written = 11 ∷ []; mark = 27; ending = done }
  pub prints_tail : whole_run Tail R1 V1 40 ≡ record { steps = 5; written = 11 ∷ []; mark = 27; ending = done }
  -- "Bits from n on never matter": the flag of place 3 for 111 in 11111 stands by bits 3 and 4, though 3 is no place
  pub flag_past : stands ones5 ones3 0 3 ≡ true
  -- H(B) by itself
  pub h_value : hash_verdict V2 0b01100101 ≡ accepted 2
  pub h_3 : hash_verdict (pattern 0 1) 0 ≡ refused 3
  pub h_4 : hash_verdict (pattern 9 1) 0 ≡ refused 4
  pub h_5 : hash_verdict (pattern 7 1) 0 ≡ refused 5
  pub h_17 : hash_verdict (fixed_for 9 2 1) 0 ≡ refused 17
  pub h_4_first : hash_verdict (fixed_for 9 1 1) 0 ≡ refused 4
  pub h_17_first : hash_verdict (fixed_for 7 1 0) 0 ≡ refused 17
  -- with a field of V1 wild its other occurrences are found; skip refuses it as it does V1
  pub wild_line : verdict (ask Hash R1 V1Wild 0 512) ≡ accepted (record { steps = 7; written = 11 ∷ 17 ∷ 22 ∷ []; mark = 27; ending = done })
  pub wild_skip : verdict (ask Skip R1 V1Wild 0 most_cells) ≡ refused 5
  -- the figure by itself: 3 comes before 5
  pub cells_value : scratch_verdict Skip 21 ≡ accepted 277
  pub cells_3 : scratch_verdict Hash 0 ≡ refused 3
  pub cells_3_long : scratch_verdict Tail 2049 ≡ refused 3
  pub cells_5 : scratch_verdict Hash 7 ≡ refused 5
  pub cells_5_skip : scratch_verdict Skip 14 ≡ refused 5
  pub cells_5_tail : scratch_verdict Tail 65 ≡ refused 5
