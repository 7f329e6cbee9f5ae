-- Small papers for a set of patterns: what a careless reading of document 02 gets wrong, each by computation.
use Rattle.std.specs.Prelude.{ℕ, ◌+◌, ◌^◌, ◌≡◌, true, List, [], ◌∷◌, map, replicate}
use Rattle.bits.specs.Packed.{Packed}
use Rattle.rules.specs.declared.Method.TheVariants.{Plain}
use Rattle.rules.specs.Occurrence.{places, matches}
use Rattle.rules.specs.Machine.{done, spent, full, run}
use Rattle.search.specs.Verdict.{refused, accepted}
use Rattle.set_rules.specs.PatternSet.{PatternSet, start_of, pattern_at, set_places}
use Rattle.set_rules.specs.Hits.{Hit, hit_at, hits_at, all_hits}
use Rattle.set_rules.specs.Verdict.{Request, machine, verdict, list_after}

-- 14 bits, 10110111010101; the two bits past them in the last byte are 10
abbrev pub T : Packed
T = record { bytes = 0b10110111 ∷ 0b01010110 ∷ []; count = 14 }

-- 101, then 10110, of which the first is a prefix, then 1?1. Each begins on a byte of its own; the bits between them are ones in
-- both runs and never matter.
abbrev pub three : PatternSet
three =
    record {
      bytes = 0b10111111 ∷ 0b10110111 ∷ 0b10111111 ∷ [];
      fixed = 0b11111111 ∷ 0b11111111 ∷ 0b10111111 ∷ [];
      counts = 3 ∷ 5 ∷ 3 ∷ [];
    }

-- 101 twice
abbrev pub twins : PatternSet
twins = record { bytes = 0b10100000 ∷ 0b10100000 ∷ []; fixed = 0b11100000 ∷ 0b11100000 ∷ []; counts = 3 ∷ 3 ∷ [] }

-- the three in another order: 10110, 1?1, 101
abbrev pub rotated : PatternSet
rotated =
    record {
      bytes = 0b10110000 ∷ 0b11100000 ∷ 0b10100000 ∷ [];
      fixed = 0b11111000 ∷ 0b10100000 ∷ 0b11100000 ∷ [];
      counts = 5 ∷ 3 ∷ 3 ∷ [];
    }

-- 101 alone
abbrev pub alone : PatternSet
alone = record { bytes = 0b10100000 ∷ []; fixed = 0b11100000 ∷ []; counts = 3 ∷ [] }

-- patterns with these counts, and so many bytes in each of the two runs
abbrev pub sized : List ℕ → ℕ → ℕ → PatternSet
sized counts bytes fixed = record { bytes = replicate bytes 0; fixed = replicate fixed 255; counts = counts }

-- a call on a text from a mark with a budget and so many cells, each holding 9
abbrev pub ask : Packed → PatternSet → ℕ → ℕ → ℕ → Request
ask t ws s budget cells = record { text = t; patterns = ws; mark = s; budget = budget; list = replicate cells 9 }

-- all hits of the three in T
abbrev pub hits : List Hit
hits =
    hit_at 0 0
    ∷ hit_at 0 1
    ∷ hit_at 0 2
    ∷ hit_at 3 0
    ∷ hit_at 3 2
    ∷ hit_at 5 2
    ∷ hit_at 7 0
    ∷ hit_at 7 2
    ∷ hit_at 9 0
    ∷ hit_at 9 2
    ∷ hit_at 11 0
    ∷ hit_at 11 2
    ∷ []

pub record Examples : Type 0 where
  -- "each beginning on the byte after the one before": a pattern of 3 bits takes a whole byte, and one of 9 bits takes two
  pub starts : map (start_of (3 ∷ 9 ∷ 8 ∷ [])) (0 ∷ 1 ∷ 2 ∷ 3 ∷ []) ≡ 0 ∷ 1 ∷ 3 ∷ 4 ∷ []
  pub second : pattern_at three 1 ≡ record { bytes = 0b10110111 ∷ 0b10111111 ∷ []; fixed = 0b11111111 ∷ 0b10111111 ∷ []; count = 5 }
  -- "E is the largest E of any word": that of 10110 is 10, and there are hits of the others at 11
  pub each_e : map (λ i. places T (pattern_at three i)) (0 ∷ 1 ∷ 2 ∷ []) ≡ 12 ∷ 10 ∷ 12 ∷ []
  pub largest_e : set_places T three ≡ 12
  -- a pattern has no hit past its own E, though with the bits past the text 10110 agrees at 11
  pub agrees_past : matches T (pattern_at three 1) 11 ≡ true
  pub none_past : hits_at T three 11 ≡ hit_at 11 0 ∷ hit_at 11 2 ∷ []
  -- "rising by place and then by word": a pattern, one that begins with it and one with a wild bit hit at one place
  pub together : hits_at T three 0 ≡ hit_at 0 0 ∷ hit_at 0 1 ∷ hit_at 0 2 ∷ []
  -- 111 agrees with 1?1 alone
  pub wild : hits_at T three 5 ≡ hit_at 5 2 ∷ []
  pub all : all_hits T three 0 12 ≡ hits
  -- in another order the numbers are others, and so the pairs of a place come in another order
  pub other_order : all_hits T rotated 0 6
      ≡ hit_at 0 0 ∷ hit_at 0 1 ∷ hit_at 0 2 ∷ hit_at 3 1 ∷ hit_at 3 2 ∷ hit_at 5 1 ∷ []
  -- of two equal patterns each has its own hit
  pub equal : hits_at T twins 3 ≡ hit_at 3 0 ∷ hit_at 3 1 ∷ []
  -- "A step decides one place for all words": a whole call makes 12 steps
  pub whole : verdict (ask T three 0 20 24) ≡ accepted (record { steps = 12; written = hits; mark = 12; ending = done })
  -- "If a place's hits don't all fit, none of them is written and the call stops full there. Such a step isn't counted."
  pub none_written : verdict (ask T twins 0 20 2) ≡ accepted (record { steps = 0; written = []; mark = 0; ending = full 0 })
  pub full_later : verdict (ask T three 0 20 8)
      ≡ accepted (record { steps = 3; written = hit_at 0 0 ∷ hit_at 0 1 ∷ hit_at 0 2 ∷ []; mark = 3; ending = full 3 })
  pub cells_stay : list_after (machine (ask T three 0 20 8)) (replicate 8 9) ≡ 0 ∷ 0 ∷ 0 ∷ 1 ∷ 0 ∷ 2 ∷ 9 ∷ 9 ∷ []
  -- no cell at all: it stops at the first hit, and places without one are passed
  pub no_cell : verdict (ask T three 1 20 0) ≡ accepted (record { steps = 2; written = []; mark = 3; ending = full 3 })
  -- "a pair takes two cells of the list, place first": the odd cell is no room for half a pair, and it stays
  pub odd_cell : verdict (ask T three 3 20 5)
      ≡ accepted (record { steps = 2; written = hit_at 3 0 ∷ hit_at 3 2 ∷ []; mark = 5; ending = full 5 })
  pub odd_stays : list_after (machine (ask T three 3 20 5)) (replicate 5 9) ≡ 3 ∷ 0 ∷ 3 ∷ 2 ∷ 9 ∷ []
  -- "fewer steps than the budget": with budget 1 one place is decided, and with 0 none
  pub budget_1 : verdict (ask T three 0 1 24)
      ≡ accepted (record { steps = 1; written = hit_at 0 0 ∷ hit_at 0 1 ∷ hit_at 0 2 ∷ []; mark = 1; ending = spent })
  pub budget_0 : verdict (ask T three 0 0 24) ≡ accepted (record { steps = 0; written = []; mark = 0; ending = spent })
  -- the last of the budget's steps brings the mark to E: done, and not spent
  pub budget_last : verdict (ask T three 11 1 24)
      ≡ accepted (record { steps = 1; written = hit_at 11 0 ∷ hit_at 11 2 ∷ []; mark = 12; ending = done })
  -- "With one word the places equal the plain method's .. on half as many cells, rounded down": on 7 cells as on 3
  pub one_set : verdict (ask T alone 0 20 7)
      ≡ accepted (record { steps = 9; written = hit_at 0 0 ∷ hit_at 3 0 ∷ hit_at 7 0 ∷ []; mark = 9; ending = full 9 })
  pub one_plain : run Plain T (pattern_at alone 0) 20 0 3 ≡ record { steps = 9; written = 0 ∷ 3 ∷ 7 ∷ []; mark = 9; ending = full 9 }
  -- "18 for no words or more than 64", after 1 and 2 and before what is wrong with a pattern; 64 are taken
  pub no_18 : verdict (ask T (sized [] 1 1) 0 20 24) ≡ refused 18
  pub no_18_many : verdict (ask T (sized (replicate 65 0) 0 0) 99 20 24) ≡ refused 18
  pub from_64 : verdict (ask (record { bytes = []; count = 0 }) (sized (replicate 64 1) 64 64) 0 20 24)
      ≡ accepted (record { steps = 0; written = []; mark = 0; ending = done })
  pub no_2_first : verdict (ask (record { bytes = []; count = 1 }) (sized [] 0 0) 0 20 24) ≡ refused 2
  pub no_1_first : verdict (ask (record { bytes = []; count = 2 ^ 30 + 1 }) (sized [] 0 0) 0 20 24) ≡ refused 1
  -- "3, 4, 17 for each word in turn": pattern 0 is refused with 4 or 17 before pattern 1 with 3 or 4. The mark 99 is
  -- above E, and 6 comes after all of them.
  pub no_4_turn : verdict (ask T (sized (9 ∷ 0 ∷ []) 1 2) 99 20 24) ≡ refused 4
  pub no_17_turn : verdict (ask T (sized (9 ∷ 0 ∷ []) 2 1) 99 20 24) ≡ refused 17
  pub no_17_first : verdict (ask T (sized (3 ∷ 3 ∷ []) 1 0) 99 20 24) ≡ refused 17
  pub no_3 : verdict (ask T (sized (9 ∷ 0 ∷ []) 2 2) 99 20 24) ≡ refused 3
  pub no_3_long : verdict (ask T (sized (9 ∷ 2049 ∷ []) 2 2) 99 20 24) ≡ refused 3
  -- of pattern 1 the bytes count from its own first byte on, in either run
  pub no_4 : verdict (ask T (sized (3 ∷ 9 ∷ []) 2 3) 99 20 24) ≡ refused 4
  pub no_17 : verdict (ask T (sized (3 ∷ 9 ∷ []) 3 2) 99 20 24) ≡ refused 17
  -- "then 6", of the largest E: above it, and not at it; 11 is past the E of 10110 and is accepted (`budget_last`)
  pub no_6 : verdict (ask T three 13 20 24) ≡ refused 6
  pub at_e : verdict (ask T three 12 20 24) ≡ accepted (record { steps = 0; written = []; mark = 12; ending = done })
