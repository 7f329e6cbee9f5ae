-- What a pattern's second run is to it ("Wild bits in a word"): a pattern with every bit fixed, one with every bit wild, and two
-- that differ in what never matters.
use Rattle.std.specs.Prelude.{ℕ, ◌<◌, ◌≡◌, true, false}
use Rattle.bits.specs.Packed.{bit_at}
use Rattle.rules.specs.Pattern.{Pattern, is_fixed}

-- "a word with every bit fixed"
abbrev pub AllFixed : Pattern → Type 0
AllFixed w = (j : ℕ) → j < w.count → is_fixed w j ≡ true

-- every bit is wild
abbrev pub AllWild : Pattern → Type 0
AllWild w = (j : ℕ) → j < w.count → is_fixed w j ≡ false

-- Two patterns of as many bits are fixed at the same bits, and equal there: "hits are now judged by fixed bits alone". What
-- they have at wild bits and, in both runs, from bit m on is free.
pub record Alike (w v : Pattern) : Type 0 where
  pub as_many : w.count ≡ v.count
  pub fixed_alike : (j : ℕ) → j < w.count → is_fixed w j ≡ is_fixed v j
  pub bits_alike : (j : ℕ) → j < w.count → is_fixed w j ≡ true → bit_at w.bytes j ≡ bit_at v.bytes j
