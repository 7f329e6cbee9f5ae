-- What the parts of the tail method promise each other: the lengths of the pattern's front that a window's end leaves, as the bits of a
-- word, and the greatest of them.
use Rattle.std.specs.Prelude.{ℕ, suc, ◌+◌, ◌-◌, ◌*◌, ◌/◌, ◌%◌, ◌^◌, ◌≤◌, ◌<◌, ◌≡◌, Bool, true, cond, List, eqb, Result}
use Rattle.std.proofs.Math.Option.{some}
use Rattle.std.specs.Int.Bits.{bit_and, bit_xor}
use Rattle.bits.specs.Packed.{Packed, weight, bit_of}
use Rattle.rules.specs.declared.Method.TheVariants.{Tail}
use Rattle.rules.specs.Ranges.{every, greatest}
use Rattle.rules.specs.Pattern.{Pattern, agrees}
use Rattle.rules.specs.Occurrence.{places}
use Rattle.matcher.specs.declared.steps.Reached.{Reached}
use Rattle.matcher.specs.declared.steps.Full.{Full}
use Rattle.matcher.specs.Gives.{StepGives}
use Rattle.tail.specs.declared.FourBits.{FourBits}
use Rattle.tail.specs.declared.Masks.{Masks}

-- the pattern's first r bits are the last r bits of the window x
unfoldable pub ends_in : Pattern → ℕ → ℕ → Bool
ends_in w x r = every r (λ j. agrees w j (weight x (r - suc j)))

-- the masks are those of the pattern
pub record MasksOf (w : Pattern) (zeros ones : ℕ) : Type 0 where
  pub zeros_are : (j : ℕ) → j < w.count → bit_of 64 zeros j ≡ cond (agrees w j 0) 1 0
  pub ones_are : (j : ℕ) → j < w.count → bit_of 64 ones j ≡ cond (agrees w j 1) 1 0

-- For each pattern of m bits whose masks these are, r is "the greatest length below m such that" its first r bits are the window's last.
pub record Longest (m zeros ones x r : ℕ) : Type 0 where
  pub below : r < m
  pub is : (w : Pattern) → w.count ≡ m → MasksOf w zeros ones → greatest (ends_in w x) m ≡ some r

-- The move from the window x: the bit count less that length.
pub record Moves (k : Masks) (x far : ℕ) : Type 0 where
  pub length : ℕ
  pub longest : Longest k.m k.zeros k.ones x length
  pub is : far ≡ k.m - length

-- ones for each length up to j, and for the others the pattern's bit j turned over
unfoldable pub spread_of : ℕ → ℕ → ℕ
spread_of zeros j = cond (eqb (bit_of 64 zeros j) 1) (2 ^ 64 - 1) ((2 ^ 64 - 1) / 2 ^ (63 - j))

-- bit j of a word in every bit
unfoldable pub every_bit : ℕ → ℕ → ℕ
every_bit word j = cond (eqb (bit_of 64 word j) 1) (2 ^ 64 - 1) 0

-- a 0 for each wild bit, and a 1 for every other: where both masks have a 1 the pattern's bit is wild
abbrev pub care_of : ℕ → ℕ → ℕ
care_of zeros ones = bit_xor (2 ^ 64 - 1) (bit_and zeros ones)

-- the first r bits of the word are not wild, and are those of `flip`
pub record FirstRun (word flip care r : ℕ) : Type 0 where
  pub few : r ≤ 63
  pub like : (j : ℕ) → j < r → bit_of 64 word j ≡ bit_of 64 flip j
  pub solid : (j : ℕ) → j < r → bit_of 64 care j ≡ 1

-- The four bits from r on are not wild, as far as they can rule a length out, which is below 64.
pub record Four (care r : ℕ) : Type 0 where
  pub few : r ≤ 63
  pub solid : (i : ℕ) → i < 4 → r + i < 63 → bit_of 64 care (r + i) ≡ 1

-- four bits of the pattern in a row, each spread
pub record Spread (zeros : ℕ) (f : FourBits) : Type 0 where
  pub is0 : f.b0 ≡ spread_of zeros f.from
  pub is1 : f.b1 ≡ spread_of zeros (f.from + 1)
  pub is2 : f.b2 ≡ spread_of zeros (f.from + 2)
  pub is3 : f.b3 ≡ spread_of zeros (f.from + 3)

-- what one of them leaves of the lengths: the window x, moved up to it, XORed with its word
abbrev pub left_by_bit : ℕ → ℕ → ℕ → ℕ → ℕ
left_by_bit x from c b = bit_xor (x * 2 ^ from % 2 ^ 64 * 2 ^ c % 2 ^ 64) b

-- and what they leave together
abbrev pub left_by_four : FourBits → ℕ → ℕ
left_by_four f x = bit_and (bit_and (bit_and (left_by_bit x f.from 1 f.b0) (left_by_bit x f.from 2 f.b1)) (left_by_bit x f.from 3 f.b2)) (left_by_bit x f.from 4 f.b3)

-- What is made of the masks for all steps of a call: which bits are not wild, a 1 for each length below the bit count, the first bit in
-- every bit, a 1 for each length above the first run, and twice four bits of the pattern, each spread.
pub record Made (k : Masks) : Type 0 where
  pub run : ℕ
  pub care_is : k.care ≡ care_of k.zeros k.ones
  pub below_is : k.below ≡ 18446744073709551615 / 2 ^ (64 - k.m)
  pub flip_is : k.flip ≡ every_bit k.ones 0
  pub run_is : FirstRun k.ones k.flip k.care run
  pub past_is : k.past ≡ 18446744073709551615 * 2 ^ run % 2 ^ 64 * 2 ^ 1 % 2 ^ 64
  pub first : Four k.care k.first.from
  pub first_spread : Spread k.zeros k.first
  pub second : Four k.care k.second.from
  pub second_spread : Spread k.zeros k.second

-- For each pattern of m bits whose masks these are: no length from m on is left in d, and each length below m at which the pattern's
-- first bits are the window's last is left. Others may be, since each is compared.
pub record Keeps (m zeros ones x d : ℕ) : Type 0 where
  pub none_from : (i : ℕ) → m ≤ i → weight d i ≡ 0
  pub kept : (w : Pattern) → w.count ≡ m → MasksOf w zeros ones → (r : ℕ) → r < m → ends_in w x r ≡ true → weight d r ≡ 1

-- r is the highest bit of d, or 0 if there is none
pub record Top (d r : ℕ) : Type 0 where
  pub few : r < 64
  pub set : 0 < r → weight d r ≡ 1
  pub above : (i : ℕ) → r < i → weight d i ≡ 0

-- bit i of the mask, unless it is wild, is that of the last r bits of the window
abbrev pub FitsAt : ℕ → ℕ → ℕ → ℕ → ℕ → Type 0
FitsAt ones care x r i = bit_of 64 care i ≡ 1 → bit_of 64 ones i ≡ weight x (r - suc i)

-- so are all its first r bits
abbrev pub Fits : ℕ → ℕ → ℕ → ℕ → Type 0
Fits ones care x r = (i : ℕ) → i < r → FitsAt ones care x r i

-- the mask's bits before j are those of the last r bits of the window, and its bit j is not, as far as r goes
pub record Differs (ones care x r j : ℕ) : Type 0 where
  pub same : (i : ℕ) → i < j → i < r → FitsAt ones care x r i
  pub other : j < r → (FitsAt ones care x r j → ⊥)

-- r is the greatest of the lengths d at which the mask's first bits are the window's last, or 0
pub record Settled (ones care x d r : ℕ) : Type 0 where
  pub few : r < 64
  pub left : 0 < r → weight d r ≡ 1
  pub fits : Fits ones care x r
  pub none_above : (i : ℕ) → r < i → weight d i ≡ 1 → Fits ones care x i → ⊥

-- Where one step is asked for, and the mark is a place, that step is made.
abbrev pub OneStep : Packed → Pattern → ℕ → ℕ → List ℕ → Result Reached Full → List ℕ → Type 0
OneStep t w s budget before result list = budget ≡ 1 → s < places t w → StepGives Tail t w s before result list
