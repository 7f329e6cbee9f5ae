-- What is claimed of every read of eight bits. The proofs are in proofs/ReadClaims.antt.
use Rattle.std.specs.Prelude.{ℕ, zero, suc, ◌+◌, ◌-◌, ◌*◌, ◌^◌, ◌≤◌, ◌<◌, min, ◌≡◌, ◌⊎◌, List, [], ◌∷◌, ◌++◌, length}
use Rattle.bits.specs.Packed.{Packed, bytes_for, bit_of, bit_at, bits_at, AgreeBelow}
use Rattle.eight.specs.Eight.{Verdict, shown, number, count_at, shown_at, byte_at, eight_at}

-- a recording that no call refuses
pub record Good (t : Packed) : Type 0 where
  pub short : t.count ≤ 2 ^ 30
  pub enough : bytes_for t.count ≤ length t.bytes

-- Of a good recording, at any bit number.
pub record ReadAt (t : Packed) (p : ℕ) : Type 0 where
  -- the call is accepted
  pub accepted : eight_at t p ≡ shown (byte_at t p) (count_at t.count p)
  -- each bit of the byte is what it is defined to be
  pub each : (j : ℕ) → j < 8 → bit_of 8 (byte_at t p) j ≡ shown_at t p j
  -- the count is 8 exactly where all eight lie inside,
  pub inside : count_at t.count p ≡ 8 → p + 8 ≤ t.count
  pub all : p + 8 ≤ t.count → count_at t.count p ≡ 8
  -- and there the byte is the eight bits from p on, as it always was.
  pub as_before : p + 8 ≤ t.count → byte_at t p ≡ bits_at t.bytes p 8
  pub bit_for_bit : p + 8 ≤ t.count → (j : ℕ) → j < 8 → bit_of 8 (byte_at t p) j ≡ bit_at t.bytes (p + j)
  -- from n on nothing is shown
  pub none : t.count ≤ p → (byte_at t p ≡ 0) × (count_at t.count p ≡ 0)

-- What an accepted call tells its caller, whatever the recording: "Callers that relied on all eight being inside must show it
-- from the count".
pub record Learned (t : Packed) (p byte count : ℕ) : Type 0 where
  pub good : Good t
  pub byte_is : byte ≡ byte_at t p
  pub count_is : count ≡ count_at t.count p
  pub inside : count ≡ 8 → p + 8 ≤ t.count
  pub eight : count ≡ 8 → byte ≡ bits_at t.bytes p 8

abbrev pub FromAnswer : Type 0
FromAnswer = (t : Packed) (p byte count : ℕ) → eight_at t p ≡ shown byte count → Learned t p byte count

-- A refusal has the number 1 or 2, whatever the recording.
abbrev pub OneOrTwo : Type 0
OneOrTwo = (t : Packed) (p k : ℕ) → eight_at t p ≡ number k → (k ≡ 1) ⊎ (k ≡ 2)

-- No bit from n on ever shows, whatever the bytes hold there: two recordings of n bits that agree below n give the same.
abbrev pub NoPadding : Type 0
NoPadding = (a b : List ℕ) (n p : ℕ) → bytes_for n ≤ length a → bytes_for n ≤ length b → AgreeBelow n a b
    → eight_at (record { bytes = a; count = n }) p ≡ eight_at (record { bytes = b; count = n }) p

-- ---- reads one after the other

-- k bits of a run, from bit i on
unfoldable pub list_of : (ℕ → ℕ) → ℕ → ℕ → List ℕ
list_of bit i zero = []
list_of bit i (suc k) = bit i ∷ list_of bit (suc i) k

-- what a caller takes from an answer: as many bits of the byte, from the left, as the count says
abbrev pub taken : Verdict → List ℕ
taken (shown byte count) = list_of (bit_of 8 byte) 0 count
taken (number k) = []

-- k reads, each from eight bits after the one before
unfoldable pub reads : Packed → ℕ → ℕ → List ℕ
reads t p zero = []
reads t p (suc k) = taken (eight_at t p) ++ reads t (p + 8) k

-- Of a good recording: reads one after the other give it back.
pub record GivenBack (t : Packed) : Type 0 where
  -- k of them from bit p on: the bits up to bit p + 8 k, or to the end where that comes first
  pub some : (p k : ℕ) → reads t p k ≡ list_of (bit_at t.bytes) p (min (8 * k) (t.count - p))
  -- eight of them inside
  pub eight : (p : ℕ) → p + 64 ≤ t.count → reads t p 8 ≡ list_of (bit_at t.bytes) p 64
  -- as many as the bits take bytes: all n bits
  pub whole : reads t 0 (bytes_for t.count) ≡ list_of (bit_at t.bytes) 0 t.count
