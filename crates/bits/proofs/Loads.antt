-- Loads: whole bytes as bits, and a load that begins inside a byte, put together from two that begin at one.
-- Assumes nothing.
use mathlib.Core.Path.{◌≡◌, sym, ◌∙◌, ap, ap₂}
use mathlib.Core.List.{List, [], ◌∷◌}
use Prim.Native.Nat.{ℕ, suc, ◌+◌, ◌-◌, ◌*◌, ◌/◌, ◌%◌, ◌^◌, ◌≤◌, ◌<◌}
use native.Mathlib.Omega.{arith}
use native.Mathlib.Nat.{add-zero, zero-add, mul-one, zero-div, div-one, div-add-mod'}
use native.Mathlib.Decide.{dec_le}
use lib.ListN.{length, take, drop, get_or, get_or-eq_default}
use lib.Dec.{lit<, lit≤}
use lib.Bits.{bit_or, or_shifted, or_zero_r}
use lib.Pow.{pow_pos, pow-add, low, high, shl_lt, shl_exact, mod-mod-pow}
use Rattle.std.specs.List.{fold}
use Rattle.std.proofs.Common.{length-take, length-drop}
use Rattle.std.proofs.lemmas.List.{get_or-take, get_or-drop}
use Rattle.bits.specs.Packed.{weight, bit_at, bits_at}
use Rattle.bits.proofs.Weight.{weight_zero, same_weights}
use Rattle.bits.proofs.Run.{bit_past, bits_lt, bits_add, bits_first, bits_last, weight_of_bits, agree→load}

-- bit j of byte b
pub bit_in_byte : (bytes : List ℕ) (b : ℕ) {j : ℕ} → j < 8 → bit_at bytes (b * 8 + j) ≡ weight (get_or bytes b 0) (7 - j)
unfolding bit_at
bit_in_byte bytes b {j} h = rw (quotient, remainder)
  where
    quotient : (b * 8 + j) / 8 ≡ b
    quotient = omega arith

    remainder : (b * 8 + j) % 8 ≡ j
    remainder = omega arith

-- a byte from its eight bits
pub byte_bits : (bytes : List ℕ) (b : ℕ) → get_or bytes b 0 < 256 → bits_at bytes (b * 8) 8 ≡ get_or bytes b 0
byte_bits bytes b h = same_weights 8 _ _ (bits_lt bytes (b * 8) 8) h each
  where
    there : {i : ℕ} → i < 8 → 7 - (7 - i) ≡ i
    there l = omega arith

    each : (i : ℕ) → i < 8 → weight (bits_at bytes (b * 8) 8) i ≡ weight (get_or bytes b 0) i
    each i l =
        weight_of_bits bytes (b * 8) l
        ∙ bit_in_byte bytes b (omega arith)
        ∙ ap (λ (n : ℕ). weight (get_or bytes b 0) n) (there l)

-- loads of the same whole bytes are the same, wherever the bytes stand
pub same_bytes : (xs ys : List ℕ) (a b k : ℕ) → ((i : ℕ) → i < k → get_or xs (a + i) 0 ≡ get_or ys (b + i) 0)
    → bits_at xs (a * 8) (k * 8) ≡ bits_at ys (b * 8) (k * 8)
same_bytes xs ys a b k e = agree→load xs ys (a * 8) (b * 8) (k * 8) each
  where
    apart : (c j : ℕ) → c * 8 + j ≡ (c + j / 8) * 8 + j % 8
    apart c j = omega arith

    in_byte : (l : List ℕ) (c j : ℕ) → bit_at l (c * 8 + j) ≡ weight (get_or l (c + j / 8) 0) (7 - j % 8)
    in_byte l c j = ap (bit_at l) (apart c j) ∙ bit_in_byte l (c + j / 8) (omega arith)

    each : (j : ℕ) → j < k * 8 → bit_at xs (a * 8 + j) ≡ bit_at ys (b * 8 + j)
    each j h =
        in_byte xs a j
        ∙ ap (λ (x : ℕ). weight x (7 - j % 8)) (e (j / 8) (omega arith))
        ∙ sym (in_byte ys b j)

-- one byte more of a load of whole bytes
pub bytes_more : (bytes : List ℕ) (b k : ℕ) → get_or bytes (b + k) 0 < 256
    → bits_at bytes (b * 8) (suc k * 8) ≡ bits_at bytes (b * 8) (k * 8) * 256 + get_or bytes (b + k) 0
bytes_more bytes b k h =
    ap (λ (n : ℕ). bits_at bytes (b * 8) n) more
    ∙ bits_add bytes (b * 8) (k * 8) 8
    ∙ ap (λ (n : ℕ). bits_at bytes (b * 8) (k * 8) * 256 + bits_at bytes n 8) there
    ∙ ap (λ (x : ℕ). bits_at bytes (b * 8) (k * 8) * 256 + x) (byte_bits bytes (b + k) h)
  where
    more : suc k * 8 ≡ k * 8 + 8
    more = omega arith

    there : b * 8 + k * 8 ≡ (b + k) * 8
    there = omega arith

-- A shift to the left by r within k bits leaves the last k − r of them.
shifted_out : (bytes : List ℕ) (p k r : ℕ) → r ≤ k → (bits_at bytes p k * 2 ^ r) % 2 ^ k ≡ bits_at bytes (p + r) (k - r) * 2 ^ r
shifted_out bytes p k r h = ap (λ (x : ℕ). x % 2 ^ k) moved ∙ low (bits_at bytes p r) k fits
  where
    whole : (k - r) + r ≡ k
    whole = omega arith

    apart : k ≡ r + (k - r)
    apart = omega arith

    rest : ℕ
    rest = bits_at bytes (p + r) (k - r)

    power : 2 ^ (k - r) * 2 ^ r ≡ 2 ^ k
    power = sym (pow-add 2 (k - r) r) ∙ ap (λ (n : ℕ). 2 ^ n) whole

    fits : rest * 2 ^ r < 2 ^ k
    fits = rw whole at (shl_lt (k - r) r (bits_lt bytes (p + r) (k - r)))

    parts : bits_at bytes p k ≡ bits_at bytes p r * 2 ^ (k - r) + rest
    parts = ap (λ (n : ℕ). bits_at bytes p n) apart ∙ bits_add bytes p r (k - r)

    moved : bits_at bytes p k * 2 ^ r ≡ bits_at bytes p r * 2 ^ k + rest * 2 ^ r
    moved = rw (parts, ← power) (omega arith)

-- The k bits from p + r on are the last k − r of those from p on, and then the first r of the s bits that follow these:
-- a shift to the left by r within k bits, and a shift to the right by s − r of what follows.
pub unaligned : (bytes : List ℕ) (p k s r : ℕ) → r ≤ k → r ≤ s
    → bit_or ((bits_at bytes p k * 2 ^ r) % 2 ^ k) (bits_at bytes (p + k) s / 2 ^ (s - r)) ≡ bits_at bytes (p + r) k
unaligned bytes p k s r hk hs =
    ap₂ bit_or (shifted_out bytes p k r hk) (bits_first bytes (p + k) hs)
    ∙ or_shifted rest r (bits_at bytes (p + k) r) (bits_lt bytes (p + k) r)
    ∙ sym joined
  where
    whole : (k - r) + r ≡ k
    whole = omega arith

    rest : ℕ
    rest = bits_at bytes (p + r) (k - r)

    follows : (p + r) + (k - r) ≡ p + k
    follows = omega arith

    joined : bits_at bytes (p + r) k ≡ rest * 2 ^ r + bits_at bytes (p + k) r
    joined =
        ap (λ (n : ℕ). bits_at bytes (p + r) n) (sym whole)
        ∙ bits_add bytes (p + r) (k - r) r
        ∙ ap (λ (n : ℕ). rest * 2 ^ r + bits_at bytes n r) follows

-- Eight bytes from the byte of bit p on, shifted: the first 57 bits are those from p on, however it lies in its byte.
pub head_at : (bytes : List ℕ) (p : ℕ) → (bits_at bytes (p / 8 * 8) 64 * 2 ^ (p % 8)) % 2 ^ 64 / 2 ^ 7 ≡ bits_at bytes p 57
head_at bytes p =
    ap (λ (x : ℕ). x / 2 ^ 7) (shifted_out bytes (p / 8 * 8) 64 (p % 8) (omega arith) ∙ ap (λ (n : ℕ). bits_at bytes n (64 - p % 8) * 2 ^ (p % 8)) (div-add-mod' p 8) ∙ moved)
    ∙ high (bits_at bytes p 57) 7 fits
  where
    r : ℕ
    r = p % 8

    rest : ℕ
    rest = bits_at bytes (p + 57) (7 - r)

    whole : 7 - r + r ≡ 7
    whole = omega arith

    apart : 64 - r ≡ 57 + (7 - r)
    apart = omega arith

    power : 2 ^ (7 - r) * 2 ^ r ≡ 2 ^ 7
    power = sym (pow-add 2 (7 - r) r) ∙ ap (λ (n : ℕ). 2 ^ n) whole

    fits : rest * 2 ^ r < 2 ^ 7
    fits = rw whole at (shl_lt (7 - r) r (bits_lt bytes (p + 57) (7 - r)))

    parts : bits_at bytes p (64 - r) ≡ bits_at bytes p 57 * 2 ^ (7 - r) + rest
    parts = ap (λ (n : ℕ). bits_at bytes p n) apart ∙ bits_add bytes p 57 (7 - r)

    moved : bits_at bytes p (64 - r) * 2 ^ r ≡ bits_at bytes p 57 * 2 ^ 7 + rest * 2 ^ r
    moved = rw (parts, ← power) (omega arith)

-- The same where whole bytes are at hand: c bytes from the byte of bit p on, shifted, and the byte that follows them.
pub load_at : (bytes : List ℕ) (p c : ℕ) → 0 < c → get_or bytes (p / 8 + c) 0 < 256
    → bit_or ((bits_at bytes (p / 8 * 8) (c * 8) * 2 ^ (p % 8)) % 2 ^ (c * 8)) (get_or bytes (p / 8 + c) 0 / 2 ^ (8 - p % 8))
    ≡ bits_at bytes p (c * 8)
load_at bytes p c hc hb =
    ap (λ (x : ℕ). bit_or ((bits_at bytes (p / 8 * 8) (c * 8) * 2 ^ (p % 8)) % 2 ^ (c * 8)) (x / 2 ^ (8 - p % 8))) follows
    ∙ unaligned bytes (p / 8 * 8) (c * 8) 8 (p % 8) (omega arith) (omega arith)
    ∙ ap (λ (n : ℕ). bits_at bytes n (c * 8)) (div-add-mod' p 8)
  where
    there : (p / 8 + c) * 8 ≡ p / 8 * 8 + c * 8
    there = omega arith

    follows : get_or bytes (p / 8 + c) 0 ≡ bits_at bytes (p / 8 * 8 + c * 8) 8
    follows = sym (byte_bits bytes (p / 8 + c) hb) ∙ ap (λ (n : ℕ). bits_at bytes n 8) there

-- at one byte, which a machine shifts within 64 bits
pub byte_load_at : (bytes : List ℕ) (p : ℕ) → ((i : ℕ) → get_or bytes i 0 < 256)
    → bit_or ((get_or bytes (p / 8) 0 * 2 ^ (p % 8)) % 2 ^ 64 % 256) (get_or bytes (p / 8 + 1) 0 / 2 ^ (8 - p % 8)) ≡ bits_at bytes p 8
byte_load_at bytes p h =
    ap (λ (x : ℕ). bit_or x (get_or bytes (p / 8 + 1) 0 / 2 ^ (8 - p % 8))) left ∙ load_at bytes p 1 (omega arith) (h (p / 8 + 1))
  where
    left : (get_or bytes (p / 8) 0 * 2 ^ (p % 8)) % 2 ^ 64 % 256 ≡ (bits_at bytes (p / 8 * 8) 8 * 2 ^ (p % 8)) % 2 ^ 8
    left =
        mod-mod-pow (get_or bytes (p / 8) 0 * 2 ^ (p % 8)) 56 8
        ∙ ap (λ (x : ℕ). (x * 2 ^ (p % 8)) % 2 ^ 8) (sym (byte_bits bytes (p / 8) (h (p / 8))))

-- eight bits from the byte of the first and the byte of the last, which may be the same one
pub two_bytes_at : (bytes : List ℕ) (p : ℕ) → ((i : ℕ) → get_or bytes i 0 < 256)
    → (get_or bytes (p / 8) 0 * 256 + get_or bytes ((p + 7) / 8) 0) / 2 ^ (7 - (p + 7) % 8) % 256 ≡ bits_at bytes p 8
two_bytes_at bytes p h = go (dec_le 1 (p % 8))
  where
    b : ℕ
    b = p / 8

    one : p % 8 ≡ 0 → (get_or bytes b 0 * 256 + get_or bytes b 0) / 2 ^ 0 % 256 ≡ bits_at bytes p 8
    one e =
        let there : b * 8 ≡ p = omega arith in
        ap (λ (x : ℕ). x % 256) (div-one (get_or bytes b 0 * 256 + get_or bytes b 0))
        ∙ low (get_or bytes b 0) 8 (h b)
        ∙ sym (byte_bits bytes b (h b))
        ∙ ap (λ (n : ℕ). bits_at bytes n 8) there

    both : get_or bytes b 0 * 256 + get_or bytes (b + 1) 0 ≡ bits_at bytes (b * 8) 16
    both = ap (λ (x : ℕ). x * 256 + get_or bytes (b + 1) 0) (sym (byte_bits bytes b (h b))) ∙ sym (bytes_more bytes b 1 (h (b + 1)))

    two : (get_or bytes b 0 * 256 + get_or bytes (b + 1) 0) / 2 ^ (16 - (8 + p % 8)) % 256 ≡ bits_at bytes p 8
    two =
        let eight : 8 + p % 8 - p % 8 ≡ 8 = omega arith in
        ap (λ (x : ℕ). x / 2 ^ (16 - (8 + p % 8)) % 256) both
        ∙ ap (λ (x : ℕ). x % 256) (bits_first bytes (b * 8) {j = 8 + p % 8} {k = 16} (omega arith))
        ∙ rw eight at (bits_last bytes (b * 8) {j = p % 8} {k = 8 + p % 8} (omega arith))
        ∙ ap (λ (n : ℕ). bits_at bytes n 8) (div-add-mod' p 8)

    go : Dec (1 ≤ p % 8) → (get_or bytes (p / 8) 0 * 256 + get_or bytes ((p + 7) / 8) 0) / 2 ^ (7 - (p + 7) % 8) % 256 ≡ bits_at bytes p 8
    go (yes l) =
        let last : (p + 7) / 8 ≡ b + 1 = omega arith in
        let cut : 7 - (p + 7) % 8 ≡ 16 - (8 + p % 8) = omega arith in
        rw (last, cut) two
    go (no n) =
        let last : (p + 7) / 8 ≡ b = omega arith in
        let cut : 7 - (p + 7) % 8 ≡ 0 = omega arith in
        rw (last, cut) (one (omega arith))

-- with nothing after them
pub load_at_end : (bytes : List ℕ) (p c : ℕ) → 0 < c → length bytes ≤ p / 8 + c
    → (bits_at bytes (p / 8 * 8) (c * 8) * 2 ^ (p % 8)) % 2 ^ (c * 8) ≡ bits_at bytes p (c * 8)
load_at_end bytes p c hc hl = sym (or_zero_r shifted) ∙ ap (bit_or shifted) (sym nothing) ∙ load_at bytes p c hc (rw none (lit< tt))
  where
    shifted : ℕ
    shifted = (bits_at bytes (p / 8 * 8) (c * 8) * 2 ^ (p % 8)) % 2 ^ (c * 8)

    none : get_or bytes (p / 8 + c) 0 ≡ 0
    none = get_or-eq_default bytes 0 hl

    nothing : get_or bytes (p / 8 + c) 0 / 2 ^ (8 - p % 8) ≡ 0
    nothing = rw (none, zero-div)

-- bytes joined by shifts and `or`: one byte more after the k that are joined, with room for s bits after it
pub join_byte : (xs : List ℕ) (k s : ℕ) {x b : ℕ} → get_or xs k 0 ≡ b → b < 256 → s ≤ 56
    → x ≡ bits_at xs 0 (k * 8) * 2 ^ (8 + s) → bit_or x ((b * 2 ^ s) % 2 ^ 64) ≡ bits_at xs 0 (suc k * 8) * 2 ^ s
join_byte xs k s {x} {b} eb h l ex =
    ap₂ bit_or ex (shl_exact 8 s 64 h (omega arith))
    ∙ or_shifted joined (8 + s) (b * 2 ^ s) (shl_lt 8 s h)
    ∙ ap (λ (y : ℕ). joined * y + b * 2 ^ s) (pow-add 2 8 s)
    ∙ regroup
    ∙ ap (λ (y : ℕ). y * 2 ^ s) (sym more)
  where
    joined : ℕ
    joined = bits_at xs 0 (k * 8)

    regroup : joined * (256 * 2 ^ s) + b * 2 ^ s ≡ (joined * 256 + b) * 2 ^ s
    regroup = omega arith

    there : get_or xs (0 + k) 0 ≡ b
    there = rw zero-add eb

    more : bits_at xs 0 (suc k * 8) ≡ joined * 256 + b
    more = bytes_more xs 0 k (rw there h) ∙ ap (λ (y : ℕ). joined * 256 + y) there

-- and the last one, after which nothing comes
pub join_last : (xs : List ℕ) (k : ℕ) {x b : ℕ} → get_or xs k 0 ≡ b → b < 256
    → x ≡ bits_at xs 0 (k * 8) * 256 → bit_or x b ≡ bits_at xs 0 (suc k * 8)
join_last xs k {x} {b} eb h ex = ap (bit_or x) unmoved ∙ join_byte xs k 0 eb h (lit≤ tt) ex ∙ mul-one _
  where
    unmoved : b ≡ (b * 1) % 2 ^ 64
    unmoved = omega arith

-- the bytes end after k: no bit after them is 1
pub bits_end : (bytes : List ℕ) (b k : ℕ) → k ≤ 8 → length bytes ≤ b + k → bits_at bytes (b * 8) 64 ≡ bits_at bytes (b * 8) (k * 8) * 2 ^ (64 - k * 8)
bits_end bytes b k few end =
    let whole : k * 8 + (64 - k * 8) ≡ 64 = omega arith in
    ap (bits_at bytes (b * 8)) (sym whole)
    ∙ bits_add bytes (b * 8) (k * 8) (64 - k * 8)
    ∙ ap (λ (x : ℕ). bits_at bytes (b * 8) (k * 8) * 2 ^ (64 - k * 8) + x) none
    ∙ add-zero _
  where
    none : bits_at bytes (b * 8 + k * 8) (64 - k * 8) ≡ 0
    none =
        same_weights (64 - k * 8) _ 0 (bits_lt bytes (b * 8 + k * 8) (64 - k * 8)) (pow_pos (64 - k * 8))
        (λ i l. weight_of_bits bytes (b * 8 + k * 8) l ∙ bit_past bytes (b * 8 + k * 8 + (64 - k * 8 - 1 - i)) (omega arith) ∙ sym (weight_zero i))

-- how a loop joins one byte more within 64 bits, and all that follow the k that it has joined
abbrev pub joins : ℕ → ℕ → ℕ
joins x byte = bit_or (x * 256 % 2 ^ 64) byte

joined : (bytes : List ℕ) (b k : ℕ) (rest : List ℕ) → k + length rest ≤ 8 → ((i : ℕ) → get_or bytes i 0 < 256)
    → ((i : ℕ) → i < length rest → get_or bytes (b + k + i) 0 ≡ get_or rest i 0)
    → fold joins (bits_at bytes (b * 8) (k * 8)) rest ≡ bits_at bytes (b * 8) ((k + length rest) * 8)
joined bytes b k [] few small same = ap (λ (n : ℕ). bits_at bytes (b * 8) (n * 8)) (sym (add-zero k))
joined bytes b k (byte ∷ rest) few small same =
    ap (λ (x : ℕ). fold joins x rest) one_more
    ∙ joined bytes b (suc k) rest (omega arith) small (λ i l. ap (λ (n : ℕ). get_or bytes n 0) (omega arith) ∙ same (suc i) (omega arith))
    ∙ ap (λ (n : ℕ). bits_at bytes (b * 8) (n * 8)) (omega arith)
  where
    so_far : ℕ
    so_far = bits_at bytes (b * 8) (k * 8)

    here : byte ≡ get_or bytes (b + k) 0
    here = sym (ap (λ (n : ℕ). get_or bytes n 0) (sym (add-zero (b + k))) ∙ same 0 (omega arith))

    one_more : joins so_far byte ≡ bits_at bytes (b * 8) (suc k * 8)
    one_more =
        ap₂ bit_or (shl_exact {a = so_far} (k * 8) 8 64 (bits_lt bytes (b * 8) (k * 8)) (omega arith)) here
        ∙ or_shifted so_far 8 (get_or bytes (b + k) 0) (small (b + k))
        ∙ sym (bytes_more bytes b k (small (b + k)))

-- the last bytes, joined by a loop and moved to the front of 64 bits
pub last_joined : (bytes : List ℕ) (b : ℕ) {x s : ℕ} → length bytes ≤ b + 8 → ((i : ℕ) → get_or bytes i 0 < 256)
    → x ≡ fold joins 0 (take (length bytes - b) (drop b bytes)) → s ≡ length (take (length bytes - b) (drop b bytes)) * 8
    → x * 2 ^ (64 - s) % 2 ^ 64 ≡ bits_at bytes (b * 8) 64
unfolding bits_at
last_joined bytes b {x} {s} few small ex es =
    ap₂ (λ (y t : ℕ). y * 2 ^ (64 - t) % 2 ^ 64) (ex ∙ joined bytes b 0 rest (omega (arith, long)) small same) es
    ∙ ap (λ (n : ℕ). bits_at bytes (b * 8) (n * 8) * 2 ^ (64 - length rest * 8) % 2 ^ 64) (zero-add (length rest))
    ∙ shl_exact {a = bits_at bytes (b * 8) (length rest * 8)} (length rest * 8) (64 - length rest * 8) 64 (bits_lt bytes (b * 8) (length rest * 8)) (omega (arith, long))
    ∙ sym (bits_end bytes b (length rest) (omega (arith, long)) (omega (arith, long)))
  where
    rest : List ℕ
    rest = take (length bytes - b) (drop b bytes)

    long : length rest ≡ length bytes - b
    long = omega (arith, length-take (length bytes - b) (drop b bytes), length-drop b bytes)

    same : (i : ℕ) → i < length rest → get_or bytes (b + 0 + i) 0 ≡ get_or rest i 0
    same i l =
        sym (get_or-take (length bytes - b) (drop b bytes) i 0 (omega (arith, long)) ∙ get_or-drop b bytes i 0 ∙ ap (λ (n : ℕ). get_or bytes n 0) (omega arith))
