-- The rules as they were before patterns had wild bits, and the promise that for a pattern with every bit fixed they say
-- the same. Below are the definitions of the files Occurrence to Machine that compare bits, under the names they have
-- there: each compares a bit of the text with the pattern's bit, and none looks at the pattern's second run. What never
-- compared a bit is taken from those files. In `AsBefore` a name after the name of its file, as in `Step.finds`, is the
-- rule as it is now, and a name alone is the rule as it was.
use Rattle.std.specs.Prelude.{ℕ, zero, suc, ◌+◌, ◌-◌, ◌*◌, ◌/◌, ◌%◌, ◌<◌, min, ◌≡◌, ◌↔◌, Bool, false, ◌&&◌, cond, List, [], leb, ltb, eqb, length, get_or}
use Rattle.std.proofs.Math.Option.{Option}
use Rattle.std.specs.Int.Bits.{bit_and}
use Rattle.bits.specs.Packed.{Packed, bit_at, bit_of, bytes_for}
use Rattle.rules.specs.declared.Method.{Method}
use Rattle.rules.specs.declared.Method.TheVariants.{Plain, Hash, Skip, Wide, Tail}
use Rattle.rules.specs.Ranges.{implies, every, keep, among, least, greatest}
use Rattle.rules.specs.Pattern.{Pattern, agrees}
use Rattle.rules.specs.Occurrence.{places}
use Rattle.rules.specs.Plain.{from_bits, in_row, plain_next}
use Rattle.rules.specs.Hash.{last_eight}
use Rattle.rules.specs.Skip.{last_byte, skip_next}
use Rattle.rules.specs.Wide.{window, counts, beyond}
use Rattle.rules.specs.Step.{unfit}
use Rattle.rules.specs.Machine.{Run, stopped, cut, after}
use Rattle.rules.specs.Occurrence
use Rattle.rules.specs.Hash
use Rattle.rules.specs.Step
use Rattle.rules.specs.Machine

-- the test: the bit b equals w[j]
unfoldable pub equals : Pattern → ℕ → ℕ → Bool
equals w j b = eqb b (bit_at w.bytes j)

-- Occurrence

pub record Occurs (t : Packed) (w : Pattern) (s : ℕ) : Type 0 where
  pub inside : s < places t w
  pub same : (j : ℕ) → j < w.count → bit_at t.bytes (s + j) ≡ bit_at w.bytes j

unfoldable pub matches : Packed → Pattern → ℕ → Bool
matches t w s = every w.count (λ j. equals w j (bit_at t.bytes (s + j)))

unfoldable pub occurs : Packed → Pattern → ℕ → Bool
occurs t w s = ltb s (places t w) && matches t w s

unfoldable pub occurrences : Packed → Pattern → ℕ → ℕ → List ℕ
occurrences t w a b = among (occurs t w) a (b - a)

-- Plain

unfoldable pub row_bit : Pattern → ℕ → ℕ → ℕ → ℕ
row_bit w i h j = cond (in_row w i h j) (bit_at w.bytes (8 * h + j - i)) 0

unfoldable pub mask_bit : Pattern → ℕ → ℕ → ℕ → ℕ
mask_bit w i h j = cond (in_row w i h j) 1 0

unfoldable pub row_byte : Pattern → ℕ → ℕ → ℕ
row_byte w i h = from_bits (row_bit w i h) 8

unfoldable pub row_mask : Pattern → ℕ → ℕ → ℕ
row_mask w i h = from_bits (mask_bit w i h) 8

unfoldable pub row_fits : Packed → Pattern → ℕ → ℕ → Bool
row_fits t w i b =
    every (bytes_for (w.count + i)) (λ h. eqb (bit_and (get_or t.bytes (b + h) 0) (row_mask w i h)) (row_byte w i h))

unfoldable pub plain_finds : Packed → Pattern → ℕ → List ℕ
plain_finds t w s = keep (row_fits t w (s % 8) (s / 8)) s []

-- Hash

unfoldable pub meets : Pattern → ℕ → ℕ → Bool
meets w B d = every 8 (λ j. implies (leb (8 + d) (w.count + j)) (equals w (w.count + j - (8 + d)) (bit_of 8 B j)))

unfoldable pub hash_of : Pattern → ℕ → ℕ
hash_of w B = least (meets w B) 0 (1 + w.count)

unfoldable pub hash_again : Pattern → ℕ → ℕ
hash_again w B = least (meets w B) 1 w.count

unfoldable pub hash_finds : Packed → Pattern → ℕ → List ℕ
hash_finds t w s = keep (eqb (hash_of w (last_eight t w s)) 0 && matches t w s) s []

unfoldable pub hash_next : Packed → Pattern → ℕ → ℕ
hash_next t w s = s + cond (eqb (hash_of w (last_eight t w s)) 0) (hash_again w (last_eight t w s)) (hash_of w (last_eight t w s))

-- Skip

unfoldable pub shows : Packed → Pattern → ℕ → ℕ → Bool
shows t w b a = every 8 (λ j. equals w (8 * b - a + j) (bit_at t.bytes (8 * b + j)))

unfoldable pub shown_at : Packed → Pattern → ℕ → ℕ → Bool
shown_at t w b a = ltb a (places t w) && (shows t w b a && matches t w a)

unfoldable pub skip_finds : Packed → Pattern → ℕ → List ℕ
skip_finds t w s = among (shown_at t w (last_byte w s)) s (8 * last_byte w s + 1 - s)

-- Wide

unfoldable pub stands : Packed → Pattern → ℕ → ℕ → Bool
stands t w s i = every (window w) (λ q. implies (counts t w s i q) (equals w (q - i) (bit_at t.bytes (s + q))))

unfoldable pub flagged : Packed → Pattern → ℕ → ℕ → Bool
flagged t w s a = ltb a (places t w) && stands t w s (a - s)

unfoldable pub wide_finds : Packed → Pattern → ℕ → List ℕ
wide_finds t w s = among (flagged t w s) s 64

unfoldable pub last_index : Pattern → ℕ → Option ℕ
last_index w c = greatest (λ k. equals w k c) w.count

unfoldable pub wide_next : Packed → Pattern → ℕ → ℕ
wide_next t w s =
    cond (leb t.count (s + window w))
    (places t w)
    (beyond (s + window w) (last_index w (bit_at t.bytes (s + window w))))

-- Tail

unfoldable pub prefix_ends : Packed → Pattern → ℕ → ℕ → Bool
prefix_ends t w s r = every r (λ j. equals w j (bit_at t.bytes (s + w.count - r + j)))

unfoldable pub tail_length : Packed → Pattern → ℕ → Option ℕ
tail_length t w s = greatest (prefix_ends t w s) w.count

unfoldable pub tail_finds : Packed → Pattern → ℕ → List ℕ
tail_finds t w s = keep (matches t w s) s []

unfoldable pub tail_next : Packed → Pattern → ℕ → ℕ
tail_next t w s = beyond (s + w.count) (tail_length t w s)

-- Step

unfoldable pub finds : Method → Packed → Pattern → ℕ → List ℕ
finds Plain t w s = plain_finds t w s
finds Hash t w s = hash_finds t w s
finds Skip t w s = skip_finds t w s
finds Wide t w s = wide_finds t w s
finds Tail t w s = tail_finds t w s

unfoldable pub ahead : Method → Packed → Pattern → ℕ → ℕ
ahead Plain t w s = plain_next t w s
ahead Hash t w s = hash_next t w s
ahead Skip t w s = skip_next t w s
ahead Wide t w s = wide_next t w s
ahead Tail t w s = tail_next t w s

unfoldable pub next : Method → Packed → Pattern → ℕ → ℕ
next x t w s = min (ahead x t w s) (places t w)

-- Machine

unfoldable pub run : Method → Packed → Pattern → ℕ → ℕ → ℕ → Run
run x t w zero s cells = stopped (places t w) s
run x t w (suc b) s cells =
    let rest = run x t w b (next x t w s) (cells - length (finds x t w s)) in
    let whole = after 1 (finds x t w s) rest in
    let step = cond (leb (length (finds x t w s)) cells) whole (cut cells (finds x t w s)) in
    cond (ltb s (places t w)) step (stopped (places t w) s)

-- "a word with every bit fixed answers as today": the test, the occurrences, H(B), what each step finds, the next mark,
-- and so the whole run. What a step finds and the run are the same for a method that takes a pattern of that length: skip
-- compares the eight bits of a byte whether or not the pattern has as many, and its second run may have 0 from m on.
pub record AsBefore (t : Packed) (w : Pattern) : Type 0 where
  pub agrees_is : (j b : ℕ) → j < w.count → agrees w j b ≡ equals w j b
  pub occurs_iff : (s : ℕ) → Occurrence.Occurs t w s ↔ Occurs t w s
  pub occurrences_are : (a b : ℕ) → Occurrence.occurrences t w a b ≡ occurrences t w a b
  pub hash_of_is : (B : ℕ) → Hash.hash_of w B ≡ hash_of w B
  pub finds_are : (x : Method) → unfit x w.count ≡ false → (s : ℕ) → Step.finds x t w s ≡ finds x t w s
  pub next_is : (x : Method) (s : ℕ) → Step.next x t w s ≡ next x t w s
  pub run_is : (x : Method) → unfit x w.count ≡ false → (budget s cells : ℕ)
      → Machine.run x t w budget s cells ≡ run x t w budget s cells
