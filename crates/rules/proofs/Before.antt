-- For a pattern with every bit fixed each rule is what it was before patterns had wild bits: it compares bits below m
-- alone, and there agreement is equality. `Before.finds` is the rule as it was, `finds` as it is now.
use Prim.Native.Nat.{ℕ, zero, suc, ◌+◌, ◌-◌, ◌*◌, ◌/◌, ◌%◌, ◌≤◌, ◌<◌}
use mathlib.Core.Path.{◌≡◌, refl, ap}
use mathlib.Core.Logic.{◌↔◌}
use mathlib.Core.Bool.{Bool, true, false, ◌&&◌}
use native.Mathlib.Omega.{arith}
use lib.Dec.{leb, ltb}
use lib.ListN.{length}
use borrow.Author.Tests.{ltb-true, ltb-false, leb-true}
use Rattle.bits.specs.Packed.{Packed, bit_at}
use Rattle.rules.specs.declared.Method.{Method}
use Rattle.rules.specs.declared.Method.TheVariants.{Plain, Hash, Skip, Wide, Tail}
use Rattle.rules.specs.Ranges.{implies}
use Rattle.rules.specs.Pattern.{Pattern, agrees}
use Rattle.rules.specs.Wild.{AllFixed}
use Rattle.rules.specs.Occurrence.{Occurs, matches, occurs, occurrences}
use Rattle.rules.specs.Plain.{from_bits, in_row, fixed_in_row, row_bit, mask_bit, row_byte, row_mask, row_fits, plain_finds}
use Rattle.rules.specs.Hash.{meets, hash_of, hash_again, last_eight, hash_finds, hash_next}
use Rattle.rules.specs.Skip.{last_byte, shows, shown_at, skip_finds}
use Rattle.rules.specs.Wide.{window, counts, stands, flagged, wide_finds, last_index, beyond, wide_next}
use Rattle.rules.specs.Tail.{prefix_ends, tail_length, tail_finds, tail_next}
use Rattle.rules.specs.Step.{unfit, finds, ahead, next}
use Rattle.rules.specs.Machine.{run}
use Rattle.rules.specs.Before.{equals, AsBefore}
use Rattle.rules.specs.Before
use Rattle.rules.proofs.Ranges.{and_right, every_same, among_same, least_same, greatest_same}
use Rattle.rules.proofs.Occurrence.{occurs_bits}
use Rattle.rules.proofs.Wild.{agrees_all_fixed}

from_bits_same : (f g : ℕ → ℕ) (k : ℕ) → ((j : ℕ) → f j ≡ g j) → from_bits f k ≡ from_bits g k
unfolding from_bits
from_bits_same f g zero h = refl
from_bits_same f g (suc k) h = rw (from_bits_same f g k h, h k)

and_implied : (a b : Bool) → (a ≡ true → b ≡ true) → (a && b) ≡ a
and_implied true b h = h refl
and_implied false b h = refl

module _ (t : Packed) (w : Pattern) (f : AllFixed w) where
  agrees_is : (j b : ℕ) → j < w.count → agrees w j b ≡ equals w j b
  unfolding equals
  agrees_is = agrees_all_fixed w f

  -- where a condition keeps the index below m
  agrees_under : (c : Bool) (j b : ℕ) → (c ≡ true → j < w.count) → implies c (agrees w j b) ≡ implies c (equals w j b)
  agrees_under true j b h = agrees_is j b (h refl)
  agrees_under false j b h = refl

  -- Occurrence

  occurs_bit_by_bit : (s : ℕ) → Occurs t w s ↔ Before.Occurs t w s
  occurs_bit_by_bit s = (
    λ o. record { inside = o.inside; same = λ j l. ((occurs_bits t w s).0 o).1 j l (f j l) },
    λ o. (occurs_bits t w s).1 (o.inside, λ j l _. o.same j l),
  )

  matches_is : (s : ℕ) → matches t w s ≡ Before.matches t w s
  unfolding matches Before.matches
  matches_is s = every_same w.count _ _ (λ j l. agrees_is j _ l)

  occurrences_are : (a b : ℕ) → occurrences t w a b ≡ Before.occurrences t w a b
  unfolding occurrences occurs Before.occurrences Before.occurs
  occurrences_are a b = among_same _ _ a (b - a) (λ s _ _. rw (matches_is s))

  -- Plain

  in_row_is : (i h j : ℕ) → fixed_in_row w i h j ≡ in_row w i h j
  unfolding fixed_in_row in_row
  in_row_is i h j = and_implied _ _ (λ e. f _ (ltb-true _ _ (and_right (leb i (8 * h + j)) _ e)))

  row_byte_is : (i h : ℕ) → row_byte w i h ≡ Before.row_byte w i h
  unfolding row_byte row_bit Before.row_byte Before.row_bit
  row_byte_is i h = from_bits_same _ _ 8 (λ j. rw (in_row_is i h j))

  row_mask_is : (i h : ℕ) → row_mask w i h ≡ Before.row_mask w i h
  unfolding row_mask mask_bit Before.row_mask Before.mask_bit
  row_mask_is i h = from_bits_same _ _ 8 (λ j. rw (in_row_is i h j))

  row_fits_is : (i b : ℕ) → row_fits t w i b ≡ Before.row_fits t w i b
  unfolding row_fits Before.row_fits
  row_fits_is i b = every_same _ _ _ (λ h _. rw (row_byte_is i h, row_mask_is i h))

  plain_finds_are : (s : ℕ) → plain_finds t w s ≡ Before.plain_finds t w s
  unfolding plain_finds Before.plain_finds
  plain_finds_are s = rw (row_fits_is (s % 8) (s / 8))

  -- Hash

  meets_is : (B d : ℕ) → meets w B d ≡ Before.meets w B d
  unfolding meets Before.meets
  meets_is B d =
      every_same 8 _ _ (λ j l.
      agrees_under (leb (8 + d) (w.count + j)) (w.count + j - (8 + d)) _ (λ e.
      let low = leb-true (8 + d) (w.count + j) e in omega arith))

  hash_of_is : (B : ℕ) → hash_of w B ≡ Before.hash_of w B
  unfolding hash_of Before.hash_of
  hash_of_is B = least_same _ _ 0 (1 + w.count) (λ d _ _. meets_is B d)

  hash_again_is : (B : ℕ) → hash_again w B ≡ Before.hash_again w B
  unfolding hash_again Before.hash_again
  hash_again_is B = least_same _ _ 1 w.count (λ d _ _. meets_is B d)

  hash_finds_are : (s : ℕ) → hash_finds t w s ≡ Before.hash_finds t w s
  unfolding hash_finds Before.hash_finds
  hash_finds_are s = rw (hash_of_is (last_eight t w s), matches_is s)

  hash_next_is : (s : ℕ) → hash_next t w s ≡ Before.hash_next t w s
  unfolding hash_next Before.hash_next
  hash_next_is s = rw (hash_of_is (last_eight t w s), hash_again_is (last_eight t w s))

  -- Skip

  -- at each of the places that the byte decides, the pattern's eight bits there are below m
  shows_is : (s a : ℕ) → 15 ≤ w.count → s ≤ a → a ≤ 8 * last_byte w s
      → shows t w (last_byte w s) a ≡ Before.shows t w (last_byte w s) a
  unfolding shows Before.shows
  shows_is s a long low high = every_same 8 _ _ (λ j l. agrees_is _ _ (omega arith))

  skip_finds_are : (s : ℕ) → 15 ≤ w.count → skip_finds t w s ≡ Before.skip_finds t w s
  unfolding skip_finds shown_at Before.skip_finds Before.shown_at
  skip_finds_are s long = among_same _ _ s _ (λ a low high. rw (shows_is s a long low (omega arith), matches_is a))

  -- Wide

  stands_is : (s i : ℕ) → stands t w s i ≡ Before.stands t w s i
  unfolding stands counts Before.stands
  stands_is s i =
      every_same (window w) _ _ (λ q l.
      agrees_under (counts t w s i q) (q - i) _ (λ e.
      ltb-true _ _ (and_right (leb i q) _ (and_right (ltb (s + q) t.count) _ e))))

  wide_finds_are : (s : ℕ) → wide_finds t w s ≡ Before.wide_finds t w s
  unfolding wide_finds flagged Before.wide_finds Before.flagged
  wide_finds_are s = among_same _ _ s 64 (λ a _ _. rw (stands_is s (a - s)))

  last_index_is : (c : ℕ) → last_index w c ≡ Before.last_index w c
  unfolding last_index Before.last_index
  last_index_is c = greatest_same _ _ w.count (λ k l. agrees_is k c l)

  wide_next_is : (s : ℕ) → wide_next t w s ≡ Before.wide_next t w s
  unfolding wide_next Before.wide_next
  wide_next_is s = rw (last_index_is (bit_at t.bytes (s + window w)))

  -- Tail

  tail_finds_are : (s : ℕ) → tail_finds t w s ≡ Before.tail_finds t w s
  unfolding tail_finds Before.tail_finds
  tail_finds_are s = rw (matches_is s)

  tail_next_is : (s : ℕ) → tail_next t w s ≡ Before.tail_next t w s
  unfolding tail_next tail_length prefix_ends Before.tail_next Before.tail_length Before.prefix_ends
  tail_next_is s =
      ap (beyond (s + w.count))
      (greatest_same _ _ w.count (λ r l. every_same r _ _ (λ j h. agrees_is j _ (omega arith))))

  -- Step and machine

  finds_are : (x : Method) → unfit x w.count ≡ false → (s : ℕ) → finds x t w s ≡ Before.finds x t w s
  unfolding finds Before.finds
  finds_are Plain fit s = plain_finds_are s
  finds_are Hash fit s = hash_finds_are s
  finds_are Skip fit s = skip_finds_are s (ltb-false _ _ fit)
  finds_are Wide fit s = wide_finds_are s
  finds_are Tail fit s = tail_finds_are s

  ahead_is : (x : Method) (s : ℕ) → ahead x t w s ≡ Before.ahead x t w s
  unfolding ahead Before.ahead
  ahead_is Plain s = refl
  ahead_is Hash s = hash_next_is s
  ahead_is Skip s = refl
  ahead_is Wide s = wide_next_is s
  ahead_is Tail s = tail_next_is s

  next_is : (x : Method) (s : ℕ) → next x t w s ≡ Before.next x t w s
  unfolding next Before.next
  next_is x s = rw (ahead_is x s)

  run_is : (x : Method) → unfit x w.count ≡ false → (budget s cells : ℕ)
      → run x t w budget s cells ≡ Before.run x t w budget s cells
  unfolding run Before.run
  run_is x fit zero s cells = refl
  run_is x fit (suc b) s cells =
      rw (finds_are x fit s, next_is x s, run_is x fit b (Before.next x t w s) (cells - length (Before.finds x t w s)))

pub as_before : (t : Packed) (w : Pattern) → AllFixed w → AsBefore t w
as_before t w f =
    record {
      agrees_is = agrees_is t w f;
      occurs_iff = occurs_bit_by_bit t w f;
      occurrences_are = occurrences_are t w f;
      hash_of_is = hash_of_is t w f;
      finds_are = finds_are t w f;
      next_is = next_is t w f;
      run_is = run_is t w f;
    }
