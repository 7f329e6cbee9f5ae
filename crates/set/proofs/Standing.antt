-- Laws of what stands at a place: a pattern that occurs begins there, and so has its flag; flags taken lowest first give the
-- patterns that stand; and their pairs are written one after the other.
-- Assumes nothing.
use Prim.Native.Nat.{ℕ, suc, ◌+◌, ◌-◌, ◌*◌, ◌/◌, ◌^◌, ◌≤◌, ◌<◌}
use mathlib.Core.Path.{◌≡◌, refl, sym, ap, ap₂, ◌∙◌}
use mathlib.Core.Bool.{Bool, true, false, ◌&&◌, cond}
use mathlib.Core.List.{List, [], ◌∷◌, ◌++◌, map, map-append, append-nil}
use native.Mathlib.Nat.{zero-add}
use native.Mathlib.Numerals.{add-one}
use native.Mathlib.Omega.{arith}
use lib.Dec.{ltb}
use lib.ListN.{length, get_or, take, drop, set, length-take, length-map}
use lib.Seq.{sets, take-suc}
use borrow.Author.Rules.{part_to_end}
use borrow.Author.Tests.{ltb-true, lt-ltb, eqb-true, eqb-false}
use Rattle.bits.specs.Packed.{Packed, weight, bit_at, bits_at}
use Rattle.bits.proofs.Weight.{weight_shr, weight_zero, weight_lt}
use Rattle.bits.proofs.Run.{bit_of_bits}
use Rattle.rules.specs.Ranges.{keep, among}
use Rattle.rules.specs.Pattern.{Pattern, agrees}
use Rattle.rules.specs.Occurrence.{matches, occurs}
use Rattle.rules.proofs.Ranges.{and_left, and_right, and_both, implies_to, to_implies, not_true_false, every_at, to_every, among_append, among_none, among_length}
use Rattle.rules.proofs.Occurrence.{to_matches, occurs_iff, occurs_inside, none_from_places}
use Rattle.matcher.specs.Progress.{Writing}
use Rattle.matcher.specs.Ready.{text_of, pattern_of}
use Rattle.matcher.proofs.Writing.{writing_none, writing_more, sets_append}
use Rattle.set_rules.specs.PatternSet.{PatternSet, start_of, pattern_at}
use Rattle.set_rules.specs.Hits.{Hit, hit_at, standing, cells_of}
use Rattle.set_tables.specs.Fronts.{begins, Flags}
use Rattle.set.specs.Ones.{flagged, ones}
use Rattle.set.specs.Parts.{PairsWritten}
use Rattle.set.proofs.Lowest.{Head, among_head, among_nil}

-- The first 32 bits of a pattern, compared with those of the text at p

module _ (w : Pattern) (text : List ℕ) (p : ℕ) where
  same_bit : (j : ℕ) → j < 32 → agrees w (0 + j) (weight (bits_at text p 32) (32 - 1 - j)) ≡ agrees w j (bit_at text (p + j))
  same_bit j l = ap₂ (agrees w) (zero-add j) (bit_of_bits text p {j = j} {k = 32} l)

  pub begins_at : begins w 0 32 (bits_at text p 32) ≡ true → (j : ℕ) → j < 32 → j < w.count → agrees w j (bit_at text (p + j)) ≡ true
  unfolding begins
  begins_at e j l u = sym (same_bit j l) ∙ implies_to (ltb (0 + j) w.count) _ (every_at 32 _ e j l) (lt-ltb (0 + j) w.count (omega arith))

  pub to_begins : ((j : ℕ) → j < w.count → agrees w j (bit_at text (p + j)) ≡ true) → begins w 0 32 (bits_at text p 32) ≡ true
  unfolding begins
  to_begins h =
      to_every 32 _ (λ j l.
      to_implies (ltb (0 + j) w.count) _ (λ e. same_bit j l ∙ h j (omega (arith, ltb-true (0 + j) w.count e))))

-- A pattern whose first 32 bits agree stands or not

module _ (t : Packed) (w : Pattern) (p : ℕ) where
  -- it does not fit
  pub stands_out : t.count < p + w.count → false ≡ occurs t w p
  stands_out h = sym (none_from_places t w p (omega arith))

  -- it fits, and has no more bits than those
  pub stands_short : p + w.count ≤ t.count → w.count ≤ 32 → begins w 0 32 (bits_at t.bytes p 32) ≡ true → true ≡ occurs t w p
  stands_short h few e =
      sym (occurs_inside t w p (omega arith) ∙ to_matches t w p (λ j l. begins_at w t.bytes p e j (omega arith) l))

  -- it fits: all of its bits are compared, and the text's bit count plays no part in that
  pub stands_whole : p + w.count ≤ t.count → matches (text_of t.bytes 0) w p ≡ occurs t w p
  unfolding matches
  stands_whole h = sym (occurs_inside t w p (omega arith))

  -- a pattern that occurs begins there
  pub occurs_begins : occurs t w p ≡ true → begins w 0 32 (bits_at t.bytes p 32) ≡ true
  occurs_begins e = to_begins w t.bytes p ((occurs_iff t w p).0 e).same

-- The two runs from its first byte on are the pattern's

module _ (ws : PatternSet) (i start : ℕ) (e : start ≡ start_of ws.counts i) where
  from_start : pattern_of (take (length ws.bytes - start) (drop start ws.bytes)) (take (length ws.fixed - start) (drop start ws.fixed)) (get_or ws.counts i 0)
      ≡ pattern_at ws i
  from_start =
      ap₂ (λ (a b : List ℕ). pattern_of a b (get_or ws.counts i 0))
      (part_to_end ws.bytes start ∙ ap (λ (a : ℕ). drop a ws.bytes) e)
      (part_to_end ws.fixed start ∙ ap (λ (a : ℕ). drop a ws.fixed) e)

  -- and it stands where they do
  pub stands_from : (t : Packed) (p : ℕ) (r : Bool) → p + get_or ws.counts i 0 ≤ t.count
      → r
      ≡ matches (text_of t.bytes 0)
      (pattern_of (take (length ws.bytes - start) (drop start ws.bytes)) (take (length ws.fixed - start) (drop start ws.fixed)) (get_or ws.counts i 0)) p
      → r ≡ occurs t (pattern_at ws i) p
  stands_from t p r h same =
      same ∙ ap (λ (w : Pattern). matches (text_of t.bytes 0) w p) from_start ∙ stands_whole t (pattern_at ws i) p h

-- Flags of the patterns that begin at p

flag_one : (b : Bool) → ◌≡◌ {A = ℕ} (cond b 1 0) 1 → b ≡ true
flag_one true e = refl
flag_one false e = absurd (omega arith)

module _ (t : Packed) (ws : PatternSet) (p flags : ℕ)
    (marked : Flags ws (length ws.counts) (λ w. begins w 0 32 (bits_at t.bytes p 32)) flags) where
  -- a pattern whose flag is not set does not occur
  pub unset : (i : ℕ) → i < length ws.counts → weight flags i ≡ 0 → occurs t (pattern_at ws i) p ≡ false
  unset i l e = not_true_false _ (λ o.
      let on : (ltb i (length ws.counts) && begins (pattern_at ws i) 0 32 (bits_at t.bytes p 32)) ≡ true
      = and_both (lt-ltb i _ l) (occurs_begins t (pattern_at ws i) p o) in
      let one : weight flags i ≡ 1 = marked i ∙ ap (λ (b : Bool). cond b 1 0) on in
      omega arith)

  -- a flag that is set is that of a pattern that begins there
  flag_set : (i : ℕ) → weight flags i ≡ 1 → (ltb i (length ws.counts) && begins (pattern_at ws i) 0 32 (bits_at t.bytes p 32)) ≡ true
  flag_set i e = flag_one _ (sym (marked i) ∙ e)

  pub set_known : (i : ℕ) → weight flags i ≡ 1 → i < length ws.counts
  set_known i e = ltb-true _ _ (and_left (ltb i (length ws.counts)) _ (flag_set i e))

  pub set_begins : (i : ℕ) → weight flags i ≡ 1 → begins (pattern_at ws i) 0 32 (bits_at t.bytes p 32) ≡ true
  set_begins i e = and_right (ltb i (length ws.counts)) _ (flag_set i e)

  -- no flag is set from bit a on, and so no pattern from there on occurs
  pub none_left : (a : ℕ) → flags / 2 ^ a ≡ 0 → among (λ i. occurs t (pattern_at ws i) p) a (length ws.counts - a) ≡ []
  none_left a e =
      among_none _ a _ (λ i l u.
      let there : a + (i - a) ≡ i = omega arith in
      unset i (omega arith) (ap (weight flags) (sym there) ∙ sym (weight_shr flags a (i - a)) ∙ ap (λ (x : ℕ). weight x (i - a)) e ∙ weight_zero (i - a)))

-- Flags taken lowest first

-- the patterns before number `from` are settled, and f has the flags of those from there on
pub record Finding (t : Packed) (ws : PatternSet) (p flags : ℕ) (before numbers : List ℕ) (f count : ℕ) : Type 0 where
  pub from : ℕ
  pub upto : from ≤ length ws.counts
  pub rest : ones f ≡ among (flagged flags) from (64 - from)
  pub writing : Writing before 0 (among (λ i. occurs t (pattern_at ws i) p) 0 from) numbers count

module _ (t : Packed) (ws : PatternSet) (p flags : ℕ) (few : length ws.counts ≤ 64)
    (marked : Flags ws (length ws.counts) (λ w. begins w 0 32 (bits_at t.bytes p 32)) flags) (before : List ℕ) where
  abbrev stands_there : ℕ → Bool
  stands_there i = occurs t (pattern_at ws i) p

  -- a pattern without a flag does not stand there
  clear : (i : ℕ) → i < length ws.counts → flagged flags i ≡ false → stands_there i ≡ false
  clear i l e = unset t ws p flags marked i l (omega (arith, eqb-false (weight flags i) 1 e, weight_lt flags i))

  pub finding_none : Finding t ws p flags before before flags 0
  unfolding among
  finding_none = record { from = 0; upto = omega arith; rest = refl; writing = writing_none before 0 (omega arith) }

  module _ (numbers : List ℕ) (f count : ℕ) (g : Finding t ws p flags before numbers f count) where
    -- no flag is left
    pub found : ones f ≡ [] → Writing before 0 (standing t ws p) numbers count
    unfolding standing
    found e =
        let whole : length ws.counts ≡ g.from + (length ws.counts - g.from) = omega (arith, g.upto) in
        let none : among stands_there g.from (length ws.counts - g.from) ≡ []
        = among_none stands_there g.from (length ws.counts - g.from) (λ i l u.
        clear i (omega (arith, g.upto)) (among_nil (flagged flags) g.from (64 - g.from) (sym g.rest ∙ e) i l (omega (arith, g.upto)))) in
        let all : among stands_there 0 (length ws.counts) ≡ among stands_there 0 g.from
        = ap (among stands_there 0) whole
        ∙ among_append stands_there 0 g.from (length ws.counts - g.from)
        ∙ ap (λ (l : List ℕ). among stands_there 0 g.from ++ l)
        (ap (λ (a : ℕ). among stands_there a (length ws.counts - g.from)) (zero-add g.from) ∙ none)
        ∙ append-nil _ in
        rw all g.writing

    -- the lowest flag that is left, and the others
    module _ (e f' : ℕ) (taken : ones f ≡ e ∷ ones f') where
      head : Head (flagged flags) g.from (64 - g.from) e (ones f')
      head = among_head (flagged flags) g.from (64 - g.from) e (ones f') (sym g.rest ∙ taken)

      on : weight flags e ≡ 1
      on = eqb-true (weight flags e) 1 head.passes

      pub lowest_flagged : flagged flags e ≡ true
      lowest_flagged = head.passes

      pub lowest_known : e < length ws.counts
      lowest_known = set_known t ws p flags marked e on

      pub lowest_begins : begins (pattern_at ws e) 0 32 (bits_at t.bytes p 32) ≡ true
      lowest_begins = set_begins t ws p flags marked e on

      -- as many numbers are written as patterns passed, at most
      pub few_found : count < 64
      few_found = omega (arith, g.writing.count, among_length stands_there 0 g.from, head.low, lowest_known, few)

      others : ones f' ≡ among (flagged flags) (e + 1) (64 - (e + 1))
      others = let size : g.from + (64 - g.from) - (e + 1) ≡ 64 - (e + 1) = omega (arith, g.upto, few) in head.rest ∙ ap (among (flagged flags) (e + 1)) size

      -- those between are settled with it
      passed : (b : Bool) → stands_there e ≡ b → among stands_there 0 (e + 1) ≡ among stands_there 0 g.from ++ keep b e []
      unfolding among
      passed b is =
          let whole : e ≡ g.from + (e - g.from) = omega (arith, head.low) in
          let between : among stands_there g.from (e - g.from) ≡ []
          = among_none stands_there g.from (e - g.from) (λ i l u. clear i (omega (arith, lowest_known)) (head.between i l (omega arith))) in
          let front : among stands_there 0 e ≡ among stands_there 0 g.from
          = ap (among stands_there 0) whole
          ∙ among_append stands_there 0 g.from (e - g.from)
          ∙ ap (λ (l : List ℕ). among stands_there 0 g.from ++ l) (ap (λ (a : ℕ). among stands_there a (e - g.from)) (zero-add g.from) ∙ between)
          ∙ append-nil _ in
          let last : among stands_there (0 + e) 1 ≡ keep b e []
          = ap (λ (a : ℕ). among stands_there a 1) (zero-add e) ∙ ap (λ (c : Bool). keep c e []) is in
          among_append stands_there 0 e 1 ∙ ap₂ ◌++◌ front last

      -- its pattern does not stand there
      pub finding_miss : stands_there e ≡ false → Finding t ws p flags before numbers f' count
      finding_miss is =
          let same : among stands_there 0 (e + 1) ≡ among stands_there 0 g.from = passed false is ∙ append-nil _ in
          record { from = e + 1; upto = omega (arith, lowest_known); rest = others; writing = rw same g.writing }

      -- it does
      pub finding_hit : stands_there e ≡ true → count < length before → Finding t ws p flags before (set numbers count e) f' (count + 1)
      finding_hit is room =
          record {
            from = e + 1;
            upto = omega (arith, lowest_known);
            rest = others;
            writing = rw (passed true is) (writing_more before 0 (among stands_there 0 g.from) numbers count e g.writing room);
          }

-- Pairs written

pub cells_append : (a b : List Hit) → cells_of (a ++ b) ≡ cells_of a ++ cells_of b
unfolding cells_of
cells_append [] b = refl
cells_append (h ∷ a) b = rw (cells_append a b) refl

pub cells_length : (l : List Hit) → length (cells_of l) ≡ 2 * length l
unfolding cells_of
cells_length [] = refl
cells_length (h ∷ l) = omega (arith, cells_length l)

-- one pair more
pub pair_more : (before : List ℕ) (s : ℕ) (numbers list : List ℕ) (j : ℕ) → j < length numbers → PairsWritten before 0 s (take j numbers) list
    → PairsWritten before 0 s (take (j + 1) numbers) (set (set list (2 * j) s) (2 * j + 1) (get_or numbers j 0))
unfolding cells_of
pair_more before s numbers list j l e =
    let done : List ℕ = cells_of (map (hit_at s) (take j numbers)) in
    let size : length done ≡ 2 * j
    = cells_length (map (hit_at s) (take j numbers)) ∙ ap (λ (n : ℕ). 2 * n) (length-map (take j numbers) (hit_at s) ∙ length-take j numbers ∙ omega arith) in
    let more : cells_of (map (hit_at s) (take (j + 1) numbers)) ≡ done ++ s ∷ get_or numbers j 0 ∷ []
    = ap (λ (l : List ℕ). cells_of (map (hit_at s) l)) (ap (λ (n : ℕ). take n numbers) (add-one j) ∙ take-suc numbers j 0 l)
    ∙ ap cells_of (map-append (hit_at s) (take j numbers) (get_or numbers j 0 ∷ []))
    ∙ cells_append (map (hit_at s) (take j numbers)) _ in
    let first : 2 * j ≡ 0 + length done = omega arith in
    let second : 2 * j + 1 ≡ suc (0 + length done) = omega arith in
    ap₂ (λ (a b : ℕ). set (set list a s) b (get_or numbers j 0)) first second
    ∙ ap (λ (l : List ℕ). set (set l (0 + length done) s) (suc (0 + length done)) (get_or numbers j 0)) e
    ∙ sym (ap (sets before 0) more ∙ sets_append before 0 done (s ∷ get_or numbers j 0 ∷ []))
