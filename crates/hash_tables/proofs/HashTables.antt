-- How the hash method's table is made where no bit of the pattern is wild, a move less at a time: first the moves at which
-- fewer than eight bits are asked, by doubling, then those at which the pattern shows the whole value.
-- Assumes nothing.
use Prim.Native.Nat.{ℕ, suc, ◌+◌, ◌-◌, ◌*◌, ◌/◌, ◌%◌, ◌^◌, ◌≤◌, ◌<◌}
use mathlib.Core.Path.{◌≡◌, refl, sym, ap, ap₂, ◌∙◌}
use mathlib.Core.Logic.{◌↔◌}
use mathlib.Core.Bool.{Bool, true, false}
use mathlib.Core.List.{List, ◌++◌}
use native.Mathlib.Nat.{mod-eq_of_lt, mul-add-mod_self_right}
use native.Mathlib.Numerals.{add-one}
use native.Mathlib.Decide.{dec_le, ℕ_discrete}
use native.Mathlib.Omega.{arith}
use lib.Pow.{pow_mono, pow-add}
use lib.ListN.{length, get_or, set, drop, take, length-set, get_or-append}
use lib.Seq.{paste, get_or-set_same, get_or-set_other, get_or-take, get_or-append-add, length-take-le, length_paste_head, length-paste, drop-set-lt, drop-paste, drop-drop}
use Rattle.bits.specs.Packed.{bits_at}
use Rattle.bits.proofs.Run.{bits_lt, bits_first}
use Rattle.rules.specs.declared.Method.TheVariants.{Hash}
use Rattle.rules.specs.Ranges.{least}
use Rattle.rules.specs.Pattern.{Pattern}
use Rattle.rules.specs.Wild.{AllFixed}
use Rattle.rules.specs.Hash.{meets, hash_again}
use Rattle.hash_tables.specs.HashMoves.{Moves, Entered}
use Rattle.matcher.specs.Tables.{Prepared}
use Rattle.rules.proofs.Ranges.{same_test, not_true_false, least_same}
use Rattle.rules.proofs.Hash.{meets_load, meets_all}

-- The moves

module _ (f : ℕ → Bool) (i k : ℕ) where
  least_met : f i ≡ true → least f i (suc k) ≡ i
  unfolding least
  least_met h = rw h

  least_unmet : f i ≡ false → least f i (suc k) ≡ least f (suc i) k
  unfolding least
  least_unmet h = rw h

module _ (w : Pattern) (fixed : AllFixed w) where
  -- a value of k bits meets the condition at d just if it is the pattern's k bits from p on
  pub meets_value : (B d k p : ℕ) → p + k + d ≡ w.count → k ≤ 8 → (k < 8 → p ≡ 0) → B < 2 ^ k
      → (meets w B d ≡ true) ↔ (B ≡ bits_at w.bytes p k)
  meets_value B d k p size few first h =
      let r = meets_load w B d k p size few first (λ j l. fixed (p + j) (omega arith)) in
      let whole : B % 2 ^ k ≡ B = mod-eq_of_lt h in
      (λ e. sym whole ∙ r.0 e, λ e. r.1 (whole ∙ e))

  -- 2^j more changes no bit that the condition asks at d, where that is j bits or fewer
  meets_more : (B d j : ℕ) → d ≤ w.count → w.count ≤ d + j → j ≤ 8 → meets w (2 ^ j + B) d ≡ meets w B d
  meets_more B d j h l few =
      let size : 0 + (w.count - d) + d ≡ w.count = omega arith in
      let a = meets_load w (2 ^ j + B) d (w.count - d) 0 size (omega arith) (λ x. refl) (λ i l. fixed (0 + i) (omega arith)) in
      let b = meets_load w B d (w.count - d) 0 size (omega arith) (λ x. refl) (λ i l. fixed (0 + i) (omega arith)) in
      same_test _ _ (λ e. b.1 (sym rest ∙ a.0 e)) (λ e. a.1 (rest ∙ b.0 e))
    where
      k : ℕ
      k = w.count - d

      power : 2 ^ j ≡ 2 ^ (j - k) * 2 ^ k
      power = let parts : j ≡ (j - k) + k = omega arith in ap (λ (n : ℕ). 2 ^ n) parts ∙ pow-add 2 (j - k) k

      rest : (2 ^ j + B) % 2 ^ k ≡ B % 2 ^ k
      rest = ap (λ (x : ℕ). (x + B) % 2 ^ k) power ∙ mul-add-mod_self_right (2 ^ (j - k)) (2 ^ k) B

module _ (w : Pattern) where
  -- the greatest move: no bit is asked
  pub moves_last : (cells : List ℕ) → 0 < length cells → Moves w 1 w.count 1 (set cells 0 w.count)
  moves_last cells h B l =
      let none : B ≡ 0 = omega arith in
      ap (λ (i : ℕ). get_or (set cells 0 w.count) i 0) none
      ∙ get_or-set_same cells 0 w.count 0 h
      ∙ sym (least_met (meets w B) w.count 0 (meets_all w B))

  -- one move less: it goes to the one value that meets the condition there
  pub moves_set : (size d k v : ℕ) (cells : List ℕ) → Moves w size (suc d) k cells → v < length cells
      → ((B : ℕ) → B < size → (meets w B d ≡ true) ↔ (B ≡ v)) → Moves w size d (suc k) (set cells v d)
  moves_set size d k v cells f h one B l = go (ℕ_discrete B v)
    where
      go : Dec (B ≡ v) → get_or (set cells v d) B 0 ≡ least (meets w B) d (suc k)
      go (yes e) =
          ap (λ (i : ℕ). get_or (set cells v d) i 0) e
          ∙ get_or-set_same cells v d 0 h
          ∙ sym (least_met (meets w B) d k ((one B l).1 e))
      go (no n) =
          get_or-set_other cells v B d 0 n
          ∙ f B l
          ∙ sym (least_unmet (meets w B) d k (not_true_false _ (λ e. n ((one B l).0 e))))

-- the first cells and their copy
module _ (cells : List ℕ) (size k : ℕ) (room : size + k ≤ length cells) (i : ℕ) where
  pub paste_front : i < size → get_or (paste cells size cells k) i 0 ≡ get_or cells i 0
  paste_front h =
      get_or-append (take size cells ++ take k cells) (drop (size + k) cells) 0 i
      (rw (length_paste_head cells size cells k (omega arith) (omega arith)) (omega arith))
      ∙ get_or-append (take size cells) (take k cells) 0 i (rw (length-take-le size cells (omega arith)) h)
      ∙ get_or-take size cells i 0 h

  pub paste_copy : i < k → get_or (paste cells size cells k) (size + i) 0 ≡ get_or cells i 0
  paste_copy h =
      get_or-append (take size cells ++ take k cells) (drop (size + k) cells) 0 (size + i)
      (rw (length_paste_head cells size cells k (omega arith) (omega arith)) (omega arith))
      ∙ ap (λ (n : ℕ). get_or (take size cells ++ take k cells) (n + i) 0) (sym (length-take-le size cells (omega arith)))
      ∙ get_or-append-add (take size cells) (take k cells) i 0
      ∙ get_or-take k cells i 0 h

-- the cells after a copy
pub paste_rest : (cells : List ℕ) (size n : ℕ) → size + size ≤ length cells → size + size ≤ n → drop n (paste cells size cells size) ≡ drop n cells
paste_rest cells size n room h =
    let parts : n ≡ (size + size) + (n - (size + size)) = omega arith in
    rw parts
    (sym (drop-drop (n - (size + size)) (size + size) (paste cells size cells size))
    ∙ ap (drop (n - (size + size))) (drop-paste cells size cells size (omega arith) (omega arith))
    ∙ drop-drop (n - (size + size)) (size + size) cells)

-- Where each condition from d on asks j bits or fewer, the cells of 2^j values serve twice as many.
pub moves_double : (w : Pattern) → AllFixed w → (d k j size : ℕ) (cells : List ℕ) → size ≡ 2 ^ j → size + size ≤ length cells → Moves w size d k cells
    → d + k ≡ suc w.count → w.count ≤ d + j → j ≤ 8 → Moves w (size + size) d k (paste cells size cells size)
moves_double w fixed d k j size cells power room f top low few B h = go (dec_le size B)
  where
    go : Dec (size ≤ B) → get_or (paste cells size cells size) B 0 ≡ least (meets w B) d k
    go (no n) = paste_front cells size size room B (omega arith) ∙ f B (omega arith)
    go (yes l) =
        let there : B ≡ size + (B - size) = omega arith in
        let more : B ≡ 2 ^ j + (B - size) = rw (← power) there in
        ap (λ (i : ℕ). get_or (paste cells size cells size) i 0) there
        ∙ paste_copy cells size size room (B - size) (omega arith)
        ∙ f (B - size) (omega arith)
        ∙ sym (ap (λ (i : ℕ). least (meets w i) d k) more
        ∙ least_same (meets w (2 ^ j + (B - size))) (meets w (B - size)) d k (λ p a b. meets_more w fixed (B - size) p j (omega arith) (omega arith) few))

-- The table while only the pattern's first bits are asked, before turn k: the cells of k − 1 bits are made.
pub record Ends (w : Pattern) (before cells : List ℕ) (size k : ℕ) : Type 0 where
  pub low : 1 ≤ k
  pub high : k ≤ 8
  pub power : size ≡ 2 ^ (k - 1)
  pub moves : Moves w size (suc w.count - k) k cells
  pub same_size : length cells ≡ length before
  pub rest : drop 256 cells ≡ drop 256 before

-- before the first turn
pub ends_none : (w : Pattern) (cells : List ℕ) → 256 ≤ length cells → Ends w (set cells 0 w.count) (set cells 0 w.count) 1 1
ends_none w cells room =
    let all : suc w.count - 1 ≡ w.count = omega arith in
    record {
      low = omega arith;
      high = omega arith;
      power = refl;
      moves = λ B l. rw all (moves_last w cells (omega arith) B l);
      same_size = refl;
      rest = refl;
    }

module _ (w : Pattern) (fixed : AllFixed w) (long : 8 ≤ w.count) (before : List ℕ) (room : 256 ≤ length before) where
  module _ (cells : List ℕ) (size k : ℕ) (u : Ends w before cells size k) where
    pub ends_small : size ≤ 128
    ends_small = rw u.power (pow_mono {i = k - 1} {j = 7} (omega (arith, u.high)))

    twice : size + size ≡ 2 ^ k
    twice =
        let one_more : k ≡ (k - 1) + 1 = omega (arith, u.low) in
        let e = u.power in
        let p : 2 ^ k ≡ 2 ^ (k - 1) * 2 ^ 1 = ap (λ (n : ℕ). 2 ^ n) one_more ∙ pow-add 2 (k - 1) 1 in
        omega arith

    fits : size + size ≤ length cells
    fits = omega (arith, ends_small, u.same_size)

    doubled : Moves w (size + size) (suc w.count - k) k (paste cells size cells size)
    doubled =
        let l = u.low in
        let h = u.high in
        moves_double w fixed (suc w.count - k) k (k - 1) size cells u.power fits u.moves (omega arith) (omega arith) (omega arith)

    doubled_size : length (paste cells size cells size) ≡ length before
    doubled_size = length-paste cells size cells size fits (omega (arith, fits)) ∙ u.same_size

    doubled_rest : drop 256 (paste cells size cells size) ≡ drop 256 before
    doubled_rest = paste_rest cells size 256 fits (omega (arith, ends_small)) ∙ u.rest

    -- one bit more
    pub ends_more : (v : ℕ) → v ≡ bits_at w.bytes 0 8 / 2 ^ (8 - k) → k < 8
        → Ends w before (set (paste cells size cells size) v (w.count - k)) (size * 2) (k + 1)
    ends_more v e h =
        record {
          low = omega arith;
          high = omega arith;
          power = power;
          moves = λ B l. rw (again, add-one k) (set_in B (omega arith));
          same_size = length-set (paste cells size cells size) v (w.count - k) ∙ doubled_size;
          rest = drop-set-lt 256 (paste cells size cells size) v (w.count - k) (omega (arith, below, small)) ∙ doubled_rest;
        }
      where
        there : v ≡ bits_at w.bytes 0 k
        there = e ∙ bits_first w.bytes 0 {j = k} {k = 8} (omega arith)

        below : v < size + size
        below = rw (there, twice) (bits_lt w.bytes 0 k)

        small : size ≤ 128
        small = ends_small

        again : suc w.count - (k + 1) ≡ w.count - k
        again = omega arith

        power : size * 2 ≡ 2 ^ (k + 1 - 1)
        power =
            let same : k + 1 - 1 ≡ k = omega arith in
            let t = twice in
            rw same (omega arith)

        before_it : suc w.count - k ≡ suc (w.count - k)
        before_it = omega arith

        set_in : Moves w (size + size) (w.count - k) (suc k) (set (paste cells size cells size) v (w.count - k))
        set_in =
            moves_set w (size + size) (w.count - k) k v (paste cells size cells size)
            (λ B l. rw before_it at (doubled B l))
            (omega (arith, below, fits, doubled_size, u.same_size))
            (λ B l. rw there (meets_value w fixed B (w.count - k) k 0 (omega arith) (omega arith) (λ x. refl) (rw twice at l)))

-- all turns are made, and the last copy: the moves above m − 8 are entered
pub ends_made : (w : Pattern) → AllFixed w → 8 ≤ w.count → (before : List ℕ) → 256 ≤ length before → (cells : List ℕ) (size k : ℕ)
    → Ends w (set before 0 w.count) cells size k → k ≡ 8 → Entered w before (paste cells size cells size) (w.count - 8)
ends_made w fixed long before room cells size k u last =
    let size_set : length (set before 0 w.count) ≡ length before = length-set before 0 w.count in
    let room_set : 256 ≤ length (set before 0 w.count) = omega arith in
    let all : size + size ≡ 256 = twice w fixed long _ room_set cells size k u ∙ ap (λ (n : ℕ). 2 ^ n) last in
    let from : suc w.count - k ≡ suc (w.count - 8) = omega arith in
    let number : k ≡ w.count - (w.count - 8) = omega arith in
    record {
      moves = λ B l. doubled w fixed long _ room_set cells size k u B (rw all l) ∙ ap₂ (least (meets w B)) from number;
      size = doubled_size w fixed long _ room_set cells size k u ∙ size_set;
      rest = doubled_rest w fixed long _ room_set cells size k u ∙ drop-set-lt 256 before 0 w.count (omega arith);
    }

-- one move less: it goes to the value that the pattern shows d before its last eight bits
pub entered_more : (w : Pattern) → AllFixed w → (before cells : List ℕ) (d v : ℕ) → Entered w before cells d → 256 ≤ length before → 0 < d
    → d + 8 ≤ w.count → v ≡ bits_at w.bytes (w.count - 8 - d) 8 → Entered w before (set cells v d) (d - 1)
entered_more w fixed before cells d v u room h top e =
    record {
      moves = λ B l. rw (this, more) (set_in B l);
      size = length-set cells v d ∙ u.size;
      rest = drop-set-lt 256 cells v d below ∙ u.rest;
    }
  where
    this : suc (d - 1) ≡ d
    this = omega arith

    more : w.count - (d - 1) ≡ suc (w.count - d)
    more = omega arith

    below : v < 256
    below = rw e (bits_lt w.bytes (w.count - 8 - d) 8)

    set_in : Moves w 256 d (suc (w.count - d)) (set cells v d)
    set_in =
        moves_set w 256 d (w.count - d) v cells u.moves (omega (arith, below, u.size))
        (λ B l. rw e (meets_value w fixed B d 8 (w.count - 8 - d) (omega arith) (omega arith) (λ x. absurd (omega arith)) l))

-- the same, whatever was before
pub entered_here : {w : Pattern} {before cells : List ℕ} {d : ℕ} → Entered w before cells d → Entered w cells cells d
entered_here u = record { moves = u.moves; size = refl; rest = refl }

-- one part and then another
pub entered_then : {w : Pattern} {before middle cells : List ℕ} {d e : ℕ} → Entered w before middle d → Entered w middle cells e
    → Entered w before cells e
entered_then u v = record { moves = v.moves; size = v.size ∙ u.size; rest = v.rest ∙ u.rest }

-- all are entered: the least move from 1 on is what the table holds
pub entered_all : (w : Pattern) (before cells : List ℕ) → Entered w before cells 0 → Prepared Hash w before cells
unfolding hash_again
entered_all w before cells u =
    let all : w.count - 0 ≡ w.count = omega arith in
    record {
      tables = record { move_is = λ B l. rw all at (u.moves B l) };
      size = u.size;
      rest = sym (drop-drop 256 256 cells) ∙ ap (drop 256) u.rest ∙ drop-drop 256 256 before;
    }
