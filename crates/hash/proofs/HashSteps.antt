-- A step of the hash method by its table: it moves by the cell of its eight bits, and finds its place just where the
-- pattern stands.
-- Assumes nothing.
use Prim.Native.Nat.{ℕ, ◌+◌, ◌-◌, ◌*◌, ◌^◌, ◌≤◌, ◌<◌, min}
use mathlib.Core.Path.{◌≡◌, refl, sym, ap, ◌∙◌}
use mathlib.Core.Bool.{Bool, true, false, cond}
use mathlib.Core.List.{List, []}
use native.Mathlib.Numerals.{one-add}
use native.Mathlib.Decide.{dec_le}
use native.Mathlib.Omega.{arith}
use lib.Bits.{bit_and, bit_xor}
use lib.Dec.{eqb}
use lib.ListN.{length, get_or, set, get_or-eq_default}
use borrow.Author.Tests.{ne_eqb}
use Rattle.bits.specs.Packed.{Packed, bytes_for, bits_at}
use Rattle.bits.proofs.Run.{bits_lt}
use Rattle.rules.specs.declared.Method.TheVariants.{Hash}
use Rattle.rules.specs.Ranges.{keep, least}
use Rattle.rules.specs.Pattern.{Pattern}
use Rattle.rules.specs.Occurrence.{places, Occurs, matches}
use Rattle.rules.specs.Hash.{meets, hash_of, hash_again, last_eight, hash_finds, hash_next}
use Rattle.rules.specs.Step.{finds, ahead, next}
use Rattle.matcher.specs.Progress.{Stepped}
use Rattle.matcher.specs.Ready.{Ready, GoodPattern}
use Rattle.rules.proofs.Ranges.{not_true_false}
use Rattle.rules.proofs.Occurrence.{matches_at, occurs_inside}
use Rattle.rules.proofs.Hash.{LeastMeeting, again_least, occurs_meets, hash_compares}
use Rattle.matcher.proofs.Writing.{alone_cut, alone_hit, alone_miss}
use Rattle.hash_tables.proofs.HashValues.{long_enough, shown_whole}

-- eight bits of the pattern lie inside its bytes, and those of the second run inside its own
pub eight_of_run : (run : List ℕ) (w : Pattern) → GoodPattern Hash w → (p : ℕ) → p + 8 ≤ w.count → bytes_for w.count ≤ length run
    → (p + 8 ≤ length run * 8) × (p + 8 ≤ 2 ^ 32)
eight_of_run run w g p h b =
    let f = g.few_bits in
    (omega arith, omega arith)

-- whether H(B) is 0 or not, the move is the least d from 1 on
move_again : (w : Pattern) (B : ℕ) → 1 ≤ w.count → cond (eqb (hash_of w B) 0) (hash_again w B) (hash_of w B) ≡ hash_again w B
unfolding hash_of hash_again least
move_again w B h = rw (one-add w.count) (go (meets w B 0))
  where
    again : ℕ
    again = least (meets w B) 1 w.count

    some : again ≡ 0 → ⊥
    some e = omega (arith, (again_least w B h).low)

    go : (z : Bool) → cond (eqb (cond z 0 again) 0) again (cond z 0 again) ≡ again
    go true = refl
    go false = rw (ne_eqb again 0 some)

-- What the cell of the eight bits at s holds.
pub record CellAt (t : Packed) (w : Pattern) (cells : List ℕ) (s v : ℕ) : Type 0 where
  pub small : v < 256
  pub there : v < length cells
  pub low : 1 ≤ get_or cells v 0
  pub high : get_or cells v 0 ≤ w.count
  pub moves : next Hash t w s ≡ min (s + get_or cells v 0) (places t w)

module _ (t : Packed) (w : Pattern) (cells : List ℕ) (ready : Ready Hash t w cells) where
  long : 8 ≤ w.count
  long = long_enough w ready.pattern

  pub cell_at : (s v : ℕ) → v ≡ bits_at t.bytes (s + (w.count - 8)) 8 → CellAt t w cells s v
  unfolding next ahead hash_next last_eight
  cell_at s v e =
      record { small = rw e (bits_lt t.bytes (s + (w.count - 8)) 8); there = inside; low = rw cell r.low; high = rw cell r.high; moves = rw cell moved }
    where
      B : ℕ
      B = bits_at t.bytes (s + w.count - 8) 8

      same : v ≡ B
      same =
          let l = long in
          let at : s + (w.count - 8) ≡ s + w.count - 8 = omega arith in
          e ∙ ap (λ (p : ℕ). bits_at t.bytes p 8) at

      r : LeastMeeting w B 1 (hash_again w B)
      r = again_least w B (omega (arith, long))

      cell : get_or cells v 0 ≡ hash_again w B
      cell = ap (λ (x : ℕ). get_or cells x 0) same ∙ ready.tables.move_is B (bits_lt t.bytes (s + w.count - 8) 8)

      inside : v < length cells
      inside = go (dec_le (length cells) v)
        where
          go : Dec (length cells ≤ v) → v < length cells
          go (yes h) = absurd (omega (arith, r.low, sym cell ∙ get_or-eq_default cells 0 h))
          go (no h) = omega arith

      moved : min (s + cond (eqb (hash_of w B) 0) (hash_again w B) (hash_of w B)) (places t w) ≡ min (s + hash_again w B) (places t w)
      moved = ap (λ (d : ℕ). min (s + d) (places t w)) (move_again w B (omega (arith, long)))

  -- the last eight bits of a window lie inside the text's bytes
  pub eight_inside : (s : ℕ) → s < places t w
      → (s + (w.count - 8) + 8 ≤ length t.bytes * 8) × (s + (w.count - 8) + 8 ≤ 2 ^ 32)
  eight_inside s h =
      let l = long in
      let b = ready.bytes_there in
      let f = ready.few_bits in
      let i = ready.inside in
      (omega arith, omega arith)

  -- where these eight bits differ from the pattern's last at a fixed one, it does not stand
  pub differs : {v last care : ℕ} (s : ℕ) → s < places t w → v ≡ bits_at t.bytes (s + (w.count - 8)) 8
      → last ≡ bits_at w.bytes (w.count - 8) 8 → care ≡ bits_at w.fixed (w.count - 8) 8
      → (bit_and (bit_xor v last) care ≡ 0 → ⊥) → matches t w s ≡ false
  unfolding last_eight
  differs s inside ev el ec ne =
      not_true_false _ (λ hit.
      let l = long in
      let at : s + w.count - 8 ≡ s + (w.count - 8) = omega arith in
      let here : s + 0 ≡ s = omega arith in
      let end : w.count - 8 - 0 ≡ w.count - 8 = omega arith in
      let occurs : Occurs t w (s + 0) = rw here (record { inside = inside; same = matches_at t w s hit }) in
      let met : meets w (bits_at t.bytes (s + (w.count - 8)) 8) 0 ≡ true = rw at at (occurs_meets t w s l 0 occurs) in
      ne (rw (ev, el, ec) (rw end at ((shown_whole w (bits_at t.bytes (s + (w.count - 8)) 8) 0 (omega arith) (bits_lt t.bytes (s + (w.count - 8)) 8)).0 met))))

  -- a step finds its place just where the pattern stands
  pub step_finds : (s : ℕ) → s < places t w → finds Hash t w s ≡ keep (matches t w s) s []
  unfolding finds hash_finds
  step_finds s inside = ap (λ (b : Bool). keep b s []) (hash_compares t w s long inside ∙ occurs_inside t w s inside)

  module _ (s : ℕ) (inside : s < places t w) (before : List ℕ) (had : ℕ) where
    pub stepped_cut : matches t w s ≡ true → had ≡ length before → Stepped Hash t w s before had s had true before
    stepped_cut = alone_cut Hash t w s before had (step_finds s inside)

    pub stepped_hit : (at : ℕ) → at ≡ next Hash t w s → matches t w s ≡ true → had < length before → Stepped Hash t w s before had at (had + 1) false (set before had s)
    stepped_hit = alone_hit Hash t w s before had (step_finds s inside)

    pub stepped_miss : (at : ℕ) → at ≡ next Hash t w s → matches t w s ≡ false → had ≤ length before → Stepped Hash t w s before had at had false before
    stepped_miss = alone_miss Hash t w s before had (step_finds s inside)
