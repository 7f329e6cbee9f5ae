-- What is printed: `bad input` just for input that is not good; else the five lines, where each way that takes the word
-- lists all occurrences, and the others are refused with number 5.
-- Assumes nothing.
use Prim.Native.Nat.{ℕ, ◌+◌, ◌-◌, ◌/◌, ◌%◌, ◌^◌, ◌≤◌, ◌<◌}
use mathlib.Core.Path.{◌≡◌, refl, sym, ap, ◌∙◌}
use mathlib.Core.Bool.{true, false}
use mathlib.Core.Logic.{◌↔◌}
use mathlib.Core.List.{List, ◌++◌}
use native.Mathlib.Omega.{arith}
use lib.ListN.{length, get_or, take, replicate, length-replicate, get_or-replicate}
use borrow.Author.Tests.{lt-ltb, le-ltb, ne_eqb}
use Rattle.bits.specs.Packed.{Packed, bytes_for, bit_at}
use Rattle.bits.proofs.Weight.{weight_ones}
use Rattle.rules.specs.declared.Method.{Method}
use Rattle.rules.specs.declared.Method.TheVariants.{Plain, Hash, Skip, Wide, Tail}
use Rattle.rules.specs.Pattern.{Pattern}
use Rattle.rules.specs.Occurrence.{places, Occurs, occurrences}
use Rattle.rules.specs.Step.{unfit}
use Rattle.rules.specs.Scratch.{scratch_cells}
use Rattle.rules.specs.Machine.{Ending, done, spent, full, Run, Left}
use Rattle.rules.proofs.Pattern.{fixed_iff}
use Rattle.rules.proofs.Occurrence.{occurs_bits, occurrences_rising, occurrences_exactly, occurrences_length}
use Rattle.rules.proofs.Machine.{left}
use Rattle.search.specs.Verdict.{Verdict, refused, accepted, rows, judge, AllFail, machine, verdict}
use Rattle.search.proofs.Verdict.{accepted_iff}
use Rattle.lines.specs.Input.{Parsed, bad, lines, parse, Bits, Good}
use Rattle.lines.specs.Packing.{packed}
use Rattle.lines.specs.Line.{accepted_line, refused_line}
use Rattle.lines.proofs.Bits.{packed_length, packed_bit}
use Rattle.lines.proofs.Input.{parsed_good, good_parsed, beginning}
use Rattle.hits.specs.Printed.{bad_input, text_in, pattern_in, asked, line_of, search_line, five_lines, printed_of, printed}
use Rattle.hits.specs.Claims.{Stands, Listed, Prints}
use Rattle.hits.specs.Report.{input_most}

-- ---- good input

-- each bit of the second run is a 1
run_ones : (j : ℕ) → j < 2048 → bit_at (replicate 256 255) j ≡ 1
unfolding bit_at
run_ones j l =
    rw (get_or-replicate {A = ℕ} 256 (j / 8) 255 0 (omega arith)) (weight_ones 8 (7 - j % 8) (omega arith))

module _ (w t : List ℕ) (pattern_bits : Bits w) (text_bits : Bits t) (most : length w ≤ 2048) where
  -- an occurrence in the packed bytes is one in the lines
  to_stands : (p : ℕ) → Occurs (text_in t) (pattern_in w) p → Stands w t p
  to_stands p o =
      let b = (occurs_bits (text_in t) (pattern_in w) p).0 o in
      record {
        inside = omega (arith, b.0);
        same = λ j l.
            sym (packed_bit t text_bits (p + j) (omega (arith, b.0)))
            ∙ b.1 j l ((fixed_iff (pattern_in w) j).1 (run_ones j (omega arith)))
            ∙ packed_bit w pattern_bits j l;
      }

  from_stands : (p : ℕ) → 1 ≤ length w → Stands w t p → Occurs (text_in t) (pattern_in w) p
  from_stands p some h =
      let top = h.inside in
      (occurs_bits (text_in t) (pattern_in w) p).1 (
        omega arith,
        λ j l f.
            packed_bit t text_bits (p + j) (omega arith)
            ∙ h.same j l
            ∙ sym (packed_bit w pattern_bits j l),
      )

module _ (s w t : List ℕ) (g : Good s w t) (x : Method) where
  -- no row before the fifth holds, and none after it
  some : (length w ≡ 0 → ⊥)
  some e = omega (arith, g.pattern_some)

  pattern_whole : bytes_for (length w) ≤ length (packed w)
  pattern_whole = rw (packed_length w) (omega arith)

  fixed_whole : bytes_for (length w) ≤ length (replicate {A = ℕ} 256 255)
  fixed_whole = rw (length-replicate {A = ℕ} 256 255) (omega (arith, g.pattern_most))

  text_whole : bytes_for (length t) ≤ length (packed t)
  text_whole = rw (packed_length t) (omega arith)

  text_short : length t ≤ 2 ^ 30
  text_short = omega (arith, g.text_most)

  cells : scratch_cells x (length w) ≤ length (replicate {A = ℕ} (scratch_cells x (length w)) 0)
  cells = rw (length-replicate {A = ℕ} (scratch_cells x (length w)) 0) (omega arith)

  -- "where the search refuses": only a word that the way does not take
  pub unfit_line : unfit x (length w) ≡ true → search_line (text_in t) (pattern_in w) x ≡ refused_line x 5
  unfolding search_line line_of verdict rows judge asked
  unfit_line h =
      simp (le-ltb _ _ text_short, le-ltb _ _ text_whole, ne_eqb _ _ some, le-ltb _ _ g.pattern_most, le-ltb _ _ pattern_whole, le-ltb _ _ fixed_whole, h)

  module _ (fit : unfit x (length w) ≡ false) where
    none_holds : AllFail (rows (asked (text_in t) (pattern_in w) x))
    unfolding rows asked
    none_holds = (
      le-ltb _ _ text_short,
      (le-ltb _ _ text_whole, (rw (ne_eqb _ _ some, le-ltb _ _ g.pattern_most), (le-ltb _ _ pattern_whole, (le-ltb _ _ fixed_whole, (fit, (le-ltb (places (text_in t) (pattern_in w)) 0 (omega arith), (le-ltb _ _ cells, tt))))))),
    )

    what_is_left : Left (text_in t) (pattern_in w) 0 (2 ^ 32 - 1) (places (text_in t) (pattern_in w)) (machine (asked (text_in t) (pattern_in w) x))
    unfolding machine asked
    what_is_left =
        rw (length-replicate {A = ℕ} (places (text_in t) (pattern_in w)) 0)
        (left x (text_in t) (pattern_in w) fit (2 ^ 32 - 1) 0 (places (text_in t) (pattern_in w)) (omega arith))

    all_places : places (text_in t) (pattern_in w) ≤ 4096
    all_places = omega (arith, g.pattern_some, g.text_most)

    ends : (r : Run) → Left (text_in t) (pattern_in w) 0 (2 ^ 32 - 1) (places (text_in t) (pattern_in w)) r → r.ending ≡ done
    ends r l = go r.ending refl
      where
        go : (e : Ending) → r.ending ≡ e → r.ending ≡ done
        go done e = e
        go spent e = absurd (omega (arith, l.spent_all e, l.bounded, l.high, all_places))
        go (full p) e =
            let f = l.full_at p e in
            let few = occurrences_length (text_in t) (pattern_in w) 0 r.mark in
            let size = ap length l.written_are in
            absurd (omega (arith, f.0, f.1.inside, f.2, few, size))

    accepted_line_lem : search_line (text_in t) (pattern_in w) x
        ≡ accepted_line x (machine (asked (text_in t) (pattern_in w) x)).steps (machine (asked (text_in t) (pattern_in w) x)).written
    unfolding search_line line_of
    accepted_line_lem = rw ((accepted_iff (asked (text_in t) (pattern_in w) x)).1 none_holds)

    lists : (r : Run) → search_line (text_in t) (pattern_in w) x ≡ accepted_line x r.steps r.written
        → Left (text_in t) (pattern_in w) 0 (2 ^ 32 - 1) (places (text_in t) (pattern_in w)) r → Listed w t x r
    lists r line l =
        let end = ends r l in
        let mark : r.mark ≡ places (text_in t) (pattern_in w) = l.done_iff.0 end in
        let all = l.written_are ∙ ap (occurrences (text_in t) (pattern_in w) 0) mark in
        record {
          line = line;
          ended = end;
          few = omega (arith, l.bounded, mark, all_places);
          all = all;
          rising = rw all (occurrences_rising (text_in t) (pattern_in w) 0 (places (text_in t) (pattern_in w)));
          exactly = λ p.
              let iff = occurrences_exactly (text_in t) (pattern_in w) 0 (places (text_in t) (pattern_in w)) p in
              rw all (
                λ m. to_stands w t g.pattern_bits g.text_bits g.pattern_most p (iff.0 m).0,
                λ h.
                    let o = from_stands w t g.pattern_bits g.text_bits g.pattern_most p g.pattern_some h in
                    iff.1 (o, omega arith, o.inside),
              );
        }

    -- every occurrence is printed
    pub listed : Listed w t x (machine (asked (text_in t) (pattern_in w) x))
    listed = lists (machine (asked (text_in t) (pattern_in w) x)) accepted_line_lem what_is_left

-- ---- every input

good_prints : (s w t : List ℕ) → Good s w t → printed s ≡ five_lines (text_in t) (pattern_in w)
unfolding printed printed_of
good_prints s w t g = rw (good_parsed s w t g)

pub prints : (s w t : List ℕ) → Good s w t → Prints s w t
prints s w t g =
    record {
      five = good_prints s w t g;
      plain = listed s w t g Plain refl;
      hash = λ h. listed s w t g Hash (le-ltb _ _ h);
      hash_short = λ h. unfit_line s w t g Hash (lt-ltb _ _ h);
      skip = λ h. listed s w t g Skip (le-ltb _ _ h);
      skip_short = λ h. unfit_line s w t g Skip (lt-ltb _ _ h);
      wide = listed s w t g Wide refl;
      tail = λ h. listed s w t g Tail (le-ltb _ _ h);
      tail_long = λ h. unfit_line s w t g Tail (lt-ltb _ _ h);
    }

-- the lines start with the byte of `p`, and `bad input` with that of `b`
line_start : (v : Verdict Run) (rest : List ℕ) → get_or (line_of Plain v ++ rest) 0 0 ≡ 112
unfolding line_of accepted_line refused_line
line_start (accepted r) rest = refl
line_start (refused k) rest = refl

lines_start : (t : Packed) (w : Pattern) → get_or (five_lines t w) 0 0 ≡ 112
unfolding five_lines search_line
lines_start t w = line_start (verdict (asked t w Plain)) _

-- "Anything else prints the one line `bad input`", and no good input does
pub bad_iff : (s : List ℕ) → (printed s ≡ bad_input) ↔ ((w t : List ℕ) → Good s w t → ⊥)
unfolding printed printed_of
bad_iff s = (
  λ e w t g.
      let p : ◌≡◌ {A = ℕ} 112 98 = sym (lines_start (text_in t) (pattern_in w)) ∙ ap (λ (l : List ℕ). get_or l 0 0) (sym (good_prints s w t g) ∙ e) in
      omega arith,
  λ none. go none (parse s) refl,
)
  where
    go : ((w t : List ℕ) → Good s w t → ⊥) → (p : Parsed) → parse s ≡ p → printed_of p ≡ bad_input
    go none bad e = refl
    go none (lines w t) e = absurd (none w t (parsed_good s w t e))

-- input that is too long is judged by its first bytes, those that the program reads
pub first_bytes : (s : List ℕ) → printed (take input_most s) ≡ printed s
unfolding printed
first_bytes s = rw (beginning s input_most (omega arith))
