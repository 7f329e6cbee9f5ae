-- Laws of filling the chains of the skip method: all heads empty, and one index more.
-- Assumes nothing.
use Prim.Native.Nat.{ℕ, suc, ◌+◌, ◌≤◌, ◌<◌}
use mathlib.Core.Path.{◌≡◌, refl, sym, ap, ◌∙◌}
use mathlib.Core.Logic.{◌⊎◌, inl, inr}
use mathlib.Core.Bool.{Bool, true, false}
use mathlib.Core.List.{List, ◌++◌}
use native.Mathlib.Nat.{add-zero}
use native.Mathlib.Numerals.{add-one}
use native.Mathlib.Omega.{arith}
use lib.Dec.{eqb}
use borrow.Author.Tests.{eqb-true, eqb-false}
use lib.ListN.{length, get_or, drop, set, replicate, length-append, length-drop, length-set, length-replicate, get_or-replicate, get_or-append}
use lib.Seq.{drop-append-add, drop-drop, get_or-set_same, get_or-set_other, get_or-drop, drop-set-lt}
use Rattle.bits.specs.Packed.{bits_at}
use Rattle.bits.proofs.Run.{bits_lt}
use Rattle.rules.specs.declared.Method.TheVariants.{Skip}
use Rattle.rules.specs.Pattern.{Pattern}
use Rattle.rules.specs.Wild.{AllFixed}
use Rattle.matcher.specs.Tables.{last_below, in_chain, chained, Prepared}
use Rattle.skip_tables.specs.SkipChains.{Filled}
use Rattle.rules.proofs.Ranges.{not_true_false, eq_or_below}
use Rattle.skip_tables.proofs.SkipBelow.{below_zero, below_here, below_before}
use Rattle.skip_tables.proofs.SkipShows.{chain_byte, to_chain}

-- n cells set to 0
module _ (n : ℕ) (before cells : List ℕ) (e : cells ≡ replicate n 0 ++ drop n before) where
  pub zeros : (B : ℕ) → B < n → get_or cells B 0 ≡ 0
  zeros B h =
      let inside : B < length {A = ℕ} (replicate n 0) = rw length-replicate h in
      rw e (get_or-append (replicate n 0) (drop n before) 0 B inside ∙ get_or-replicate n B 0 0 h)

  pub same_size : n ≤ length before → length cells ≡ length before
  same_size h = rw e (simp (length-append, length-replicate, length-drop) (omega arith))

  pub same_rest : (m : ℕ) → drop (n + m) cells ≡ drop (n + m) before
  same_rest m =
      let here : n + m ≡ length {A = ℕ} (replicate n 0) + m = rw length-replicate in
      ap (drop (n + m)) e
      ∙ ap (λ (i : ℕ). drop i (replicate n 0 ++ drop n before)) here
      ∙ drop-append-add (replicate n 0) (drop n before) m
      ∙ drop-drop m n before

-- no index is entered
module _ (w : Pattern) (before cleared cells : List ℕ) (c : cleared ≡ replicate 256 0 ++ drop 256 before) (e : cells ≡ set cleared (255 + w.count) 0)
    (some : 0 < w.count) (room : 256 + w.count ≤ length before) where
  pub empty_size : length cells ≡ length before
  empty_size = rw e (length-set cleared (255 + w.count) 0 ∙ same_size 256 before cleared c (omega arith))

  pub empty_rest : drop (256 + w.count) cells ≡ drop (256 + w.count) before
  empty_rest = rw e (drop-set-lt (256 + w.count) cleared (255 + w.count) 0 (omega arith) ∙ same_rest 256 before cleared c w.count)

  -- the cell that tells of chains
  pub empty_kind : get_or cells (255 + w.count) 0 ≡ 0
  empty_kind = rw e (get_or-set_same cleared (255 + w.count) 0 0 (omega (arith, same_size 256 before cleared c (omega arith))))

  pub filled_none : Filled w cells 0 cells
  filled_none =
      record {
        heads = λ B l. rw e (get_or-set_other cleared (255 + w.count) B 0 0 (λ q. omega arith) ∙ zeros 256 before cleared c B l ∙ sym (below_zero (in_chain w B)));
        links = λ j l. absurd (omega arith);
        size = refl;
        rest = refl;
      }

-- one index more, at the head of its chain
module _ (w : Pattern) (before cells : List ℕ) (k v : ℕ) (f : Filled w before k cells) (ev : v ≡ bits_at w.bytes k 8) (few : k + 1 < w.count)
    (room : 256 + w.count ≤ length before) where
  next : List ℕ
  next = set (set cells (256 + k) (get_or cells v 0)) v (k + 1)

  small : v < 256
  small = omega (arith, bits_lt w.bytes k 8)

  first_size : length (set cells (256 + k) (get_or cells v 0)) ≡ length before
  first_size = length-set cells (256 + k) (get_or cells v 0) ∙ f.size

  elsewhere : (i : ℕ) → (i ≡ v → ⊥) → (i ≡ 256 + k → ⊥) → get_or next i 0 ≡ get_or cells i 0
  unfolding next
  elsewhere i ne nk =
      get_or-set_other (set cells (256 + k) (get_or cells v 0)) v i (k + 1) 0 ne ∙ get_or-set_other cells (256 + k) i (get_or cells v 0) 0 nk

  heads : (B : ℕ) → B < 256 → get_or next B 0 ≡ last_below (in_chain w B) (k + 1)
  unfolding next
  heads B l = go (eqb B v) refl ∙ ap (last_below (in_chain w B)) (sym (add-one k))
    where
      go : (same : Bool) → eqb B v ≡ same → get_or next B 0 ≡ last_below (in_chain w B) (suc k)
      go true q =
          let e = eqb-true B v q in
          ap (λ (i : ℕ). get_or next i 0) e
          ∙ get_or-set_same (set cells (256 + k) (get_or cells v 0)) v (k + 1) 0 (omega (arith, first_size, small))
          ∙ add-one k
          ∙ sym (below_here (in_chain w B) k (to_chain w k B (sym (e ∙ ev))))
      go false q =
          let ne = eqb-false B v q in
          elsewhere B ne (λ e. omega arith)
          ∙ f.heads B l
          ∙ sym (below_before (in_chain w B) k (not_true_false _ (λ e. ne (sym (ev ∙ chain_byte w k B e)))))

  links : (j : ℕ) → j < k + 1 → get_or next (256 + j) 0 ≡ last_below (in_chain w (bits_at w.bytes j 8)) j
  unfolding next
  links j l = go (eq_or_below {a = j} {b = k} (omega arith))
    where
      go : (j ≡ k) ⊎ (j < k) → get_or next (256 + j) 0 ≡ last_below (in_chain w (bits_at w.bytes j 8)) j
      go (inl q) =
          rw q
          (get_or-set_other (set cells (256 + k) (get_or cells v 0)) v (256 + k) (k + 1) 0 (λ e. omega (arith, small))
          ∙ get_or-set_same cells (256 + k) (get_or cells v 0) 0 (omega (arith, f.size))
          ∙ f.heads v small
          ∙ ap (λ (u : ℕ). last_below (in_chain w u) k) ev)
      go (inr less) = elsewhere (256 + j) (λ q. omega (arith, small)) (λ q. omega arith) ∙ f.links j less

  rest : drop (255 + w.count) next ≡ drop (255 + w.count) before
  unfolding next
  rest =
      drop-set-lt (255 + w.count) (set cells (256 + k) (get_or cells v 0)) v (k + 1) (omega (arith, small))
      ∙ drop-set-lt (255 + w.count) cells (256 + k) (get_or cells v 0) (omega arith)
      ∙ f.rest

  pub filled_more : Filled w before (k + 1) (set (set cells (256 + k) (get_or cells v 0)) v (k + 1))
  unfolding next
  filled_more = record { heads = heads; links = links; size = length-set (set cells (256 + k) (get_or cells v 0)) v (k + 1) ∙ first_size; rest = rest }

-- all indices are entered, from empty chains on
pub filled_all : (w : Pattern) (before empty cells : List ℕ) (k : ℕ) → AllFixed w → get_or empty (255 + w.count) 0 ≡ 0 → length empty ≡ length before
    → drop (256 + w.count) empty ≡ drop (256 + w.count) before → Filled w empty k cells → k ≡ chained w.count → Prepared Skip w before cells
filled_all w before empty cells k fixed kind size rest f e =
    let told : get_or cells (255 + w.count) 0 ≡ 0 =
    rw (add-zero (255 + w.count)) at (sym (get_or-drop (255 + w.count) cells 0 0) ∙ ap (λ (l : List ℕ). get_or l 0 0) f.rest ∙ get_or-drop (255 + w.count) empty 0 0) ∙ kind in
    let more : 255 + w.count + 1 ≡ 256 + w.count = omega arith in
    record {
      tables = record {
        chains = λ _. record { all_fixed = fixed; head_is = λ B l. f.heads B l ∙ ap (last_below (in_chain w B)) e; link_is = λ j l. f.links j (omega arith) };
        words = λ ne. absurd (ne told);
      };
      size = f.size ∙ size;
      rest = (rw more at (sym (drop-drop 1 (255 + w.count) cells) ∙ ap (drop 1) f.rest ∙ drop-drop 1 (255 + w.count) empty)) ∙ rest;
    }
