-- 14 is the reader's last refusal (document 02, A6): what follows for every file, as `specs/BadFileFirst.antt` says it.
use Prim.Native.Nat.{ℕ, ◌≤◌, ◌<◌}
use mathlib.Core.Path.{◌≡◌, refl, sym, ◌∙◌}
use mathlib.Core.List.{List}
use native.Mathlib.Omega.{arith}
use native.Mathlib.Decide.{dec_le}
use lib.ListN.{length}
use Rattle.positions.specs.Basics.{Result, ok, fault}
use Rattle.positions.specs.Decode.{contents, decode}
use Rattle.positions.specs.BadFileFirst.{GoodWithFewCells, BadFileFirst}
use Rattle.positions.proofs.ReadGroups.{fault_ok, fault_same, ok_pair}
use Rattle.positions.proofs.Decoded.{Counted, counted, contents_number, decode_bad, decode_few, decode_good}

-- a fault below 14 is the file's own
own_fault : (file : List ℕ) (n cells : ℕ) → n < 14 → decode file cells ≡ fault n → contents file ≡ fault n
own_fault file n cells h e = go (contents file) refl
  where
    go : (r : Result (List ℕ)) → contents file ≡ r → contents file ≡ fault n
    go (fault m) c = c ∙ sym (decode_bad file cells m c) ∙ e
    go (ok l) c =
        elim (dec_le (length l) cells) [
          | yes k ↦ absurd (fault_ok (sym e ∙ decode_good file cells l c k))
          | no k ↦ absurd (omega (arith, fault_same (sym e ∙ decode_few file cells l c (omega arith))))
        ]

-- 14 is given for a good file with too few cells
keeps : (file : List ℕ) (cells : ℕ) → GoodWithFewCells file cells → decode file cells ≡ fault 14
keeps file cells g =
    let same : g.count ≡ length g.list = (ok_pair (sym g.counted ∙ (counted file g.list g.good).number)).0 in
    decode_few file cells g.list g.good (omega (arith, same, g.few))

-- and for no other file
only_good : (file : List ℕ) (cells : ℕ) → decode file cells ≡ fault 14 → GoodWithFewCells file cells
only_good file cells e = go (contents file) refl
  where
    go : (r : Result (List ℕ)) → contents file ≡ r → GoodWithFewCells file cells
    go (fault m) c =
        let same : m ≡ 14 = fault_same (sym (decode_bad file cells m c) ∙ e) in
        absurd (omega (arith, same, contents_number file m c))
    go (ok l) c =
        elim (dec_le (length l) cells) [
          | yes k ↦ absurd (fault_ok (sym e ∙ decode_good file cells l c k))
          | no k ↦
              let number = counted file l c in
              record {
                count = length l;
                rest = number.rest;
                list = l;
                counted = number.number;
                good = c;
                few = omega arith;
              }
        ]

-- with cells for every list that the file can hold, the cells do not matter
whatever_held : (file : List ℕ) (cells : ℕ) → ((l : List ℕ) → Counted file l → length l ≤ cells) → decode file cells ≡ contents file
whatever_held file cells h = go (contents file) refl
  where
    go : (r : Result (List ℕ)) → contents file ≡ r → decode file cells ≡ contents file
    go (fault m) c = decode_bad file cells m c ∙ sym c
    go (ok l) c = decode_good file cells l c (h l (counted file l c)) ∙ sym c

pub bad_file_first : (file : List ℕ) → BadFileFirst file
bad_file_first file =
    record {
      numbered = contents_number file;
      bad = λ n e cells. decode_bad file cells n e;
      own = own_fault file;
      alike = λ n cells cells' h e. decode_bad file cells' n (own_fault file n cells h e);
      kept = keeps file;
      only = only_good file;
      enough = λ list e cells h. decode_good file cells list e h;
      by_bytes = λ cells h. whatever_held file cells (λ l c. omega (arith, c.below));
      by_limit = λ cells h. whatever_held file cells (λ l c. omega (arith, c.within));
    }
