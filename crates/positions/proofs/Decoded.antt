-- Laws of `whole`, `contents` and `decode`, and what they leave in the cells.
use Prim.Native.Nat.{ℕ, zero, suc, ◌+◌, ◌-◌, ◌*◌, ◌≤◌, ◌<◌}
use mathlib.Core.Path.{◌≡◌, refl, sym, ap, ◌∙◌}
use mathlib.Core.Bool.{Bool, true, false, ◌&&◌}
use mathlib.Core.List.{List, [], ◌∷◌, ◌++◌}
use native.Mathlib.Omega.{arith}
use native.Mathlib.Decide.{dec_le}
use borrow.Author.Tests.{le-leb, lt-leb}
use lib.Dec.{leb, ltb, eqb}
use lib.ListN.{length, drop}
use Rattle.positions.specs.Basics.{limit, pick, Result, ok, fault, and_then, is_empty}
use Rattle.positions.specs.Decode.{last_group, read_groups, read_number, read_position, read_body, whole, contents, decode}
use Rattle.positions.specs.Promise.{count, read_answer, read_cells, read_refusal, Reads}
use Rattle.positions.specs.Inner.{rest_of, accepts, positions_of}
use Rattle.positions.specs.declared.ReadRefusal.{ReadRefusal}
use Rattle.std.specs.Prelude.{Ok, Err}
use Rattle.positions.proofs.ReadGroups.{fault_ok, fault_same, ok_same, number_le, number_shorter}
use Rattle.positions.proofs.ReadBody.{body_holds}

-- ---- which way `contents` goes, by the count, and `decode`, by the cells

pub contents_fault : (file : List ℕ) (n : ℕ) → read_number file ≡ fault n → contents file ≡ fault n
unfolding contents
contents_fault file n e = rw e

pub contents_body : (file : List ℕ) (k : ℕ) (rest : List ℕ) → read_number file ≡ ok (k, rest) → contents file ≡ whole (read_body k 0 rest)
unfolding contents
contents_body file k rest e = rw e

pub decode_bad : (file : List ℕ) (cells n : ℕ) → contents file ≡ fault n → decode file cells ≡ fault n
unfolding decode
decode_bad file cells n e = rw e

pub decode_few : (file : List ℕ) (cells : ℕ) (l : List ℕ) → contents file ≡ ok l → cells < length l → decode file cells ≡ fault 14
unfolding decode
decode_few file cells l e h = rw (e, lt-leb (length l) cells h)

pub decode_good : (file : List ℕ) (cells : ℕ) (l : List ℕ) → contents file ≡ ok l → length l ≤ cells → decode file cells ≡ ok l
unfolding decode
decode_good file cells l e h = rw (e, le-leb (length l) cells h)

pub decode_taken : (file : List ℕ) (cells : ℕ) (l : List ℕ) → decode file cells ≡ ok l → (contents file ≡ ok l) × (length l ≤ cells)
decode_taken file cells l e = go (contents file) refl
  where
    go : (r : Result (List ℕ)) → contents file ≡ r → (contents file ≡ ok l) × (length l ≤ cells)
    go (fault n) c = absurd (fault_ok (sym (decode_bad file cells n c) ∙ e))
    go (ok m) c =
        elim (dec_le (length m) cells) [
          | yes h ↦
              let same : m ≡ l = ok_same (sym (decode_good file cells m c h) ∙ e) in
              (c ∙ ap ok same, omega (arith, h, ap length same))
          | no h ↦ absurd (fault_ok (sym (decode_few file cells m c (omega arith)) ∙ e))
        ]

-- ---- a good file

-- a body that is the whole file: its positions are the list
whole_taken : (r : Result (List ℕ × List ℕ)) (l : List ℕ) → whole r ≡ ok l → (accepts r ≡ true) × (positions_of r ≡ l)
unfolding whole
whole_taken (fault m) l e = absurd (fault_ok e)
whole_taken (ok b) l e = go b.1 e
  where
    go : (rest : List ℕ) → pick (is_empty rest) (ok b.0) (fault 13) ≡ ok l → (true ≡ true) × (b.0 ≡ l)
    go [] q = (refl, ok_same q)
    go (x ∷ xs) q = absurd (fault_ok q)

-- the body of a good file after its count k, with the list l: there is no fault in it, and k is the list's length
pub record Holds (k : ℕ) (rest l : List ℕ) : Type 0 where
  pub accepted : accepts (read_body k 0 rest) ≡ true
  pub list_is : positions_of (read_body k 0 rest) ≡ l
  pub length_is : length l ≡ k
  pub shorter : k ≤ length rest

pub body_list : (k : ℕ) (rest l : List ℕ) → whole (read_body k 0 rest) ≡ ok l → Holds k rest l
body_list k rest l e =
    let t = whole_taken (read_body k 0 rest) l e in
    let held = body_holds k 0 rest t.0 in
    record { accepted = t.0; list_is = t.1; length_is = sym (ap length t.1) ∙ held.0; shorter = held.1 }

-- ---- what the first pass finds: a fault, bytes left over, or a good file

pub judged_fault : (file : List ℕ) (k : ℕ) (rest : List ℕ) (n : ℕ) → read_number file ≡ ok (k, rest) → fault n ≡ rest_of (read_body k 0 rest)
    → contents file ≡ fault n
unfolding whole
judged_fault file k rest n c e = contents_body file k rest c ∙ go (read_body k 0 rest) e
  where
    go : (r : Result (List ℕ × List ℕ)) → fault n ≡ rest_of r → whole r ≡ fault n
    go (ok b) q = absurd (fault_ok q)
    go (fault m) q = ap fault (sym (fault_same q))

-- the body ends where the bytes from an index on begin
judged_end : (file : List ℕ) (k : ℕ) (rest left : List ℕ) → read_number file ≡ ok (k, rest) → ok left ≡ rest_of (read_body k 0 rest)
    → contents file ≡ pick (is_empty left) (ok (positions_of (read_body k 0 rest))) (fault 13)
unfolding whole
judged_end file k rest left c e = contents_body file k rest c ∙ go (read_body k 0 rest) e
  where
    go : (r : Result (List ℕ × List ℕ)) → ok left ≡ rest_of r → whole r ≡ pick (is_empty left) (ok (positions_of r)) (fault 13)
    go (fault m) q = absurd (fault_ok (sym q))
    go (ok b) q = ap (λ (l : List ℕ). pick (is_empty l) (ok b.0) (fault 13)) (sym (ok_same q))

pub judged_left : (file : List ℕ) (k : ℕ) (rest left : List ℕ) → read_number file ≡ ok (k, rest) → ok left ≡ rest_of (read_body k 0 rest)
    → 0 < length left → contents file ≡ fault 13
judged_left file k rest [] c e h = absurd (omega arith)
judged_left file k rest (b ∷ left) c e h = judged_end file k rest (b ∷ left) c e

pub judged_good : (file : List ℕ) (k : ℕ) (rest left : List ℕ) → read_number file ≡ ok (k, rest) → ok left ≡ rest_of (read_body k 0 rest)
    → length left ≡ 0 → (l : List ℕ) × (contents file ≡ ok l) × Holds k rest l
judged_good file k rest (b ∷ left) c e h = absurd (omega arith)
judged_good file k rest [] c e h =
    let l = positions_of (read_body k 0 rest) in
    let good : contents file ≡ ok l = judged_end file k rest [] c e in
    (l, good, body_list k rest l (sym (contents_body file k rest c) ∙ good))

-- a good file's count is the length of its list, which is below the number of bytes and not above the limit
pub record Counted (file l : List ℕ) : Type 0 where
  pub rest : List ℕ
  pub number : read_number file ≡ ok (length l, rest)
  pub held : whole (read_body (length l) 0 rest) ≡ ok l
  pub below : length l < length file
  pub within : length l ≤ limit

pub counted : (file l : List ℕ) → contents file ≡ ok l → Counted file l
counted file l e = go (read_number file) refl
  where
    go : (r : Result (ℕ × List ℕ)) → read_number file ≡ r → Counted file l
    go (fault n) c = absurd (fault_ok (sym (contents_fault file n c) ∙ e))
    go (ok r) c =
        let held : whole (read_body r.0 0 r.1) ≡ ok l = sym (contents_body file r.0 r.1 c) ∙ e in
        let h = body_list r.0 r.1 l held in
        let same : r.0 ≡ length l = sym h.length_is in
        record {
          rest = r.1;
          number = c ∙ ap (λ (k : ℕ). ok (k, r.1)) same;
          held = rw (← same) held;
          below = omega (arith, same, h.shorter, number_shorter file r.0 r.1 c);
          within = omega (arith, same, number_le file r.0 r.1 c);
        }

-- ---- a file's faults are those of document 01's table from 10 to 13, and the reader's refusals those up to 14

abbrev Numbered : {A : Type 0} → Result A → Type 0
Numbered (ok a) = Unit
Numbered (fault n) = (10 ≤ n) × (n ≤ 13)

either : {A : Type 0} (b : Bool) (x y : Result A) → Numbered x → Numbered y → Numbered (pick b x y)
either true x y hx hy = hx
either false x y hx hy = hy

then : {A B : Type 0} (r : Result A) (f : A → Result B) → Numbered r → ((a : A) → Numbered (f a)) → Numbered (and_then r f)
then (ok a) f h k = k a
then (fault n) f h k = h

last_numbered : (w b n : ℕ) (rest : List ℕ) → Numbered (last_group w b n rest)
unfolding last_group
last_numbered w b n rest =
    either (ltb 1 w && eqb b 0) (fault 11) _ (omega arith, omega arith) (either (leb n limit) (ok (n, rest)) (fault 12) tt (omega arith, omega arith))

groups_numbered : (k w v : ℕ) (bytes : List ℕ) → Numbered (read_groups k w v bytes)
unfolding read_groups
groups_numbered zero w v bytes = (omega arith, omega arith)
groups_numbered (suc k) w v [] = (omega arith, omega arith)
groups_numbered (suc k) w v (b ∷ bytes) =
    either (ltb b 128) _ _ (last_numbered w b (v + b * w) bytes) (groups_numbered k (w * 128) (v + (b - 128) * w) bytes)

number_numbered : (bytes : List ℕ) → Numbered (read_number bytes)
unfolding read_number
number_numbered bytes = groups_numbered 5 1 0 bytes

position_numbered : (next : ℕ) (bytes : List ℕ) → Numbered (read_position next bytes)
unfolding read_position
position_numbered next bytes =
    then (read_number bytes) _ (number_numbered bytes)
    (λ r. either (ltb (next + r.0) limit) (ok (next + r.0, r.1)) (fault 12) tt (omega arith, omega arith))

body_numbered : (k next : ℕ) (bytes : List ℕ) → Numbered (read_body k next bytes)
unfolding read_body
body_numbered zero next bytes = tt
body_numbered (suc k) next bytes =
    then (read_position next bytes) _ (position_numbered next bytes)
    (λ r. then (read_body k (r.0 + 1) r.1) (λ b. ok (r.0 ∷ b.0, b.1)) (body_numbered k (r.0 + 1) r.1) (λ b. tt))

whole_numbered : (body : Result (List ℕ × List ℕ)) → Numbered body → Numbered (whole body)
unfolding whole
whole_numbered body h = then body _ h (λ b. either (is_empty b.1) (ok b.0) (fault 13) tt (omega arith, omega arith))

contents_numbered : (file : List ℕ) → Numbered (contents file)
unfolding contents
contents_numbered file =
    then (read_number file) _ (number_numbered file) (λ r. whole_numbered (read_body r.0 0 r.1) (body_numbered r.0 0 r.1))

pub contents_number : (file : List ℕ) (n : ℕ) → contents file ≡ fault n → (10 ≤ n) × (n ≤ 13)
contents_number file n e = rw e at (contents_numbered file)

pub fault_number : (file : List ℕ) (cells n : ℕ) → decode file cells ≡ fault n → (10 ≤ n) × (n ≤ 14)
fault_number file cells n e = go (contents file) refl
  where
    go : (r : Result (List ℕ)) → contents file ≡ r → (10 ≤ n) × (n ≤ 14)
    go (fault m) c =
        let same : m ≡ n = fault_same (sym (decode_bad file cells m c) ∙ e) in
        let h = contents_number file m c in
        (omega (arith, same, h.0), omega (arith, same, h.1))
    go (ok l) c =
        elim (dec_le (length l) cells) [
          | yes h ↦ absurd (fault_ok (sym e ∙ decode_good file cells l c h))
          | no h ↦
              let same : 14 ≡ n = fault_same (sym (decode_few file cells l c (omega arith)) ∙ e) in
              (omega (arith, same), omega (arith, same))
        ]

-- ---- the promise of `read`

pub reads_fault : (file cells : List ℕ) (why : ReadRefusal) → decode file (length cells) ≡ fault (read_refusal why) → Reads file cells (Err why) cells
unfolding read_answer read_cells
reads_fault file cells why e = record { answer = rw e; cells = rw e }

pub reads_list : (file cells : List ℕ) (n : ℕ) (l : List ℕ) → decode file (length cells) ≡ ok l → length l ≡ n
    → Reads file cells (Ok n) (l ++ drop n cells)
unfolding read_answer read_cells
reads_list file cells n l e k = record { answer = rw e (ap count (sym k)); cells = rw (e, k) refl }
