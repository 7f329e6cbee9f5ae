-- The two theorems of the position list file, about the definitions to which writer and reader are equated, and what follows from
-- them. `CallToCall` has the same of the calls.
use Prim.Native.Nat.{ℕ, ◌+◌, ◌≤◌}
use mathlib.Core.Path.{◌≡◌, refl, sym, ap, ◌∙◌}
use mathlib.Core.Bool.{true}
use mathlib.Core.List.{List, [], ◌∷◌, ◌++◌, append-nil}
use native.Mathlib.Omega.{arith}
use lib.ListN.{length}
use lib.Pow.{are_bytes}
use Rattle.positions.specs.Basics.{pick, Result, ok, fault, is_empty}
use Rattle.positions.specs.Rising.{rising}
use Rattle.positions.specs.Encode.{encode_number, encode_from, encode}
use Rattle.positions.specs.Decode.{read_number, read_body, whole, contents, decode}
use Rattle.positions.proofs.ReadGroups.{fault_ok, ok_same}
use Rattle.positions.proofs.Rising.{list_bytes}
use Rattle.positions.proofs.Decoded.{decode_good, decode_taken, counted}
use Rattle.positions.proofs.ReadBack.{file_back}
use Rattle.positions.proofs.Accepted.{number_encoded, body_encoded}

-- the file of a list that the writer takes holds that list
pub contents_encode : (l : List ℕ) → rising l ≡ true → contents (encode l) ≡ ok l
contents_encode l r = sym (ap contents (append-nil (encode l))) ∙ file_back l [] r

-- (a) for every list that the writer takes, decode of its bytes gives the list back, with any cells that are enough
pub decode_encode : (l : List ℕ) (cells : ℕ) → rising l ≡ true → length l ≤ cells → decode (encode l) cells ≡ ok l
decode_encode l cells r h = decode_good (encode l) cells l (contents_encode l r) h

-- a file that is the encoding of a list which the writer takes
pub record Encodes (file l : List ℕ) : Type 0 where
  pub bytes_are : file ≡ encode l
  pub taken : rising l ≡ true

-- the body after a count
body_encodes : (file : List ℕ) (k : ℕ) (rest l : List ℕ) → are_bytes file ≡ true → read_number file ≡ ok (k, rest) → k ≡ length l
    → whole (read_body k 0 rest) ≡ ok l → Encodes file l
unfolding whole encode rising
body_encodes file k rest l a c len e = go (read_body k 0 rest) refl
  where
    last : (b : List ℕ × List ℕ) (left : List ℕ) → read_body k 0 rest ≡ ok b → b.1 ≡ left → pick (is_empty left) (ok b.0) (fault 13) ≡ ok l → Encodes file l
    last b [] q z w =
        let s = ok_same w in
        let number = number_encoded file k rest a c in
        let body = body_encoded k 0 rest b number.1 q in
        record {
          bytes_are =
              number.0
              ∙ (λ j. encode_number (len j) ++ body.bytes_are j)
              ∙ ap (λ (t : List ℕ). encode_number (length l) ++ (encode_from 0 b.0 ++ t)) z
              ∙ ap (λ (t : List ℕ). encode_number (length l) ++ t) (append-nil (encode_from 0 b.0))
              ∙ ap (λ (t : List ℕ). encode_number (length l) ++ encode_from 0 t) s;
          taken = ap rising (sym s) ∙ body.rises;
        }
    last b (x ∷ xs) q z w = absurd (fault_ok w)

    go : (r : Result (List ℕ × List ℕ)) → read_body k 0 rest ≡ r → Encodes file l
    go (fault n) q = absurd (fault_ok (rw q at e))
    go (ok b) q = last b b.1 q refl (rw q at e)

-- only written bytes are good: those that hold a list are its encoding
pub encode_contents : (file l : List ℕ) → are_bytes file ≡ true → contents file ≡ ok l → Encodes file l
encode_contents file l a e =
    let c = counted file l e in
    body_encodes file (length l) c.rest l a c.number refl c.held

-- a file that is the encoding of a list which the writer takes and for which there are cells
pub record FileOf (file : List ℕ) (cells : ℕ) (l : List ℕ) : Type 0 where
  pub bytes_are : file ≡ encode l
  pub taken : rising l ≡ true
  pub fits : length l ≤ cells

-- (b) whatever bytes decode accepts are the encoding of the list that it gives
pub encode_decode : (file : List ℕ) (cells : ℕ) (l : List ℕ) → are_bytes file ≡ true → decode file cells ≡ ok l → FileOf file cells l
encode_decode file cells l a e =
    let t = decode_taken file cells l e in
    let f = encode_contents file l a t.0 in
    record { bytes_are = f.bytes_are; taken = f.taken; fits = t.1 }

-- what is encoded is bytes, as (b) asks of a file
pub encode_bytes : (l : List ℕ) → are_bytes (encode l) ≡ true
encode_bytes l = list_bytes l

-- two lists with the same bytes are equal
pub encode_injective : (l m : List ℕ) → rising l ≡ true → rising m ≡ true → encode l ≡ encode m → l ≡ m
encode_injective l m rl rm e =
    ok_same
    (sym (decode_encode l (length l + length m) rl (omega arith))
    ∙ ap (λ (file : List ℕ). decode file (length l + length m)) e
    ∙ decode_encode m (length l + length m) rm (omega arith))

-- no proper beginning of a good file is good: where both are, nothing follows the beginning
pub no_good_beginning : (file more : List ℕ) (cells cells' : ℕ) (l m : List ℕ) → are_bytes file ≡ true
    → decode file cells ≡ ok l → decode (file ++ more) cells' ≡ ok m → more ≡ []
no_good_beginning file more cells cells' l m a e e' =
    let f = encode_decode file cells l a e in
    let q : contents (encode l ++ more) ≡ ok m = ap (λ (x : List ℕ). contents (x ++ more)) (sym f.bytes_are) ∙ (decode_taken (file ++ more) cells' m e').0 in
    none_left more (sym (file_back l more f.taken) ∙ q)
  where
    none_left : (rest : List ℕ) → pick (is_empty rest) (ok l) (fault 13) ≡ ok m → rest ≡ []
    none_left [] q = refl
    none_left (x ∷ xs) q = absurd (fault_ok q)
