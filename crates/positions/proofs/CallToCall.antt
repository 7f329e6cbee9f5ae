-- Demand 2 from one call to the next. `Writes` and `Reads` are the promises that `write` and `read` keep for every input, so these
-- theorems are about the calls themselves.
use Prim.Native.Nat.{ℕ, ◌≤◌}
use mathlib.Core.Path.{◌≡◌, refl, sym, ap, ◌∙◌}
use mathlib.Core.Bool.{true}
use mathlib.Core.List.{List, ◌++◌}
use native.Mathlib.Omega.{arith}
use lib.ListN.{length, take, drop}
use lib.Pow.{are_bytes}
use lib.Seq.{take_at}
use Rattle.positions.specs.Basics.{Result, ok, fault}
use Rattle.positions.specs.Encode.{encode}
use Rattle.positions.specs.Decode.{decode}
use Rattle.positions.specs.Promise.{Answer, count, write_gives, read_gives, leaves, Writes, read_answer, read_cells, Reads}
use Rattle.positions.specs.CallToCall.{GivesBack, MakesAgain}
use Rattle.std.specs.Prelude.{Ok, Err}
use Rattle.std.specs.Prelude as std
use Rattle.positions.specs.declared.WriteRefusal.{WriteRefusal}
use Rattle.positions.specs.declared.ReadRefusal.{ReadRefusal}
use Rattle.positions.proofs.Answers.{write_counted, counted_written}
use Rattle.positions.proofs.RoundTrip.{decode_encode, FileOf, encode_decode}

-- ---- an answer that is a count

read_count : (r : std.Result ℕ ReadRefusal) (n : ℕ) → read_gives r ≡ count n → r ≡ Ok n
read_count (Ok m) n e = cc
read_count (Err why) n e = let z : ◌≡◌ {A = ℕ} 0 1 = cc in absurd (omega arith)

write_count : (w : std.Result ℕ WriteRefusal) (n : ℕ) → write_gives w ≡ count n → w ≡ Ok n
write_count (Ok m) n e = cc
write_count (Err why) n e = let z : ◌≡◌ {A = ℕ} 0 1 = cc in absurd (omega arith)

-- ---- a call of `write`, and then one of `read` on the bytes that it wrote

-- the bytes that a call of `write` wrote decode to its list
pub written_decodes : (l before after : List ℕ) (n cells : ℕ) → Writes l before (Ok n) after → length l ≤ cells
    → decode (take n after) cells ≡ ok l
unfolding leaves
written_decodes l before after n cells w h =
    let k = counted_written l (length before) n w.answer in
    let bytes : after ≡ encode l ++ drop n before = w.target ∙ ap (λ (a : Answer). leaves a (encode l) before) (sym w.answer) in
    ap (λ (file : List ℕ). decode file cells) (ap (take n) bytes ∙ take_at (encode l) (drop n before) n (sym k.1))
    ∙ decode_encode l cells k.0 h

pub write_then_read : {list target target' cells cells' : List ℕ} {n : ℕ} {r : std.Result ℕ ReadRefusal} → Writes list target (Ok n) target'
    → Reads (take n target') cells r cells' → length list ≤ length cells → GivesBack list cells r cells'
unfolding read_answer read_cells
write_then_read {list} {target} {target'} {cells} {cells'} {n} {r} w p h =
    let d = written_decodes list target target' n (length cells) w h in
    record { answer = read_count r (length list) (rw d at p.answer); cells = rw d at p.cells }

-- ---- a call of `read`, and then one of `write` on the list that it gave

-- the bytes that a call of `read` accepted are the file of the list that it wrote; a slice of `u8` has entries below 256
pub read_encodes : (file before after : List ℕ) (n : ℕ) → are_bytes file ≡ true → Reads file before (Ok n) after
    → FileOf file (length before) (take n after)
unfolding read_answer read_cells
read_encodes file before after n a r = go (decode file (length before)) refl
  where
    go : (d : Result (List ℕ)) → decode file (length before) ≡ d → FileOf file (length before) (take n after)
    go (fault m) e = let q = rw e at r.answer in let z : ◌≡◌ {A = ℕ} 0 1 = cc in absurd (omega arith)
    go (ok l) e =
        let q = rw e at r.answer in
        let len : length l ≡ n = cc in
        rw (r.cells, e, take_at l (drop (length l) before) n len) (encode_decode file (length before) l a e)

pub read_then_write : {file cells cells' target target' : List ℕ} {n : ℕ} {w : std.Result ℕ WriteRefusal} → are_bytes file ≡ true
    → Reads file cells (Ok n) cells' → Writes (take n cells') target w target' → length file ≤ length target
    → MakesAgain file (take n cells') target w target'
unfolding leaves
read_then_write {file} {cells} {cells'} {target} {target'} {n} {w} a p q h =
    let f = read_encodes file cells cells' n a p in
    let room : length (encode (take n cells')) ≤ length target = rw (← f.bytes_are) h in
    let counted = write_counted (take n cells') (length target) f.taken room in
    record {
      rises = f.taken;
      answer = rw f.bytes_are (write_count w (length (encode (take n cells'))) (rw counted at q.answer));
      target = rw f.bytes_are (rw counted at q.target);
    }
