-- The list file in what C sees, results, the first answer cell and the buffers: demand 2 from one call to the next, and what a
-- result of the reader says of the file. An accepted call keeps the promise of the list file's own call, so its theorems hold
-- here.
-- Assumes nothing.
use Prim.Native.Nat.{ℕ, ◌≤◌, ◌<◌}
use mathlib.Core.Path.{◌≡◌, refl, sym, ap, ◌∙◌}
use mathlib.Core.Bool.{Bool, true, false}
use mathlib.Core.List.{List, [], ◌∷◌, ◌++◌}
use native.Mathlib.Omega.{arith}
use lib.Dec.{ltb}
use lib.ListN.{length, take, drop}
use lib.Pow.{are_bytes}
use Rattle.positions.specs.Basics.{Result, ok, fault}
use Rattle.positions.specs.Rising.{rising}
use Rattle.positions.specs.Encode.{encode}
use Rattle.positions.specs.Decode.{decode}
use Rattle.positions.specs.Promise.{Answer, count, refused, write_answer, leaves, Writes, read_answer, read_cells, Reads}
use Rattle.std.specs.Prelude.{Ok}
use Rattle.positions.proofs.Answers.{refused_number, write_counted}
use Rattle.positions.proofs.Decoded.{fault_number}
use Rattle.positions.proofs.BadFileFirst.{bad_file_first}
use Rattle.positions.proofs.CallToCall.{written_decodes, read_encodes}
use Rattle.capi.specs.Told.{answer_cells_missing, gives, Tells}
use Rattle.capi.specs.ListFile.{count_tells, write_verdict, ListWritten, read_verdict, ListRead, ResultTells, told, Puts}
use Rattle.capi.proofs.Telling.{enough_cells}

-- ---- an accepted call is a call of the list file that was accepted

pub as_written : {list target answer target' answer' : List ℕ} → ListWritten list target answer 0 target' answer'
    → Writes list target (Ok (told answer')) target'
unfolding write_verdict
as_written {list} {target} {answer} {target'} {answer'} w = go (ltb (length answer) 1) refl
  where
    own : (v : Answer) → write_answer list (length target) ≡ v → Tells (count_tells v) answer 0 answer'
        → target' ≡ leaves v (encode list) target → Writes list target (Ok (told answer')) target'
    own (refused k) e t b = absurd (omega (arith, t.result_is, refused_number list (length target) k (sym e)))
    own (count n) e t b = rw t.answer_is (record { answer = sym e; target = rw e b })

    go : (few : Bool) → ltb (length answer) 1 ≡ few → Writes list target (Ok (told answer')) target'
    go true h = absurd (omega (arith, rw h at w.tells.result_is))
    go false h = own (write_answer list (length target)) refl (rw h at w.tells) (rw h at w.target_is)

pub as_read : {file cells answer cells' answer' : List ℕ} → ListRead file cells answer 0 cells' answer'
    → Reads file cells (Ok (told answer')) cells'
unfolding read_verdict read_answer
as_read {file} {cells} {answer} {cells'} {answer'} r = go (ltb (length answer) 1) refl
  where
    own : (d : Result (List ℕ)) → decode file (length cells) ≡ d → Tells (count_tells (read_answer d)) answer 0 answer'
        → cells' ≡ read_cells d cells → Reads file cells (Ok (told answer')) cells'
    own (fault k) e t b = absurd (omega (arith, t.result_is, fault_number file (length cells) k e))
    own (ok l) e t b = rw t.answer_is (record { answer = rw e; cells = rw e b })

    go : (few : Bool) → ltb (length answer) 1 ≡ few → Reads file cells (Ok (told answer')) cells'
    go true h = absurd (omega (arith, rw h at r.tells.result_is))
    go false h = own (decode file (length cells)) refl (rw h at r.tells) (rw h at r.cells_is)

-- ---- what a result of the reader says of the file

-- a call with an answer cell tells what the list file's own call does
read_tells : {file cells answer cells' answer' : List ℕ} {result : ℕ} → ListRead file cells answer result cells' answer' → 1 ≤ length answer
    → Tells (count_tells (read_answer (decode file (length cells)))) answer result answer'
unfolding read_verdict
read_tells {file} {cells} {answer} r h =
    rw (enough_cells 1 answer (fault answer_cells_missing) (decode file (length cells)) h) at r.tells

told_fault : {answer answer' : List ℕ} {result n : ℕ} (d : Result (List ℕ)) → d ≡ fault n → Tells (count_tells (read_answer d)) answer result answer'
    → result ≡ n
unfolding read_answer
told_fault d e t = (rw e at t).result_is

fault_told : {answer answer' : List ℕ} {result : ℕ} (d : Result (List ℕ)) → 0 < result → Tells (count_tells (read_answer d)) answer result answer'
    → d ≡ fault result
unfolding read_answer
fault_told (fault n) h t = ap fault (sym t.result_is)
fault_told (ok l) h t = absurd (omega (arith, t.result_is))

pub result_tells : {file cells answer cells' answer' : List ℕ} {result : ℕ} → ListRead file cells answer result cells' answer' → 1 ≤ length answer
    → ResultTells file (length cells) result
result_tells {file} {cells} {answer} {cells'} {answer'} {result} r h =
    let first = bad_file_first file in
    let d = decode file (length cells) in
    let t = read_tells r h in
    record {
      bad = λ n e. told_fault d (first.bad n e (length cells)) t;
      fault_is = λ lo hi. first.own result (length cells) (omega arith) (fault_told d (omega arith) t);
      kept = λ g. told_fault d (first.kept (length cells) g) t;
      only = λ e. first.only (length cells) (fault_told d (omega arith) t ∙ ap fault e);
    }

-- ---- two calls

puts : {new before answer after answer' : List ℕ} {result : ℕ} → Tells (gives (length new ∷ [])) answer result answer'
    → after ≡ new ++ drop (length new) before → Puts new before result after answer'
puts t b = record { result_is = t.result_is; told_is = rw t.answer_is; buffer_is = b }

-- a call of the writer, and then one of the reader on the bytes that it wrote
pub write_then_read : {list target answer target' answer' cells again cells' again' : List ℕ} {result : ℕ}
    → ListWritten list target answer 0 target' answer'
    → ListRead (take (told answer') target') cells again result cells' again'
    → 1 ≤ length again → length list ≤ length cells → Puts list cells result cells' again'
unfolding read_verdict read_answer read_cells
write_then_read {list} {target} {answer} {target'} {answer'} {cells} {again} w r h k =
    let d = written_decodes list target target' (told answer') (length cells) (as_written w) k in
    let v = enough_cells 1 again (fault answer_cells_missing) (decode (take (told answer') target') (length cells)) h in
    puts (rw (v, d) at r.tells) (rw (v, d) at r.cells_is)

-- a call of the reader, and then one of the writer on the list that it gave, which rises; a slice of `u8` has entries below 256
pub read_then_write : {file cells answer cells' answer' target again target' again' : List ℕ} {result : ℕ} → are_bytes file ≡ true
    → ListRead file cells answer 0 cells' answer'
    → ListWritten (take (told answer') cells') target again result target' again'
    → 1 ≤ length again → length file ≤ length target
    → (rising (take (told answer') cells') ≡ true) × Puts file target result target' again'
unfolding write_verdict leaves
read_then_write {file} {cells} {answer} {cells'} {answer'} {target} {again} a r w h k =
    let f = read_encodes file cells cells' (told answer') a (as_read r) in
    let l = take (told answer') cells' in
    let room : length (encode l) ≤ length target = rw (← f.bytes_are) k in
    let v = enough_cells 1 again (refused answer_cells_missing) (write_answer l (length target)) h in
    let counted = write_counted l (length target) f.taken room in
    (f.taken, rw f.bytes_are (puts (rw (v, counted) at w.tells) (rw (v, counted) at w.target_is)))
