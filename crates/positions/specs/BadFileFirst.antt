-- What follows from 14 being the reader's last refusal (document 02, A6): a file's fault does not depend on the cells, and 14 tells
-- of good files alone. The theorem is in proofs/BadFileFirst.antt.
use Rattle.std.specs.Prelude.{ℕ, ◌+◌, ◌≤◌, ◌<◌, ◌≡◌, List, length}
use Rattle.positions.specs.Basics.{limit, ok, fault}
use Rattle.positions.specs.Decode.{read_number, contents, decode}

-- "Sound files with too few cells": a good file whose count is above the number of cells
pub record GoodWithFewCells (file : List ℕ) (cells : ℕ) : Type 0 where
  pub count : ℕ
  pub rest : List ℕ
  pub list : List ℕ
  pub counted : read_number file ≡ ok (count, rest)
  pub good : contents file ≡ ok list
  pub few : cells < count

pub record BadFileFirst (file : List ℕ) : Type 0 where
  -- the faults of a file are 10 to 13
  pub numbered : (n : ℕ) → contents file ≡ fault n → (10 ≤ n) × (n ≤ 13)
  -- "14 comes after all of them": a file with a fault gets that fault with any cells
  pub bad : (n : ℕ) → contents file ≡ fault n → (cells : ℕ) → decode file cells ≡ fault n
  -- a fault below 14 is the file's own, so with any other cells it is the same
  pub own : (n cells : ℕ) → n < 14 → decode file cells ≡ fault n → contents file ≡ fault n
  pub alike : (n cells cells' : ℕ) → n < 14 → decode file cells ≡ fault n → decode file cells' ≡ fault n
  -- "Sound files with too few cells keep 14", and no other file gets it
  pub kept : (cells : ℕ) → GoodWithFewCells file cells → decode file cells ≡ fault 14
  pub only : (cells : ℕ) → decode file cells ≡ fault 14 → GoodWithFewCells file cells
  -- "With enough cells a good file still gives its list"
  pub enough : (list : List ℕ) → contents file ≡ ok list → (cells : ℕ) → length list ≤ cells → decode file cells ≡ ok list
  -- cells that are enough for any file: one for each byte after the first, or 2^30
  pub by_bytes : (cells : ℕ) → length file ≤ cells + 1 → decode file cells ≡ contents file
  pub by_limit : (cells : ℕ) → limit ≤ cells → decode file cells ≡ contents file
