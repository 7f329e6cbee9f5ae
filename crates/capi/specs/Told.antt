-- What a call tells its caller: the number that it returns, and the answer cells.
use Rattle.std.specs.Prelude.{ℕ, ◌≡◌, cond, List, ◌++◌, ltb, length, drop}

-- Two refusals that document 01 does not have, since its calls take a method and not a number, and give an answer back.
abbrev pub unknown_method : ℕ
unknown_method = 100

abbrev pub answer_cells_missing : ℕ
answer_cells_missing = 101

-- an accepted call gives numbers for its answer cells, a refused one the number of the refusal
pub data Told : Type 0 where
  gives : List ℕ → Told
  refuses : ℕ → Told

-- the number that the call returns
abbrev pub result_of : Told → ℕ
result_of (gives numbers) = 0
result_of (refuses number) = number

-- the answer cells at exit: the numbers in front and then what stood there, or after a refusal all as it was
abbrev pub answer_after : Told → List ℕ → List ℕ
answer_after (gives numbers) before = numbers ++ drop (length numbers) before
answer_after (refuses number) before = before

-- the first where there are fewer than so many answer cells, else the second
abbrev pub unless_cells {ℓ} : {A : Type ℓ} → ℕ → List ℕ → A → A → A
unless_cells needed answer a b = cond (ltb (length answer) needed) a b

-- The promise about result and answer cells.
pub record Tells (t : Told) (before : List ℕ) (result : ℕ) (after : List ℕ) : Type 0 where
  pub result_is : result ≡ result_of t
  pub answer_is : after ≡ answer_after t before
