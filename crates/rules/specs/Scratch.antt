-- How many cells of scratch a method takes for its tables ("Scratch to fit the method"). Refusal 7, the promise about later
-- cells and the sizes of the tables all go by this one function.
use Rattle.std.specs.Prelude.{ℕ, ◌+◌, ◌*◌, ◌≤◌, ◌≡◌}
use Rattle.bits.specs.Packed.{bytes_for}
use Rattle.rules.specs.declared.Method.{Method}
use Rattle.rules.specs.declared.Method.TheVariants.{Plain, Hash, Skip, Wide, Tail}

-- for a pattern of m bits: "Hash should run in 256 cells, skip in 256 + m, wide in 2 × (63 + m), plain in
-- 16 × ceil((m+7)/8) and tail in 2"; since there are wild bits hash's "scratch grows to 512 cells", for every pattern
abbrev pub scratch_cells : Method → ℕ → ℕ
scratch_cells Plain m = 16 * bytes_for (m + 7)
scratch_cells Hash m = 512
scratch_cells Skip m = 256 + m
scratch_cells Wide m = 2 * (63 + m)
scratch_cells Tail m = 2

-- the largest figure: that of wide for the longest pattern, 2,048 bits
abbrev pub most_cells : ℕ
most_cells = scratch_cells Wide 2048

-- So many cells are enough for every method and every pattern, and fewer are not.
pub record Most : Type 0 where
  pub is : most_cells ≡ 4222
  pub enough : (x : Method) (m : ℕ) → m ≤ 2048 → scratch_cells x m ≤ most_cells
  pub least : (k : ℕ) → ((x : Method) (m : ℕ) → m ≤ 2048 → scratch_cells x m ≤ k) → most_cells ≤ k
