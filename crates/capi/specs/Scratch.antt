-- What the scratch is to a search from C: room for the method's tables, and nothing else. The theorems are in
-- proofs/Scratch.antt.
use Rattle.std.specs.Prelude.{ℕ, ◌≤◌, ◌<◌, ◌≡◌, List, length}
use Rattle.capi.specs.Scan.{method_named, Call, figure_of}

-- ---- two calls that differ in the scratch alone

-- the call with another scratch
abbrev pub with_scratch : Call → List ℕ → Call
with_scratch q scratch =
    record {
      text = q.text;
      n = q.n;
      pattern = q.pattern;
      fixed = q.fixed;
      m = q.m;
      method = q.method;
      mark = q.mark;
      budget = q.budget;
      list = q.list;
      scratch = scratch;
      answer = q.answer;
    }

-- the scratch has the cells that the method takes for the pattern
abbrev pub Enough : Call → Type 0
Enough q = figure_of (method_named q.method) q.m ≤ length q.scratch

-- two calls returned the same number, and left the same list and the same answer cells, the mark among them
pub record SameAnswers (result other : ℕ) (list list' answer answer' : List ℕ) : Type 0 where
  pub results : result ≡ other
  pub lists : list ≡ list'
  pub answers : answer ≡ answer'

-- ---- the figure by itself

-- k cells are just what a search that returned a result needs: with k or more it is not 7, with fewer it is not 0
pub record Needs (q : Call) (k result : ℕ) : Type 0 where
  pub enough : k ≤ length q.scratch → result ≡ 7 → ⊥
  pub least : length q.scratch < k → result ≡ 0 → ⊥
