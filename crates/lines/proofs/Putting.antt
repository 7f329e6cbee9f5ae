-- Laws of bytes that are stored one run after another.
-- Assumes nothing.
use Rattle.std.proofs.Common.{◌≡◌, ℕ, ◌+◌, List, [], ◌++◌, take, sym, ap, ◌∙◌, append_assoc, append-nil, add-zero, arith, length-append}
use Rattle.lines.specs.Inner.{Puts}

-- nothing stored
pub puts_none : (b : List ℕ) (at : ℕ) → Puts b at [] at b
puts_none b at = record { next = sym (add-zero at); front = sym (append-nil (take at b)) }

-- the same bytes under another name
pub puts_as : {a b xs ys : List ℕ} {at r : ℕ} → xs ≡ ys → Puts a at xs r b → Puts a at ys r b
puts_as e p = rw e at p

-- one run after another
pub puts_then : {a b c xs ys : List ℕ} {at i j : ℕ} → Puts a at xs i b → Puts b i ys j c → Puts a at (xs ++ ys) j c
puts_then {a} {b} {c} {xs} {ys} {at} {i} {j} p q =
    record {
      next = rw length-append (omega (arith, p.next, q.next));
      front = q.front ∙ ap (λ (l : List ℕ). l ++ ys) p.front ∙ append_assoc (take at a) xs ys;
    }
