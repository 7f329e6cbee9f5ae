use Rattle.std.proofs.Common.{ℕ, List, ◌++◌, Some, None, ◌∙◌, ap, append_assoc}
use Rattle.std.specs.declared.option.Option.{Option}
use Rattle.std.specs.Io.KnownBytes.{Appends}
use Rattle.draws.specs.Growing.{Grows, EndsWith}

-- bytes that grow by x, and then by y
pub appends_both : (a b c : Option (List ℕ)) (x y : List ℕ) → Appends a b x → Appends b c y → Appends a c (x ++ y)
appends_both None b c x y p q = tt
appends_both (Some xs) None c x y p q = absurd p
appends_both (Some xs) (Some ys) None x y p q = absurd q
appends_both (Some xs) (Some ys) (Some zs) x y p q = q ∙ (ap (λ s. s ++ y) p ∙ append_assoc xs x y)

-- bytes that grow, and then grow by y
pub grows_on : (a b c : Option (List ℕ)) (y : List ℕ) → Grows a b → Appends b c y → Grows a c
grows_on a b c y g q = record { by = g.by ++ y; appends = appends_both a b c g.by y g.appends q }

-- bytes that grow twice
pub grows_both : (a b c : Option (List ℕ)) → Grows a b → Grows b c → Grows a c
grows_both a b c g h = grows_on a b c h.by g h.appends

-- bytes that grow, and then by y
pub ends_with : (a b c : Option (List ℕ)) (y : List ℕ) → Grows a b → Appends b c y → EndsWith a c y
ends_with a b c y g q = record { front = g.by; appends = appends_both a b c g.by y g.appends q }
