use Rattle.std.specs.Prelude.{ℕ, List, ◌++◌}
use Rattle.std.specs.Io.KnownBytes.{Appends}
use Rattle.std.specs.declared.option.Option.{Option}

-- known bytes grow
pub record Grows (old new : Option (List ℕ)) : Type 0 where
  pub by : List ℕ
  pub appends : Appends old new by

-- known bytes grow, last by bs
pub record EndsWith (old new : Option (List ℕ)) (bs : List ℕ) : Type 0 where
  pub front : List ℕ
  pub appends : Appends old new (front ++ bs)
