-- Each of the five methods is right at every place, for each pattern that it takes.
use Prim.Native.Nat.{ℕ, ◌<◌}
use mathlib.Core.Path.{◌≡◌}
use mathlib.Core.Bool.{false}
use borrow.Author.Tests.{ltb-false}
use Rattle.bits.specs.Packed.{Packed}
use Rattle.rules.specs.declared.Method.{Method}
use Rattle.rules.specs.declared.Method.TheVariants.{Plain, Hash, Skip, Wide, Tail}
use Rattle.rules.specs.Pattern.{Pattern}
use Rattle.rules.specs.Occurrence.{places}
use Rattle.rules.specs.Step.{unfit, Sound}
use Rattle.rules.proofs.Plain.{plain_sound}
use Rattle.rules.proofs.Hash.{hash_sound}
use Rattle.rules.proofs.Skip.{skip_sound}
use Rattle.rules.proofs.Wide.{wide_sound}
use Rattle.rules.proofs.Tail.{tail_sound}

pub sound : (x : Method) (t : Packed) (w : Pattern) (s : ℕ) → unfit x w.count ≡ false → s < places t w → Sound x t w s
sound Plain t w s e inside = plain_sound t w s inside
sound Hash t w s e inside = hash_sound t w s (ltb-false _ _ e) inside
sound Skip t w s e inside = skip_sound t w s (ltb-false _ _ e) inside
sound Wide t w s e inside = wide_sound t w s inside
sound Tail t w s e inside = tail_sound t w s inside
