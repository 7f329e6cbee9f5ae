-- One step of a method: what it finds and the next mark; and what makes a method right.
use Rattle.std.specs.Prelude.{ℕ, ◌<◌, min, ◌≡◌, Bool, false, List, ltb}
use Rattle.bits.specs.Packed.{Packed}
use Rattle.rules.specs.declared.Method.{Method}
use Rattle.rules.specs.declared.Method.TheVariants.{Plain, Hash, Skip, Wide, Tail}
use Rattle.rules.specs.Pattern.{Pattern}
use Rattle.rules.specs.Occurrence.{places, occurrences}
use Rattle.rules.specs.Plain.{plain_finds, plain_next}
use Rattle.rules.specs.Hash.{hash_finds, hash_next}
use Rattle.rules.specs.Skip.{skip_finds, skip_next}
use Rattle.rules.specs.Wide.{wide_finds, wide_next}
use Rattle.rules.specs.Tail.{tail_finds, tail_next}

-- the method takes no pattern of m bits: "Hash, m ≥ 8", "Skip, m ≥ 15"; tail "takes words of at most 64 bits; a longer one gets 5"
abbrev pub unfit : Method → ℕ → Bool
unfit Plain m = false
unfit Hash m = ltb m 8
unfit Skip m = ltb m 15
unfit Wide m = false
unfit Tail m = ltb 64 m

-- the places that a step of the method at s finds, by its own rule
unfoldable pub finds : Method → Packed → Pattern → ℕ → List ℕ
finds Plain t w s = plain_finds t w s
finds Hash t w s = hash_finds t w s
finds Skip t w s = skip_finds t w s
finds Wide t w s = wide_finds t w s
finds Tail t w s = tail_finds t w s

-- the next mark as the method's rule has it
unfoldable pub ahead : Method → Packed → Pattern → ℕ → ℕ
ahead Plain t w s = plain_next t w s
ahead Hash t w s = hash_next t w s
ahead Skip t w s = skip_next t w s
ahead Wide t w s = wide_next t w s
ahead Tail t w s = tail_next t w s

-- "Each next mark below is cut down to E where it is larger."
unfoldable pub next : Method → Packed → Pattern → ℕ → ℕ
next x t w s = min (ahead x t w s) (places t w)

-- What is proved of each method at every place: it finds exactly the occurrences up to its next mark, and it moves on.
pub record Sound (x : Method) (t : Packed) (w : Pattern) (s : ℕ) : Type 0 where
  pub all : finds x t w s ≡ occurrences t w s (next x t w s)
  pub up : s < next x t w s
