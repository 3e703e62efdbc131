-- With profile 0 all is as document 01 has it: no kind 5 is checked.
-- Assumes nothing.
use mathlib.Core.Path.{◌≡◌}
use mathlib.Core.Bool.{false, and-false}
use Prim.Native.Nat.{◌/◌, ◌^◌}
use native.Mathlib.Omega.{arith}
use lib.Pow.{shr_le}
use Rattle.channel.specs.declared.Direction.{Direction}
use Rattle.channel.specs.declared.Kind.{Kind}
use Rattle.channel.specs.declared.Kind.TheVariants.{NoSpeech}
use Rattle.channel.specs.Coding.{Word}
use Rattle.channel.specs.Checks.{checks}
use Rattle.channel.specs.Verdict.{Context, class_of, carries, verdict_of}
use Rattle.channel.specs.Frames.{terms_of}

-- no class carries a CRC
pub carries-none : (d : Direction) (g : Word) (k : Kind) → carries (terms_of 0 d) g k ≡ false
carries-none d g k = let z : 0 / 2 ^ class_of g ≡ 0 = omega (arith, shr_le 0 (class_of g)) in rw (z, and-false)

-- a kind 5 is unchecked in every context
pub none_checked : (d : Direction) (x : Context) (g : Word) → verdict_of (terms_of 0 d) x g NoSpeech ≡ 128
unfolding verdict_of checks
none_checked d x g = rw (carries-none d g NoSpeech)
