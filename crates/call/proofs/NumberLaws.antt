-- Numbers given by tests, one after the other; and those of refusals.
-- Assumes nothing.
use mathlib.Core.Path.{◌≡◌, refl}
use mathlib.Core.Bool.{Bool, true, false, cond}
use Prim.Native.Nat.{ℕ, ◌<◌}
use native.Mathlib.Omega.{arith}
use Rattle.call.specs.declared.Refusal.{Refusal}
use Rattle.call.specs.declared.Refusal.TheVariants.{NotARequest, TooLong, WrongCursor, NoRoom, Unsound, NotDue, NoChannel, Full, KeyPresent, NoSession}
use Rattle.call.specs.Call.{number_of}

-- a number that a test does not give
pub passed : (b : Bool) (v x : ℕ) → 0 < v → cond b v x ≡ 0 → (b ≡ false) × (x ≡ 0)
passed true v x h e = absurd (omega arith)
passed false v x h e = (refl, e)

-- every refusal has a number, and none has 0
pub some_number : (why : Refusal) → 0 < number_of why
some_number NotARequest = omega arith
some_number TooLong = omega arith
some_number WrongCursor = omega arith
some_number NoRoom = omega arith
some_number Unsound = omega arith
some_number NotDue = omega arith
some_number NoChannel = omega arith
some_number Full = omega arith
some_number KeyPresent = omega arith
some_number NoSession = omega arith
