-- `word::field_of` meets its contract: the bits behind the field are shifted out, those before it are its remainder.
-- Assumes nothing.
use Prim.Native.Nat.{ℕ, ◌-◌, ◌%◌, ◌^◌, ◌≤◌, ◌<◌}
use native.Mathlib.Nat.{mod-lt, zero-add}
use native.Mathlib.Omega.{arith}
use lib.Pow.{pow_pos, pow_mono}
use Rattle.word.proofs.FieldLaws.{shl_one, field_in}
use Rattle.word.proofs.field_of.Goals as goal

-- a remainder of at most eight bits fits
low_fits : (x c : ℕ) → c ≤ 8 → x % 2 ^ c < 2 ^ 32
low_fits x c l = omega (arith, mod-lt x (pow_pos c), pow_mono {i = c} {j = 8} l)

pub nonzero_rem-result : goal.nonzero_rem-result
nonzero_rem-result c = rw (shl_one c.args.c (omega arith)) (pow_pos c.args.c)

pub overflow_cast-result : goal.overflow_cast-result
overflow_cast-result c = rw (shl_one c.args.c (omega arith)) (record { fits = low_fits _ c.args.c (omega arith) })

pub returns : goal.returns
returns c =
    let a = c.args in
    rw (shl_one a.c (omega arith))
    (mod-lt _ (pow_pos a.c), λ g h. rw h (rw (zero-add a.p) at (field_in g 64 0 a.p a.c (64 - a.p - a.c) (omega arith))))
