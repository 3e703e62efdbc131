-- `put::from_bit` meets its contract: a byte and a zero byte behind it.
-- Assumes nothing.
use Prim.Native.Nat.{◌+◌, ◌*◌, ◌-◌}
use mathlib.Core.Path.{◌≡◌, refl}
use mathlib.Core.List.{[], ◌∷◌}
use native.Mathlib.Omega.{arith}
use Rattle.put.proofs.RunPutLaws.{pair_shows}
use Rattle.put.proofs.from_bit.Goals as goal

pub returns : goal.returns
returns c =
    let a = c.args in
    let back : 8 * (0 + 1) - (8 - a.k) ≡ a.k = omega arith in
    rw back at (pair_shows (a.b ∷ []) 0 (8 - a.k) a.b 0 c.join.result (omega arith) (omega arith) c.join.ensures refl refl)
