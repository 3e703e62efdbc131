-- `sync::sync_in` meets its contract.
-- Assumes nothing.
use mathlib.Core.Path.{◌≡◌, refl}
use Prim.Native.Nat.{◌*◌, ◌%◌, ◌^◌, ◌<◌}
use native.Mathlib.Omega.{arith}
use lib.Count.{count_leading_zeros}
use Rattle.sync.proofs.SyncLaws.{place_told, told_place, shifted_out, out_shifted}
use Rattle.sync.proofs.sync_in.Goals as goal
use Rattle.sync.proofs.sync_in.Goals.{else-k-lt8-via-then-k-lt8+else-a-k-eq0, else-k-lt8-via-else-k-lt8}

pub returns-then-a-k-eq0 : goal.returns-then-a-k-eq0
returns-then-a-k-eq0 c =
    let a = c.args.a in
    let b = c.args.b in
    let k = count_leading_zeros 8 b in
    let inside : k < 8 = omega arith in
    (inside, (out_shifted a k inside (omega arith), told_place b k (omega arith) inside refl), λ j l h. place_told b j l h.1)

pub returns-else-k-lt8 : goal.returns-else-k-lt8
returns-else-k-lt8 c k l h =
    let a = c.args.a in
    let b = c.args.b in
    let told = place_told b k l h.1 in
    elim c.else-k-lt8.branch [
      | else-k-lt8-via-then-k-lt8+else-a-k-eq0 w ↦
          let cut : a * 2 ^ count_leading_zeros 8 b % 2 ^ 32 % 256 ≡ 0 = rw told (shifted_out a k l h.0) in omega arith
      | else-k-lt8-via-else-k-lt8 w ↦ omega arith
    ]
