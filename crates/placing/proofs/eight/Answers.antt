-- `placing::eight` meets its contract. The loop's invariant: the first i places are filled in, the others are still zero.
-- Assumes nothing.
use mathlib.Core.Path.{◌≡◌, refl}
use mathlib.Core.List.{List}
use Prim.Native.Nat.{ℕ, ◌+◌, ◌*◌}
use native.Mathlib.Omega.{arith}
use lib.ListN.{take, replicate, length-take, drop_of_length-le}
use Rattle.std.proofs.Common.{append-nil}
use Rattle.bits.proofs.CountLaws.{fill_step}
use Rattle.channel.specs.Places.{d_place}
use Rattle.placing.specs.Eight.{size_of}
use Rattle.placing.proofs.PlacingLaws.{one_by_one}
use Rattle.placing.proofs.eight.Goals as goal

pub loop-i-preserved : goal.loop-i-preserved
loop-i-preserved c =
    let a = c.args in
    let l = c.loop-i in
    fill_step (λ i. d_place a.k (8 * a.j + i + 1)) l.i (take c.size.result (replicate 8 0)) l.at-items c.place.result l.invariant c.place.ensures (omega arith)

pub returns : goal.returns
returns c =
    let a = c.args in
    let l = c.loop-i in
    let n = c.size in
    let zeros : List ℕ = replicate 8 0 in
    let part : List ℕ = take n.result zeros in
    let long = length-take n.result zeros in
    let e : l.i ≡ size_of a.k a.j = omega (arith, n.ensures) in
    let none = drop_of_length-le part {i = l.i} (omega arith) in
    let filled = rw (none, append-nil) at l.invariant in
    let all = rw (e, one_by_one a.k a.j (size_of a.k a.j) c.requires refl) at filled in
    rw (all, n.ensures) refl
