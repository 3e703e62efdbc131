-- `timeslot::byte_of` meets its contract.
-- Assumes nothing.
use mathlib.Core.Path.{◌∙◌}
use Prim.Native.Nat.{◌*◌}
use native.Mathlib.Omega.{arith}
use lib.ListN.{get_or}
use Rattle.timeslot.proofs.ByteLaws.{eight_of_lem, byte-is}
use Rattle.timeslot.proofs.byte_of.Goals as goal

pub returns : goal.returns
returns c =
    let a = c.args in
    let t = a.timeslot.now in
    let eight = eight_of_lem t a.j a.c c.load.result (λ i. omega (arith, c.type_inv.timeslot i)) c.requires.2 c.load.ensures in
    c.gathered.ensures (λ i. get_or t i 0) (8 * a.j) eight ∙ byte-is t a.k a.j (omega arith) (omega arith)
