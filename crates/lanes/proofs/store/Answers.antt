-- `lanes::store` meets its contract: the first of the number's eight octets are stored.
-- Assumes nothing.
use mathlib.Core.Path.{◌∙◌, ap}
use Prim.Native.Nat.{◌+◌, ◌-◌}
use native.Mathlib.Omega.{arith}
use lib.ListN.{take}
use Rattle.lanes.proofs.LaneLaws.{filled_more}
use Rattle.lanes.proofs.store.Goals as goal

pub returns : goal.returns
returns c f d e h =
    let a = c.args in
    filled_more f a.at a.c (a.at + a.c - a.at) a.w d a.s.now c.copy_from_slice.new.self (omega arith) (omega arith) e h
    (c.copy_from_slice.ensures.after ∙ ap (take a.c) c.to_le_bytes.ensures)
