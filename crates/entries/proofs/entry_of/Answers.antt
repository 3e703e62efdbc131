-- `entries::entry_of` meets its contract: the first run ends its octet, or there is none.
-- Assumes nothing.
use mathlib.Core.Path.{refl}
use Prim.Native.Nat.{◌-◌, ◌%◌}
use native.Mathlib.Omega.{arith}
use lib.ListN.{get_or}
use lib.Pow.{pow_mono}
use Rattle.entries.proofs.RunLaws.{first_run}
use Rattle.entries.proofs.EntryLaws.{pow-whole, first-none, first-whole}
use Rattle.entries.proofs.entry_of.Goals as goal

pub overflow_cast-p : goal.overflow_cast-p
overflow_cast-p c = omega (arith, c.type_inv.part 0)

pub second_run-requires : goal.second_run-requires
second_run-requires c =
    let a = c.args in
    let r = c.requires in
    (r.1, r.2, r.3, omega (arith, r.0 0 r.2), omega arith, refl, λ i h. absurd (omega arith), first-none a.part.now _, λ h. absurd (omega arith))

pub overflow_cast-part : goal.overflow_cast-part
overflow_cast-part c = omega (arith, c.type_inv.part (8 - get_or c.args.part.now 0 0 % 8 - 1))

pub overflow_add-p : goal.overflow_add-p
overflow_add-p c = omega (arith, c.type_inv.part 0)

pub second_run-requires-2 : goal.second_run-requires-2
second_run-requires-2 c =
    let a = c.args in
    let r = c.requires in
    (r.1, omega arith, r.3, omega arith, rw c.weight.ensures (pow_mono {j = 15} (omega arith)), rw c.weight.ensures (pow-whole _ (omega arith)), first_run a.part.now (8 - get_or a.part.now 0 0 % 8) r.1 (omega arith) (omega arith) (omega arith), first-whole a.part.now _ _ _ refl refl c.weight.ensures, λ h. omega arith)
