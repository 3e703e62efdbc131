-- `entries::second_run` meets its contract: a second run in the octet behind, or no entry.
-- Assumes nothing.
use mathlib.Core.Path.{ap₂}
use Prim.Native.Nat.{ℕ, ◌-◌, ◌≤◌}
use native.Mathlib.Omega.{arith}
use lib.ListN.{length}
use lib.Pow.{pow_mono}
use Rattle.entries.proofs.EntryLaws.{entry-made, entry-small}
use Rattle.entries.proofs.second_run.Goals as goal

pub overflow_cast-q : goal.overflow_cast-q
overflow_cast-q c = omega (arith, c.type_inv.part c.args.s)

pub overflow_cast-part : goal.overflow_cast-part
overflow_cast-part c = omega (arith, c.type_inv.part (length c.args.part.now - 1))

pub overflow_sub-mask : goal.overflow_sub-mask
overflow_sub-mask c = rw (c.weight-2.ensures, c.weight.ensures) (pow_mono (omega arith))

pub overflow_add-result : goal.overflow_add-result
overflow_add-result c = let w : c.weight.result ≤ 65536 = rw c.weight.ensures (pow_mono {i = 16 - c.args.s} {j = 16} (omega arith)) in omega arith

pub overflow_add-result-2 : goal.overflow_add-result-2
overflow_add-result-2 c =
    let w : c.weight.result ≤ 65536 = rw c.weight.ensures (pow_mono {i = 16 - c.args.s} {j = 16} (omega arith)) in
    let v : 256 ≤ c.weight-2.result = rw c.weight-2.ensures (pow_mono {i = 8} {j = 16 - length c.args.part.now} (omega arith)) in
    omega (arith, c.back_of.ensures.1)

pub invariant_of-result : goal.invariant_of-result
invariant_of-result c =
    let a = c.args in
    let r = c.requires in
    let w = c.weight in
    let v = c.weight-2 in
    record { small = entry-small a.part.now a.s a.a a.f c.weight-3.result (w.result - v.result) r.1 r.2 r.4 (rw c.weight-3.ensures (pow_mono {j = 15} (omega arith))) (ap₂ (λ (x y : ℕ). x - y) w.ensures v.ensures) r.3 c.back_of.result }

pub returns : goal.returns
returns c =
    let a = c.args in
    let r = c.requires in
    let w = c.weight in
    let v = c.weight-2 in
    entry-made a.part.now a.s a.a a.f c.weight-3.result (w.result - v.result) r.0 r.1 r.2 r.4 r.6 r.7 (omega arith) (omega arith) (omega arith) c.weight-3.ensures
    (ap₂ (λ (x y : ℕ). x - y) w.ensures v.ensures) r.3 r.5 r.8 c.back_of.result c.back_of.ensures.0
