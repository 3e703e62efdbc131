-- `timeslot::put_back` meets its contract. The invariant: the first j bytes are put.
-- Assumes nothing.
use mathlib.Core.Path.{◌≡◌, refl, ◌∙◌}
use Prim.Native.Nat.{◌+◌, ◌*◌, ◌/◌, ◌%◌}
use native.Mathlib.Omega.{arith}
use lib.ListN.{length}
use Rattle.timeslot.proofs.ByteLaws.{share_whole, share_left, put_all}
use Rattle.timeslot.proofs.put_back.Goals as goal

pub loop-j-init : goal.loop-j-init
loop-j-init c = (omega arith, refl, refl)

pub put_byte-requires : goal.put_byte-requires
put_byte-requires c = let l = c.loop-j in (omega arith, omega arith, share_whole (length l.timeslot) l.j (omega arith), omega arith)

pub loop-j-preserved : goal.loop-j-preserved
loop-j-preserved c =
    let a = c.args in
    let l = c.loop-j in
    let next : 8 * (l.j + 1) ≡ 8 * l.j + 8 = omega arith in
    (omega arith, c.put_byte.auto.timeslot ∙ l.invariant.1, rw next (c.put_byte.ensures a.timeslot.now a.bytes.now refl l.invariant.2))

pub put_byte-requires-then-octets-ne0 : goal.put_byte-requires-then-octets-ne0
put_byte-requires-then-octets-ne0 c =
    let l = c.loop-j in
    (omega arith, omega arith, rw l.invariant.1 (share_left (length c.args.timeslot.now)), omega arith)

pub shape_of-timeslot-then-octets-ne0 : goal.shape_of-timeslot-then-octets-ne0
shape_of-timeslot-then-octets-ne0 c = c.put_byte-then-octets-ne0.auto.timeslot ∙ c.loop-j.invariant.1

pub returns-then-octets-ne0 : goal.returns-then-octets-ne0
returns-then-octets-ne0 c =
    let a = c.args in
    let l = c.loop-j in
    let t = a.timeslot.now in
    let all : l.j ≡ length t / 8 = omega arith in
    let end : 8 * (length t / 8) + length l.timeslot % 8 ≡ length t = omega arith in
    put_all t a.k a.bytes.now c.put_byte-then-octets-ne0.new.timeslot (rw end at (c.put_byte-then-octets-ne0.ensures t a.bytes.now refl (rw all at l.invariant.2)))

pub shape_of-timeslot-else-octets-ne0 : goal.shape_of-timeslot-else-octets-ne0
shape_of-timeslot-else-octets-ne0 c = c.loop-j.invariant.1

pub returns-else-octets-ne0 : goal.returns-else-octets-ne0
returns-else-octets-ne0 c =
    let a = c.args in
    let l = c.loop-j in
    let t = a.timeslot.now in
    let end : 8 * l.j ≡ length t = omega arith in
    put_all t a.k a.bytes.now l.timeslot (rw end at l.invariant.2)
