-- `tails::tail_at` meets its contract: all bits passed are ones.
-- Assumes nothing.
use Prim.Native.Nat.{◌+◌, ◌*◌, ◌/◌, ◌%◌}
use native.Mathlib.Omega.{arith}
use lib.ListN.{get_or}
use Rattle.capture.specs.Capture.{capture_of}
use Rattle.tails.specs.Zero.{FirstZero}
use Rattle.tails.proofs.TailLaws.{ones-more, zero_met, tail_all, tail_met}
use Rattle.tails.proofs.tail_at.Goals as goal

pub loop-end-init : goal.loop-end-init
loop-end-init c = (omega arith, λ i a b. absurd (omega arith))

pub returns-in-Some : goal.returns-in-Some
returns-in-Some c =
    let w = c.args.capture.now in
    let q = c.args.q in
    let l = c.loop-end in
    let k = c.in-Some.k in
    let z : FirstZero (get_or w.bytes.now (l.end / 8) 0) (l.end % 8) k = c.in-Some.ensures in
    rw c.min.ensures (tail_met (capture_of w) q (8 * (l.end / 8) + k) c.requires (ones-more w.bytes.now q l.end l.invariant.1 k (omega (arith, z.within)) z.ones) (omega (arith, z.from)) (zero_met w.bytes.now l.end k z))

pub loop-end-preserved : goal.loop-end-preserved
loop-end-preserved c =
    let l = c.loop-end in
    (omega arith, ones-more c.args.capture.now.bytes.now c.args.q l.end l.invariant.1 8 (omega arith) c.in_default.ensures)

pub returns : goal.returns
returns c =
    let l = c.loop-end in
    tail_all (capture_of c.args.capture.now) c.args.q l.end c.requires l.invariant.1 (omega arith)
