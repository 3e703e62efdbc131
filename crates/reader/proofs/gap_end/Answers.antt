-- `reader::gap_end` meets its contract: nothing starts at the places passed, because the first nine bits do not stand there, another fixed bit differs,
-- or no frame is seen.
-- Assumes nothing.
use mathlib.Core.Path.{sym}
use Prim.Native.Nat.{◌-◌}
use native.Mathlib.Omega.{arith}
use Rattle.capture.specs.Capture.{capture_of}
use Rattle.reader.proofs.GapLaws.{Passed, none_differs, passed_more, passed_over, gap_found, gap-all}
use Rattle.reader.proofs.gap_end.Goals as goal

pub returns-then-n-q : goal.returns-then-n-q
returns-then-n-q c =
    let w = capture_of c.args.capture.now in
    let l = c.places in
    let r = c.sync_from-q in
    gap-all w c.args.from r.result (passed_over w c.args.from l.q l.invariant.2 (w.n - 158) r.result r.ensures) (omega (arith, r.ensures.from)) (omega (arith, r.ensures.within)) (omega arith)

pub places-preserved-then-not-bit : goal.places-preserved-then-not-bit
places-preserved-then-not-bit c =
    let w = capture_of c.args.capture.now in
    let l = c.loop-place in
    let r = c.sync_from-q in
    let passed : Passed w c.args.from l.q = rw (sym l.invariant) at (passed_over w c.args.from c.places.q c.places.invariant.2 (w.n - 158) r.result r.ensures) in
    (omega (arith, r.ensures.from), omega arith, passed_more w c.args.from l.q passed (none_differs w l.q l.place-index c.bit.result (omega arith) c.bit.ensures c.if-not-bit.true))

pub returns-then-starts_at : goal.returns-then-starts_at
returns-then-starts_at c =
    let w = capture_of c.args.capture.now in
    let l = c.loop-place in
    let r = c.sync_from-q in
    let passed : Passed w c.args.from l.q = rw (sym l.invariant) at (passed_over w c.args.from c.places.q c.places.invariant.2 (w.n - 158) r.result r.ensures) in
    gap_found w c.args.from l.q passed (omega (arith, r.ensures.from)) (omega arith) c.if-starts_at.ensures

pub places-preserved : goal.places-preserved
places-preserved c =
    let w = capture_of c.args.capture.now in
    let l = c.loop-place in
    let r = c.sync_from-q in
    let passed : Passed w c.args.from l.q = rw (sym l.invariant) at (passed_over w c.args.from c.places.q c.places.invariant.2 (w.n - 158) r.result r.ensures) in
    (omega (arith, r.ensures.from), omega arith, passed_more w c.args.from l.q passed c.if-starts_at.ensures)

pub returns : goal.returns
returns c =
    let w = capture_of c.args.capture.now in
    let l = c.places in
    gap-all w c.args.from l.q l.invariant.2 (omega arith) (omega arith) (omega arith)
