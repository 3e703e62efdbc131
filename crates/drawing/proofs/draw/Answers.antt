-- `drawing::draw` meets its contract.
-- Assumes nothing.
use mathlib.Core.Path.{◌≡◌}
use native.Mathlib.Omega.{arith}
use lib.ListN.{length-append}
use Rattle.text.proofs.TextLaws.{put-put, same_same}
use Rattle.drawing.specs.Drawing.{octets_of, heading_of}
use Rattle.drawing.proofs.DrawingLaws.{octets-long, heading_short, octets-next}
use Rattle.drawing.proofs.draw.Goals as goal

pub put_octet-requires : goal.put_octet-requires
put_octet-requires c =
    let l = c.loop-octet in
    let h = c.put_heading.ensures in
    (omega arith, omega (arith, c.requires, h.upper_bound, h.same.long, l.invariant.0.ends, l.invariant.1.long, octets-long c.args.k l.octet))

pub loop-octet-preserved : goal.loop-octet-preserved
loop-octet-preserved c =
    let l = c.loop-octet in
    let p = c.put_octet.ensures in
    (octets-next c.args.k l.octet l.invariant.0 p.put, same_same l.invariant.1 p.same)

pub returns : goal.returns
returns c =
    let a = c.args in
    let l = c.loop-octet in
    let all : l.octet ≡ 20 = omega arith in
    let drawn = put-put c.put_heading.ensures.put (rw all at l.invariant.0) in
    record {
      same = same_same c.put_heading.ensures.same l.invariant.1;
      upper_bound = omega (arith, drawn.ends, length-append (heading_of a.k a.title.now) (octets_of a.k 20), heading_short a.k a.title.now, octets-long a.k 20);
      put = drawn;
    }
