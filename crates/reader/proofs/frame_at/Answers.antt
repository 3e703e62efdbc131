-- `reader::frame_at` meets its contract: each way out by what was found amiss, or by nothing.
-- Assumes nothing.
use mathlib.Core.Path.{sym, ◌∙◌}
use native.Mathlib.Omega.{arith}
use Rattle.capture.specs.Capture.{capture_of}
use Rattle.reader.proofs.SeenLaws.{none_of_no_kind, none-past, none-refused, none-short, seen_due}
use Rattle.reader.proofs.frame_at.Goals as goal

pub returns-in_err-kind : goal.returns-in_err-kind
returns-in_err-kind c =
    let a = c.args in
    let o = c.octets-octets in
    rw c.from_residual.ensures (none_of_no_kind (capture_of a.capture.now) a.x a.p o.result o.ensures c.in_err-kind.ensures)

pub returns-then-capture-behind : goal.returns-then-capture-behind
returns-then-capture-behind c =
    let a = c.args in
    let o = c.octets-octets in
    let k = c.in_ok-kind in
    none-past (capture_of a.capture.now) a.x a.p o.result o.ensures k.kind k.ensures (omega (arith, c.body.ensures))

pub returns-then-not-allowed_in : goal.returns-then-not-allowed_in
returns-then-not-allowed_in c =
    let a = c.args in
    let o = c.octets-octets in
    let k = c.in_ok-kind in
    let v = c.verdict_in-verdict in
    none-refused (capture_of a.capture.now) a.x a.p o.result o.ensures k.kind k.ensures v.result v.ensures (sym c.allowed_in.ensures ∙ c.if-not-allowed_in.true)

pub returns-then-tail-least_tail : goal.returns-then-tail-least_tail
returns-then-tail-least_tail c =
    let a = c.args in
    let o = c.octets-octets in
    let k = c.in_ok-kind in
    let t = c.tail_at-tail in
    none-short (capture_of a.capture.now) a.x a.p o.result o.ensures k.kind k.ensures t.result (rw c.body.ensures at t.ensures) (omega (arith, c.least_tail.ensures))

pub returns : goal.returns
returns c =
    let a = c.args in
    let o = c.octets-octets in
    let k = c.in_ok-kind in
    let v = c.verdict_in-verdict in
    let t = c.tail_at-tail in
    seen_due (capture_of a.capture.now) a.x a.p o.result o.ensures k.kind k.ensures v.result t.result (omega (arith, c.body.ensures)) v.ensures
    (sym c.allowed_in.ensures ∙ c.if-not-allowed_in.false) (rw c.body.ensures at t.ensures) (omega (arith, c.least_tail.ensures))
