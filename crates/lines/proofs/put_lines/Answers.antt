-- `lines::put_lines` meets its contract.
-- Assumes nothing.
use native.Mathlib.Omega.{arith}
use lib.ListN.{get_or}
use Rattle.text.proofs.TextLaws.{same_same}
use Rattle.lines.specs.Lines.{sizes}
use Rattle.lines.proofs.RecordLaws.{left-none, Next, next}
use Rattle.lines.proofs.put_lines.Goals as goal
use Rattle.lines.proofs.put_lines.Goals.{In-Some}

-- the first of the records that are left
here : (c : In-Some)
    → Next c.args.page.now c.args.text.now.bytes.now c.args.text.now.end c.loop-kind.text.bytes.now c.loop-kind.text.end c.loop-kind.rest.now c.in-Some.kind.now (get_or sizes c.in-Some.kind.now 0)
here c =
    let found = c.in-Some.ensures.item.3 in
    next c.args.page.now c.args.text.now.bytes.now c.args.text.now.end c.loop-kind.text.bytes.now c.loop-kind.text.end c.loop-kind.rest.now c.loop-kind.invariant.0 found.0 c.in-Some.kind.now (found.1 0) c.requires

pub size-requires : goal.size-requires
size-requires c = (here (goal.at.size-requires c).In-Some).few

pub split_at-requires : goal.split_at-requires
split_at-requires c = rw c.size.ensures (here (goal.at.split_at-requires c).In-Some).inside

pub put_line-requires : goal.put_line-requires
put_line-requires c =
    let n = here (goal.at.put_line-requires c).In-Some in
    (rw (c.split_at.ensures.front, c.size.ensures) n.recorded, omega (arith, n.room, c.loop-kind.invariant.1.long))

pub loop-kind-smaller : goal.loop-kind-smaller
loop-kind-smaller c = omega (arith, c.size.ensures, c.split_at.ensures.back_len, (here (goal.at.loop-kind-smaller c).In-Some).some)

pub loop-kind-preserved : goal.loop-kind-preserved
loop-kind-preserved c =
    let n = here (goal.at.loop-kind-preserved c).In-Some in
    let p = c.put_line in
    (rw (c.split_at.ensures.back, c.size.ensures) (n.left p.new.text.bytes.now p.new.text.end (rw (c.split_at.ensures.front, c.size.ensures) at p.ensures.lined)), same_same c.loop-kind.invariant.1 p.ensures.same)

pub returns-clause-lined : goal.returns-clause-lined
returns-clause-lined c =
    let l = c.loop-kind in
    left-none c.args.page.now c.args.text.now.bytes.now c.args.text.now.end l.text.bytes.now l.text.end l.rest.now l.invariant.0 c.in_default.ensures.item.3
