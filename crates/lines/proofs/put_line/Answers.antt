-- `lines::put_line` meets its contract.
-- Assumes nothing.
use native.Mathlib.Omega.{arith}
use Rattle.lines.proofs.RecordLaws.{nine, twelve, lined_gap, lined_frame}
use Rattle.lines.proofs.put_line.Goals as goal

pub bounds-bytes-0 : goal.bounds-bytes-0
bounds-bytes-0 c = omega (arith, nine c.args.bytes.now c.requires.0)

pub number_at-start-requires : goal.number_at-start-requires
number_at-start-requires c = omega (arith, nine c.args.bytes.now c.requires.0)

pub number_at-span-requires : goal.number_at-span-requires
number_at-span-requires c = nine c.args.bytes.now c.requires.0

pub returns-then-kind-eq0-clause-lined : goal.returns-then-kind-eq0-clause-lined
returns-then-kind-eq0-clause-lined c =
    let a = c.args in
    let start = c.number_at-start in
    let span = c.number_at-span in
    lined_gap a.bytes.now a.text.now.bytes.now c.put_gap.new.text.bytes.now a.text.now.end c.put_gap.new.text.end start.result span.result start.ensures.0 span.ensures.0 c.if-kind-eq0.true c.put_gap.ensures.put

pub bounds-bytes-11 : goal.bounds-bytes-11
bounds-bytes-11 c = twelve c.args.bytes.now c.requires.0 c.if-kind-eq0.false

pub returns-clause-lined : goal.returns-clause-lined
returns-clause-lined c =
    let a = c.args in
    let start = c.number_at-start in
    let span = c.number_at-span in
    lined_frame a.bytes.now a.text.now.bytes.now c.put_frame.new.text.bytes.now a.text.now.end c.put_frame.new.text.end start.result span.result start.ensures.0 span.ensures.0 c.if-kind-eq0.false c.put_frame.ensures.put
