-- `listing::list` meets its contract.
-- Assumes nothing.
use mathlib.Core.Path.{◌≡◌, ◌∙◌, ap}
use native.Mathlib.Omega.{arith}
use Rattle.call.specs.declared.CursorNumbers.{CursorNumbers}
use Rattle.text.proofs.TextLaws.{same_same}
use Rattle.listing.proofs.PagingLaws.{PageTaken, number_is, page-taken}
use Rattle.listing.proofs.ListLaws.{refused-listing, page-records, goes_on, listed}
use Rattle.listing.proofs.list.Goals as goal
use Rattle.listing.proofs.list.Goals.{After-page-answer}

-- a page that is not refused
taken : (c : After-page-answer) → c.page-answer.result.number ≡ 0 → PageTaken c.args.capture.now c.args.direction c.loop-table.cursor c.page-answer.result c.page-answer.new.buffer
taken c z =
    page-taken c.args.capture.now c.args.direction c.loop-table.cursor c.loop-table.buffer c.page-answer.result c.page-answer.new.buffer c.page-answer.ensures c.page-answer.auto.buffer z

pub returns-then-answer-ne0-clause-listed : goal.returns-then-answer-ne0-clause-listed
returns-then-answer-ne0-clause-listed c =
    let a = c.args in
    let l = c.loop-table in
    let p = c.page-answer in
    let number = number_is a.capture.now a.direction l.cursor l.buffer p.result p.new.buffer p.ensures (omega (arith, l.invariant.1)) in
    refused-listing a.capture.now a.direction l.cursor a.text.now.bytes.now a.text.now.end l.text.bytes.now l.text.end l.invariant.0 p.result.number c.put_refusal.new.text.bytes.now c.put_refusal.new.text.end number c.if-answer-ne0.true
    (rw (c.truncate.ensures.bytes, c.truncate.ensures.end, c.len-begins.ensures.end) at c.put_refusal.ensures.put)

pub put_lines-requires : goal.put_lines-requires
put_lines-requires c =
    let a = c.args in
    let l = c.loop-table in
    let page = taken (goal.at.put_lines-requires c).After-page-answer c.if-answer-ne0.false in
    page-records a.capture.now a.direction l.cursor a.text.now.bytes.now a.text.now.end l.text.bytes.now l.text.end l.invariant.0 c.page-answer.result c.page-answer.new.buffer page c.requires.0 (omega (arith, c.requires.1, l.invariant.2.long))

pub returns-then-n-answer-clause-listed : goal.returns-then-n-answer-clause-listed
returns-then-n-answer-clause-listed c =
    let a = c.args in
    let l = c.loop-table in
    let page = taken (goal.at.returns-then-n-answer-clause-listed c).After-page-answer c.if-answer-ne0.false in
    listed a.capture.now a.direction l.cursor a.text.now.bytes.now a.text.now.end l.text.bytes.now l.text.end l.invariant.0 c.page-answer.result c.page-answer.new.buffer page c.requires.0 c.put_lines.new.text.bytes.now c.put_lines.new.text.end c.put_lines.ensures.lined c.if-n-answer.true

pub loop-table-smaller : goal.loop-table-smaller
loop-table-smaller c =
    let page = taken (goal.at.loop-table-smaller c).After-page-answer c.if-answer-ne0.false in
    let e : c.next-cursor.result.position ≡ c.page-answer.result.position = ap (λ (y : CursorNumbers). y.position) c.next-cursor.ensures in
    omega (arith, page.further (c.loop-table.invariant.0.ahead (omega (arith, page.inside))))

pub loop-table-preserved : goal.loop-table-preserved
loop-table-preserved c =
    let a = c.args in
    let l = c.loop-table in
    let page = taken (goal.at.loop-table-preserved c).After-page-answer c.if-answer-ne0.false in
    let more = goes_on a.capture.now a.direction l.cursor a.text.now.bytes.now a.text.now.end l.text.bytes.now l.text.end l.invariant.0 c.page-answer.result c.page-answer.new.buffer page c.requires.0 c.put_lines.new.text.bytes.now c.put_lines.new.text.end c.put_lines.ensures.lined (omega arith) in
    (rw c.next-cursor.ensures more, c.page-answer.auto.buffer ∙ l.invariant.1, same_same l.invariant.2 c.put_lines.ensures.same)
