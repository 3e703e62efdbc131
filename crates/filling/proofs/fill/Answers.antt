-- `filling::fill` meets its contract: the invariant is that the items done are a stretch from the cursor, with their records in front.
-- Assumes nothing.
use mathlib.Core.Path.{sym, ◌∙◌, subst}
use Prim.Native.Nat.{ℕ, ◌+◌, ◌-◌, ◌≤◌}
use native.Mathlib.Omega.{arith}
use borrow.Rule.Slice.PartMut.{put_mid, same_len_mid}
use lib.ListN.{length}
use Rattle.reading.specs.Reading.{Cursor}
use Rattle.reading.proofs.ItemLaws.{within}
use Rattle.reading.proofs.FillLaws.{Filling, fill_start, fill_turn, filled_full, filled-end, filled_tight}
use Rattle.channel.specs.Verdict.{Context}
use Rattle.channel.specs.Frames.{rules}
use Rattle.channel.specs.Record.{size_of, record_of}
use Rattle.channel.proofs.FrameLaws.{sound}
use Rattle.capture.specs.Capture.{capture_of}
use Rattle.item.specs.Item.{item_of, cursor_of}
use Rattle.numbers.proofs.SizeLaws.{record_length}
use Rattle.filling.proofs.fill.Goals as goal

pub loop-page-init : goal.loop-page-init
loop-page-init c =
    let a = c.args in
    record {
      filling = fill_start rules record_of (capture_of a.capture.now) (cursor_of a.c) a.most a.buffer.now;
      within = c.requires;
    }

pub returns-then-buffer-page : goal.returns-then-buffer-page
returns-then-buffer-page c =
    let a = c.args in
    let w = capture_of a.capture.now in
    let l = c.loop-page in
    let i = c.item_at-i in
    filled_tight rules record_of w (sound w) (cursor_of a.c) a.most a.buffer.now l.buffer l.page.bytes l.page.items (cursor_of l.page.cursor) c.requires l.invariant.filling
    (item_of i.result) c.size-size.result i.ensures.obeys (c.size-size.ensures ∙ sym (record_length (item_of i.result))) (omega arith)

pub loop-page-preserved : goal.loop-page-preserved
loop-page-preserved c =
    let a = c.args in
    let w = capture_of a.capture.now in
    let l = c.loop-page in
    let i = c.item_at-i in
    let x = item_of i.result in
    let put = c.put in
    let size = c.size-size in
    let rest = length l.buffer - l.page.bytes in
    let same = same_len_mid l.page.bytes rest l.buffer put.new.out put.auto.out in
    let turned = fill_turn rules record_of w (cursor_of a.c) a.most a.buffer.now l.buffer l.page.bytes l.page.items (cursor_of l.page.cursor) (cursor_of c.over.result) x (size_of x) put.new.out l.invariant.filling (omega (arith, c.loop-page-test.true)) i.ensures.obeys c.over.ensures (record_length x) (omega arith) put.ensures same in
    record {
      filling = subst (λ (k : ℕ). Filling rules record_of w (cursor_of a.c) a.most a.buffer.now (put_mid l.page.bytes rest l.buffer put.new.out) (l.page.bytes + k) (l.page.items + 1) (cursor_of c.over.result)) (sym size.ensures) turned;
      within = subst (λ (y : Cursor Context). y.position ≤ w.n) (sym c.over.ensures) (within rules w (sound w) (cursor_of l.page.cursor) x i.ensures.obeys);
    }

pub returns-else-page-capture : goal.returns-else-page-capture
returns-else-page-capture c =
    let a = c.args in
    let w = capture_of a.capture.now in
    let l = c.loop-page in
    filled-end rules record_of w (sound w) (cursor_of a.c) a.most a.buffer.now l.buffer l.page.bytes l.page.items (cursor_of l.page.cursor) c.requires l.invariant.filling (omega arith)

pub returns-after-loop-page : goal.returns-after-loop-page
returns-after-loop-page c =
    let a = c.args in
    let w = capture_of a.capture.now in
    let l = c.loop-page in
    filled_full rules record_of w (sound w) (cursor_of a.c) a.most a.buffer.now l.buffer l.page.bytes l.page.items (cursor_of l.page.cursor) c.requires l.invariant.filling (omega arith)
