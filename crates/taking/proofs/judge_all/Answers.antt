-- `taking::judge_all` meets its contract: the invariant is that the records before those left are taken.
-- Assumes nothing.
use mathlib.Core.Path.{sym, ◌∙◌, subst}
use mathlib.Core.List.{List}
use Prim.Native.Nat.{ℕ, ◌+◌}
use native.Mathlib.Omega.{arith}
use borrow.Author.Tests.{eqb-false}
use Rattle.reading.proofs.FillLaws.{tail-is}
use Rattle.call.specs.Call.{number_of}
use Rattle.call.proofs.NumberLaws.{some_number}
use Rattle.item.specs.Item.{frame_of, cursor_of}
use Rattle.taken.proofs.JudgeLaws.{Judging, rest_length, judge_turn, judged-fails}
use Rattle.taking.proofs.judge_all.Goals as goal

pub slice_bounds-rest-count : goal.slice_bounds-rest-count
slice_bounds-rest-count c =
    let (sound, passes) = c.in-Ok.ensures in
    omega (arith, c.frame_size.ensures, rest_length c.args.t c.loop-rest.rest.now (frame_of c.in-Ok.f) sound.0 sound.1)

pub slice_bounds-rest-start : goal.slice_bounds-rest-start
slice_bounds-rest-start c =
    let (sound, passes) = c.in-Ok.ensures in
    omega (arith, c.frame_size.ensures, rest_length c.args.t c.loop-rest.rest.now (frame_of c.in-Ok.f) sound.0 sound.1)

pub loop-rest-preserved : goal.loop-rest-preserved
loop-rest-preserved c =
    let a = c.args in
    let l = c.loop-rest in
    let (sound, passes) = c.in-Ok.ensures in
    subst (λ (b : List ℕ). Judging a.t a.bits (cursor_of a.c) a.records.now b (l.items + 1) (cursor_of c.over-cursor.result)) (sym (tail-is c.frame_size.result l.rest.now))
    (judge_turn a.t a.bits (cursor_of a.c) a.records.now l.rest.now l.items (cursor_of l.cursor) l.invariant (frame_of c.in-Ok.f) (cursor_of c.over-cursor.result) c.frame_size.result sound passes c.over-cursor.ensures c.frame_size.ensures)

pub returns-in-Err : goal.returns-in-Err
returns-in-Err c =
    let a = c.args in
    let l = c.loop-rest in
    let why = c.in-Err.why in
    judged-fails a.t a.bits (cursor_of a.c) a.records.now l.rest.now l.items (cursor_of l.cursor) l.invariant (number_of why) (some_number why) c.in-Err.ensures (omega (arith, eqb-false _ _ (sym c.is_empty.ensures ∙ c.loop-rest-test.true)))
