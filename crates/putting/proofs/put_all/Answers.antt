-- `putting::put_all` meets its contract: the invariant is that the frames before those left are put.
-- Assumes nothing.
use mathlib.Core.Path.{refl, sym, ◌∙◌, ap, subst}
use mathlib.Core.List.{List}
use Prim.Native.Nat.{ℕ, ◌*◌}
use native.Mathlib.Omega.{arith}
use borrow.Author.Tests.{eqb-true, eqb-false}
use Rattle.reading.proofs.FillLaws.{tail-is}
use lib.ListN.{length, drop}
use Rattle.item.specs.Item.{frame_of}
use Rattle.apart.proofs.FrontLaws.{record_none, record_is}
use Rattle.putting.proofs.FrameLaws.{Putting, put-start, put-sound, put_next, put-done, next_fits}
use Rattle.putting.proofs.put_all.Goals as goal

pub loop-rest-init : goal.loop-rest-init
loop-rest-init c =
    let a = c.args in
    (refl, λ t c' fs h. put-start t (8 * length a.buffer.now) c' a.records.now fs a.buffer.now h)

pub returns-in_default : goal.returns-in_default
returns-in_default c =
    let a = c.args in
    let l = c.loop-rest in
    λ t c' fs taken.
    absurd (put-sound t (8 * length a.buffer.now) c' a.records.now fs a.buffer.now l.rest.now l.buffer (l.invariant.1 t c' fs taken) (omega (arith, eqb-false _ _ (sym c.is_empty.ensures ∙ c.loop-rest-test.true))) (record_none _ c.in_default.ensures.0 t))

pub put_frame-requires : goal.put_frame-requires
put_frame-requires c =
    let a = c.args in
    let l = c.loop-rest in
    let f = c.in-Some.f in
    let more = eqb-false _ _ (sym c.is_empty.ensures ∙ c.loop-rest-test.true) in
    rw l.invariant.0 ((next_fits (8 * length a.buffer.now) a.records.now a.buffer.now l.rest.now l.buffer c.requires.0 l.invariant.1 (frame_of f) (omega arith) (record_is _ f c.in-Some.ensures.0)).0, c.requires.2)

pub slice_bounds-rest-count : goal.slice_bounds-rest-count
slice_bounds-rest-count c =
    let a = c.args in
    let l = c.loop-rest in
    let f = c.in-Some.f in
    let more = eqb-false _ _ (sym c.is_empty.ensures ∙ c.loop-rest-test.true) in
    omega (arith, c.frame_size.ensures, (next_fits (8 * length a.buffer.now) a.records.now a.buffer.now l.rest.now l.buffer c.requires.0 l.invariant.1 (frame_of f) (omega arith) (record_is _ f c.in-Some.ensures.0)).1)

pub slice_bounds-rest-start : goal.slice_bounds-rest-start
slice_bounds-rest-start c =
    let a = c.args in
    let l = c.loop-rest in
    let f = c.in-Some.f in
    let more = eqb-false _ _ (sym c.is_empty.ensures ∙ c.loop-rest-test.true) in
    omega (arith, c.frame_size.ensures, (next_fits (8 * length a.buffer.now) a.records.now a.buffer.now l.rest.now l.buffer c.requires.0 l.invariant.1 (frame_of f) (omega arith) (record_is _ f c.in-Some.ensures.0)).1)

pub loop-rest-preserved : goal.loop-rest-preserved
loop-rest-preserved c =
    let a = c.args in
    let l = c.loop-rest in
    let put = c.put_frame in
    let f = c.in-Some.f in (
      put.auto.buffer ∙ l.invariant.0,
      λ t c' fs taken.
          subst (λ (b : List ℕ). Putting t (8 * length a.buffer.now) c' a.records.now fs a.buffer.now b put.new.buffer) (sym (tail-is c.frame_size.result l.rest.now ∙ ap (λ (n : ℕ). drop n l.rest.now) c.frame_size.ensures))
          ((put_next t (8 * length a.buffer.now) c' a.records.now fs a.buffer.now l.rest.now l.buffer (l.invariant.1 t c' fs taken) (frame_of f) (omega (arith, eqb-false _ _ (sym c.is_empty.ensures ∙ c.loop-rest-test.true))) (record_is _ f c.in-Some.ensures.0)).turned put.new.buffer put.ensures),
    )

pub returns : goal.returns
returns c =
    let a = c.args in
    let l = c.loop-rest in
    λ t c' fs taken. put-done t (8 * length a.buffer.now) c' a.records.now fs a.buffer.now l.rest.now l.buffer (l.invariant.1 t c' fs taken) (eqb-true _ _ (sym c.is_empty.ensures ∙ c.loop-rest-test.false))
