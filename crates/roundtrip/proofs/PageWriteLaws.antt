-- Demand 2 from call to call: what a page answers without a gap, written from the cursor it was read at, is refused only by 4, exactly where it ends past the
-- buffer, and else gives its own bits.
-- Assumes nothing.
use mathlib.Core.Path.{◌≡◌, sym, ◌∙◌, ap, ap₂, subst}
use mathlib.Core.Bool.{cond}
use mathlib.Core.List.{List}
use Prim.Native.Nat.{ℕ, ◌*◌, ◌≤◌, ◌<◌}
use native.Mathlib.Omega.{arith}
use lib.Dec.{ltb}
use lib.ListN.{length, take, length-map}
use Rattle.reading.specs.Reading.{Cursor, frame, over_all, Stretch}
use Rattle.bits.specs.Bit.{bit_at}
use Rattle.channel.specs.Verdict.{Context}
use Rattle.channel.specs.Frames.{Capture, capture_of, Frame, rules}
use Rattle.channel.specs.Record.{records}
use Rattle.apart.proofs.OneLaws.{all-frames}
use Rattle.call.specs.declared.Answer.{Answer}
use Rattle.call.specs.Call.{terms_by, cursor_by, next, answered_by}
use Rattle.call.specs.declared.PageRequest.{PageRequest}
use Rattle.call.specs.declared.WriteRequest.{WriteRequest}
use Rattle.refusal.specs.Refusal.{write_refusal}
use Rattle.paging.specs.Paging.{PageCall}
use Rattle.taken.specs.Taken.{items}
use Rattle.writing.specs.Writing.{WriteCall}
use Rattle.paging.proofs.HarvestLaws.{got, got_bytes, stretch, request}
use Rattle.roundtrip.proofs.OwnLaws.{own_number, own_answer, own_bits}

-- the frames of a page that has no gap: its bytes are their records, and they are a stretch from its cursor to the one answered
pub record PageFrames (w : Capture) (c : Cursor Context) (bytes : List ℕ) (p : Answer) : Type 0 where
  pub frames : List Frame
  pub stretch : Stretch rules w c (items frames)
  pub same : bytes ≡ records (items frames)
  pub counted : length frames ≡ p.items
  pub moved : over_all rules c (items frames) ≡ cursor_by (next p)

module _ (capture : List ℕ) (r : PageRequest) (room : List ℕ) (p : Answer) (out : List ℕ) (call : PageCall capture r room p out)
    (taken-up : p.number ≡ 0) (gs : List Frame) (no_gaps : take p.bytes out ≡ records (items gs)) where
  abbrev w : Capture
  w = capture_of capture r.n (terms_by r.terms)

  abbrev c : Cursor Context
  c = cursor_by r.cursor

  -- what is asked of writing it back
  abbrev ask : WriteRequest
  ask = record { terms = r.terms; cursor = r.cursor }

  -- what a page answers whose records are all of frames is a stretch of frames
  pub page-written : PageFrames w c (take p.bytes out) p
  page-written =
      let g = got capture r room p out call taken-up in
      let bytes = got_bytes capture r room p out call taken-up in
      let (fs, e) = all-frames g.filled.page gs (sym bytes ∙ no_gaps) in
      record {
        frames = fs;
        stretch = subst (Stretch rules w c) e (stretch capture r room p out call taken-up);
        same = bytes ∙ ap records e;
        counted = sym (length-map fs frame) ∙ ap length (sym e) ∙ sym g.filled.counted;
        moved = ap (over_all rules c) (sym e) ∙ sym g.filled.moved;
      }

  module _ (buffer : List ℕ) (a : Answer) (after : List ℕ) (write : WriteCall (take p.bytes out) ask buffer a after) where
    abbrev fs : List Frame
    fs = page-written.frames

    short : r.n < 4294967296
    short = let q = request capture r room p out call taken-up in omega (arith, q.count, q.short)

    own : WriteCall (records (items fs)) ask buffer a after
    own = subst (λ (l : List ℕ). WriteCall l ask buffer a after) page-written.same write

    -- exactly when: written from the cursor it was read at it is refused by 4 where the cursor answered lies past the buffer, and else not, unless by 1 to 3
    pub page_number_lem : write_refusal (length (take p.bytes out)) ask (length buffer) ≡ 0 → a.number ≡ cond (ltb (8 * length buffer) p.position) 4 0
    page_number_lem z =
        own_number capture r.n ask short fs page-written.stretch buffer a after own
        (ap (λ (l : List ℕ). write_refusal (length l) ask (length buffer)) (sym page-written.same) ∙ z)
        ∙ ap (λ (y : Cursor Context). cond (ltb (8 * length buffer) y.position) 4 0) page-written.moved

    module _ (written-up : a.number ≡ 0) where
      -- not refused, it is answered with the items and the cursor of the page
      pub page-answer : a ≡ answered_by p.items 0 (cursor_by (next p))
      page-answer =
          own_answer capture r.n ask short fs page-written.stretch buffer a after own written-up
          ∙ ap₂ (λ (k : ℕ) (y : Cursor Context). answered_by k 0 y) page-written.counted page-written.moved

      -- and gives its own bits
      pub page-bits : (i : ℕ) → r.cursor.position ≤ i → i < p.position → bit_at after i ≡ bit_at capture i
      page-bits i l h =
          let e : a.position ≡ p.position = ap (λ (b : Answer). b.position) page-answer in
          own_bits capture r.n ask short fs page-written.stretch buffer a after own written-up i l (omega arith)
