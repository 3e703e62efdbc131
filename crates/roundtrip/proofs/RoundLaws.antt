-- Demand 2 at the calls, read back: records that writing accepts at a cursor read back as those records, from that cursor to where writing ended.
-- Assumes nothing.
use mathlib.Core.Path.{◌≡◌, sym, ◌∙◌, ap, subst}
use mathlib.Core.List.{List, [], append-nil}
use Prim.Native.Nat.{ℕ, ◌+◌, ◌*◌, ◌<◌}
use native.Mathlib.Omega.{arith}
use lib.ListN.{length, length-map}
use Rattle.reading.specs.Reading.{Cursor, Item, frame, over_all, Reading}
use Rattle.bits.specs.Bit.{bit_at}
use Rattle.put.proofs.PutLaws.{puts_inside}
use Rattle.channel.specs.Verdict.{Context}
use Rattle.channel.specs.Frames.{Capture, capture_of, Frame, rules}
use Rattle.channel.proofs.ChannelLaws.{unique}
use Rattle.channel.specs.Record.{records}
use Rattle.call.specs.declared.Answer.{Answer}
use Rattle.call.specs.Call.{terms_by, cursor_by, next}
use Rattle.call.specs.declared.WriteRequest.{WriteRequest}
use Rattle.refusal.specs.Refusal.{page_refusal}
use Rattle.taken.specs.Taken.{items}
use Rattle.putting.specs.FrameBits.{all_bits}
use Rattle.writing.specs.Writing.{WriteCall}
use Rattle.paging.specs.Harvest.{Asked, Harvest, harvested, counted}
use Rattle.paging.proofs.HarvestLaws.{harvest_is}
use Rattle.refusal.proofs.RefusalLaws.{admit, writable}
use Rattle.taken.proofs.TakeLaws.{taken-records}
use Rattle.writing.proofs.WriteLaws.{Accepted, accepted, accepted_reach, accepted_fits, write-length}
use Rattle.roundtrip.proofs.ShownLaws.{Shows, taken-stretch}

-- what a reading has of records that were written: their bytes, as many items, and the cursor where writing ended
pub record ReadBack (c : Cursor Context) (bytes : List ℕ) (a : Answer) (xs : List (Item Frame)) : Type 0 where
  pub same : records xs ≡ bytes
  pub counted : length xs ≡ a.items
  pub moved : over_all rules c xs ≡ cursor_by (next a)

module _ (bytes : List ℕ) (ask : WriteRequest) (buffer : List ℕ) (a : Answer) (after : List ℕ) where
  -- the bits after are those of the frames taken
  pub accepted_shows : (s : Accepted bytes ask buffer a after) → Shows (bit_at after) ask.cursor.position (all_bits s.frames)
  accepted_shows s k h =
      ap (λ (l : List ℕ). bit_at l (ask.cursor.position + k)) s.put
      ∙ puts_inside (all_bits s.frames) buffer ask.cursor.position k (accepted_fits bytes ask buffer a after s) h

  module _ (call : WriteCall bytes ask buffer a after) (taken-up : a.number ≡ 0) where
    abbrev w : Capture
    w = capture_of after a.position (terms_by ask.terms)

    abbrev c : Cursor Context
    c = cursor_by ask.cursor

    -- records that writing accepts at a cursor read back as those records, from that cursor to where writing ended
    pub write-reads : (xs : List (Item Frame)) × Reading rules w c xs × ReadBack c bytes a xs
    write-reads =
        let s = accepted bytes ask buffer a after call taken-up in
        let e : over_all rules c (items s.frames) ≡ cursor_by (next a) = sym (ap (λ (b : Answer). cursor_by (next b)) s.answered) in
        let p : (over_all rules c (items s.frames)).position ≡ a.position = ap (λ (y : Cursor Context). y.position) e in (
          items s.frames,
          (taken-stretch w (8 * length buffer) c bytes s.frames [] s.whole (accepted_shows s) p, p),
          record {
            same = sym (taken-records (terms_by ask.terms) (8 * length buffer) c bytes s.frames [] s.whole ∙ append-nil (records (items s.frames)));
            counted = length-map s.frames frame ∙ sym (ap (λ (b : Answer). b.items) s.answered);
            moved = e;
          },
        )

    -- and that is the one reading: any list that reads there has those records
    pub write_read : (ys : List (Item Frame)) → Reading rules w c ys → ReadBack c bytes a ys
    write_read ys r = let (xs, q, b) = write-reads in subst (ReadBack c bytes a) (unique w c xs ys q r) b

    -- paging does not refuse that capture and cursor by 1 to 3
    pub write-pages : (most : ℕ) → 0 < most → page_refusal (length after) (record { n = a.position; terms = ask.terms; cursor = ask.cursor; most = most }) ≡ 0
    write-pages most h =
        let s = accepted bytes ask buffer a after call taken-up in
        let r = writable (length bytes) ask (length buffer) s.admitted in
        let l = write-length bytes ask buffer a after call in
        let m = accepted_reach bytes ask buffer a after s in
        let k = accepted_fits bytes ask buffer a after s in
        admit (length after) (record { n = a.position; terms = ask.terms; cursor = ask.cursor; most = most })
        (record { way = r.way; some = h; short = omega (arith, r.short); count = omega arith; inside = omega arith; known = r.known })

    -- so a harvest from that cursor brings those records
    pub write_harvest : (rs : List Asked) → Harvest after a.position ask.terms ask.cursor rs → (harvested rs ≡ bytes) × (counted rs ≡ a.items)
    write_harvest rs h =
        let (xs, q, b) = write-reads in
        let (e, n) = harvest_is after a.position ask.terms ask.cursor rs xs h q in
        (e ∙ b.same, n ∙ b.counted)
