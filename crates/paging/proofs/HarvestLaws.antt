-- The calls of paging: no second answer fits a request; a page that is not refused makes progress, and the cursor that it answers is never refused for the
-- same capture; demand 3, the pages of a harvest, joined, are the records of the one reading.
-- Assumes nothing.
use mathlib.Core.Path.{◌≡◌, ap, subst}
use mathlib.Core.List.{List, [], ◌∷◌}
use Prim.Native.Nat.{ℕ, ◌≤◌, ◌<◌}
use native.Mathlib.Omega.{arith}
use lib.ListN.{length, take}
use Rattle.reading.specs.Reading.{Cursor, Item, over_all, Stretch, Reading}
use Rattle.reading.specs.Paging.{Delivered}
use Rattle.reading.proofs.HarvestLaws.{filled-bytes, filled-stretch, filled_within, filled_progress, known-after, delivered_is}
use Rattle.channel.specs.Verdict.{Context}
use Rattle.channel.specs.Frames.{Capture, capture_of, Frame, rules}
use Rattle.channel.proofs.FrameLaws.{sound}
use Rattle.verdict.proofs.VerdictLaws.{after_le}
use Rattle.channel.specs.Record.{record_of, records}
use Rattle.call.specs.declared.TermNumbers.{TermNumbers}
use Rattle.call.specs.declared.CursorNumbers.{CursorNumbers}
use Rattle.call.specs.declared.Answer.{Answer}
use Rattle.call.specs.Call.{terms_by, cursor_by, next}
use Rattle.call.specs.declared.PageRequest.{PageRequest}
use Rattle.refusal.specs.Refusal.{page_refusal}
use Rattle.paging.specs.Paging.{PagedBy, PageCall}
use Rattle.paging.specs.Harvest.{Asked, Harvest, deliveries, harvested, counted}
use Rattle.refusal.proofs.RefusalLaws.{Admitted, admitted, admit}
use Rattle.paging.proofs.PagedLaws.{paged_one, Got, not_by_number, got_paged}

-- what a request is of
abbrev pub capture_by : List ℕ → ℕ → TermNumbers → Capture
capture_by capture n terms = capture_of capture n (terms_by terms)

-- no second answer and no second buffer fit a request
pub answer-one : (capture : List ℕ) (r : PageRequest) (buffer : List ℕ) (a b : Answer) (after later : List ℕ) → PageCall capture r buffer a after → PageCall capture r buffer b later
    → (a ≡ b) × (after ≡ later)
answer-one capture r buffer =
    let w = capture_by capture r.n r.terms in
    paged_one rules record_of w r.cursor r.most buffer (sound w) (page_refusal (length capture) r)

module _ (capture : List ℕ) (r : PageRequest) (buffer : List ℕ) (a : Answer) (after : List ℕ) (call : PageCall capture r buffer a after) (taken-up : a.number ≡ 0) where
  abbrev w : Capture
  w = capture_by capture r.n r.terms

  -- 1 to 3 did not refuse it
  pub not-refused : page_refusal (length capture) r ≡ 0
  not-refused = not_by_number rules record_of w r.cursor r.most buffer a after taken-up (page_refusal (length capture) r) call

  pub request : Admitted (length capture) r
  request = admitted (length capture) r not-refused

  -- nor did 4
  pub got : Got rules record_of w r.cursor r.most buffer a after
  got =
      got_paged rules record_of w r.cursor r.most buffer a after taken-up
      (subst (λ (k : ℕ). PagedBy rules record_of k w r.cursor r.most buffer a after) not-refused call)

  -- the bytes answered, from the front of the buffer, are the records of the page
  pub got_bytes : take a.bytes after ≡ records got.filled.page
  got_bytes = filled-bytes rules record_of w (cursor_by r.cursor) r.most buffer after a.items a.bytes (cursor_by (next a)) got.filled

  -- its items are a stretch from its cursor
  pub stretch : Stretch rules w (cursor_by r.cursor) got.filled.page
  stretch = filled-stretch rules record_of w (cursor_by r.cursor) r.most buffer after a.items a.bytes (cursor_by (next a)) got.filled

  -- a page that is not refused and not at the end makes progress
  pub progress : r.cursor.position < r.n → (0 < a.items) × (r.cursor.position < a.position)
  progress =
      filled_progress rules record_of w (cursor_by r.cursor) r.most buffer after a.items a.bytes (cursor_by (next a)) got.filled (sound w) got.left

  -- a cursor that a page answers is never refused for the same capture
  pub answered-good : (more : ℕ) → 0 < more → page_refusal (length capture) (record { n = r.n; terms = r.terms; cursor = next a; most = more }) ≡ 0
  answered-good more h =
      let known : (over_all rules (cursor_by r.cursor) got.filled.page).context ≤ 5 =
      known-after rules (λ (x : ℕ). x ≤ 5) (omega arith) (λ x f. after_le x f.body f.kind) (cursor_by r.cursor) got.filled.page request.known in
      admit (length capture) (record { n = r.n; terms = r.terms; cursor = next a; most = more })
      (record {
        way = request.way;
        some = h;
        short = request.short;
        count = request.count;
        inside = filled_within rules record_of w (cursor_by r.cursor) r.most buffer after a.items a.bytes (cursor_by (next a)) got.filled (sound w) request.inside;
        known = omega (arith, ap (λ (y : Cursor Context). y.context) got.filled.moved);
      })

module _ (capture : List ℕ) (n : ℕ) (terms : TermNumbers) where
  -- each page of a harvest is delivered from the cursor that the last answered
  delivered : (c : CursorNumbers) (rs : List Asked) → Harvest capture n terms c rs → Delivered rules record_of (capture_by capture n terms) (cursor_by c) (deliveries rs)
  delivered c [] h = h
  delivered c (a ∷ rs) ((call, z), rest) =
      ((got capture (record { n = n; terms = terms; cursor = c; most = a.most }) a.buffer a.answer a.after call z).filled, delivered (next a.answer) rs rest)

  -- demand 3: if no request is refused, the pages joined are the records of the one reading, and the items counted are its items
  pub harvest_is : (c : CursorNumbers) (rs : List Asked) (xs : List (Item Frame)) → Harvest capture n terms c rs → Reading rules (capture_by capture n terms) (cursor_by c) xs
      → (harvested rs ≡ records xs) × (counted rs ≡ length xs)
  harvest_is c rs xs h =
      delivered_is rules record_of (capture_by capture n terms) (sound (capture_by capture n terms)) (cursor_by c) (deliveries rs) xs (delivered c rs h)
