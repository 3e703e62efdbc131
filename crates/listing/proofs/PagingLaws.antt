-- What the listing takes from paging: the number of a page that has room for the largest record is the one that 1 to 3 give, and a page that is not refused
-- brings the records of a stretch of items, with the cursor moved over them.
-- Assumes nothing.
use mathlib.Core.Path.{◌≡◌, refl, sym, ap}
use mathlib.Core.Bool.{Bool, true, false, cond}
use mathlib.Core.List.{List, [], ◌∷◌, append-nil}
use Prim.Native.Nat.{ℕ, zero, suc, ◌*◌, ◌≤◌, ◌<◌}
use native.Mathlib.Omega.{arith}
use borrow.Author.Tests.{ltb-true, le-ltb}
use lib.Dec.{lit<, ltb}
use lib.ListN.{length, take}
use lib.Seq.{length-take-le}
use Rattle.reading.specs.Reading.{Cursor, Item, over_all, Stretch, Reading}
use Rattle.reading.specs.Paging.{Page, first_left}
use Rattle.channel.specs.Verdict.{Context}
use Rattle.channel.specs.Frames.{Capture, Frame, rules}
use Rattle.channel.proofs.ChannelLaws.{exists}
use Rattle.channel.specs.Record.{record_of, records}
use Rattle.numbers.proofs.SizeLaws.{record_length, size_le}
use Rattle.call.specs.declared.CursorNumbers.{CursorNumbers}
use Rattle.call.specs.declared.Answer.{Answer}
use Rattle.call.specs.Call.{cursor_by, next, answered_by, refused}
use Rattle.call.specs.declared.PageRequest.{PageRequest}
use Rattle.refusal.specs.Refusal.{page_refusal}
use Rattle.paging.specs.Paging.{PagedBy, PageCall}
use Rattle.refusal.proofs.RefusalLaws.{Admitted, admitted}
use Rattle.paging.proofs.HarvestLaws.{got, got_bytes, not-refused, stretch, progress, answered-good}
use Rattle.listing.specs.Listing.{number_of, whole_of}

-- the cursor of the beginning
abbrev pub first : CursorNumbers
first = record { position = 0; context = 0 }

-- what the listing asks of a page
abbrev pub asked : List ℕ → ℕ → CursorNumbers → PageRequest
asked capture direction cursor = record { n = 8 * length capture; terms = record { direction = direction; profile = 0 }; cursor = cursor; most = 4096 }

-- the number that 1 to 3 give
abbrev pub page_number : List ℕ → ℕ → CursorNumbers → ℕ
page_number capture direction cursor = page_refusal (length capture) (asked capture direction cursor)

-- at the beginning it is that of the listing
pub number-due : (capture : List ℕ) (direction : ℕ) → page_number capture direction first ≡ number_of capture direction
number-due capture direction = rw (le-ltb (8 * length capture) (8 * length capture) (omega arith), le-ltb (8 * length capture) 0 (omega arith))

module _ (capture : List ℕ) (direction : ℕ) (cursor : CursorNumbers) (buffer : List ℕ) (a : Answer) (after : List ℕ)
    (call : PageCall capture (asked capture direction cursor) buffer a after) where
  abbrev n : ℕ
  n = 8 * length capture

  abbrev w : Capture
  w = whole_of capture direction

  abbrev c : Cursor Context
  c = cursor_by cursor

  -- a page that has room for the largest record is not refused with 4
  pub number_is : 31 ≤ length buffer → a.number ≡ page_number capture direction cursor
  number_is room = by_number (page_number capture direction cursor) refl call
    where
      first_fits : Admitted (length capture) (asked capture direction cursor) → Page rules record_of w c 4096 (length buffer) [] → cursor.position < n → ⊥
      first_fits h p l = go r.0 r.1
        where
          r : (xs : List (Item Frame)) × Reading rules w c xs
          r = exists w c h.inside

          go : (xs : List (Item Frame)) → Reading rules w c xs → ⊥
          go [] (s, e) = omega arith
          go (x ∷ xs) q =
              let long : length (records (x ∷ [])) ≤ 31 = omega (arith, ap length (append-nil (record_of x)), record_length x, size_le x) in
              omega (arith, p.longest (x ∷ []) (xs, q) h.some (omega arith))

      by_page : Admitted (length capture) (asked capture direction cursor) → (xs : List (Item Frame)) → Page rules record_of w c 4096 (length buffer) xs
          → a ≡ cond (first_left rules record_of w c xs) (refused 4 cursor) (answered_by (length xs) (length (records xs)) (over_all rules c xs)) → a.number ≡ 0
      by_page h [] p e = by_test (ltb cursor.position n) refl e
        where
          by_test : (b : Bool) → ltb cursor.position n ≡ b → a ≡ cond b (refused 4 cursor) (answered_by 0 0 c) → a.number ≡ 0
          by_test true t e = absurd (first_fits h p (ltb-true cursor.position n t))
          by_test false t e = ap (λ (b : Answer). b.number) e
      by_page h (x ∷ xs) p e = ap (λ (b : Answer). b.number) e

      by_number : (number : ℕ) → page_number capture direction cursor ≡ number → PagedBy rules record_of number w cursor 4096 buffer a after → a.number ≡ number
      by_number zero e (xs, p, t, q) = by_page (admitted (length capture) (asked capture direction cursor) e) xs p t
      by_number (suc number) e (t, q) = ap (λ (b : Answer). b.number) t

-- a page that is not refused
pub record PageTaken (capture : List ℕ) (direction : ℕ) (cursor : CursorNumbers) (a : Answer) (after : List ℕ) : Type 0 where
  pub items : List (Item Frame)
  pub stretch : Stretch rules (whole_of capture direction) (cursor_by cursor) items
  pub moved : over_all rules (cursor_by cursor) items ≡ cursor_by (next a)
  pub within : (a.bytes ≤ length after) × (a.bytes ≡ length (take a.bytes after))
  pub bytes : take a.bytes after ≡ records items
  pub good : page_number capture direction cursor ≡ 0
  pub answered : page_number capture direction (next a) ≡ 0
  pub inside : a.position ≤ 8 * length capture
  pub further : cursor.position < 8 * length capture → cursor.position < a.position

pub page-taken : (capture : List ℕ) (direction : ℕ) (cursor : CursorNumbers) (buffer : List ℕ) (a : Answer) (after : List ℕ) → PageCall capture (asked capture direction cursor) buffer a after
    → length after ≡ length buffer → a.number ≡ 0 → PageTaken capture direction cursor a after
page-taken capture direction cursor buffer a after call e z =
    let r : PageRequest = asked capture direction cursor in
    let g = (got capture r buffer a after call z).filled in
    let good = answered-good capture r buffer a after call z 4096 (lit< tt) in
    let h : a.bytes ≤ length after = omega (arith, g.sized, g.longest.fits) in
    record {
      items = g.page;
      stretch = stretch capture r buffer a after call z;
      moved = sym g.moved;
      within = (h, sym (length-take-le a.bytes after h));
      bytes = got_bytes capture r buffer a after call z;
      good = not-refused capture r buffer a after call z;
      answered = good;
      inside = (admitted (length capture) (asked capture direction (next a)) good).inside;
      further = λ l. (progress capture r buffer a after call z l).1;
    }
