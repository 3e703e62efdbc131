-- The listing page by page: the lines of the pages so far are those of a stretch from the beginning, which at the end is the reading. And no second text fits.
-- Assumes nothing.
use mathlib.Core.Path.{◌≡◌, refl, sym, ◌∙◌, ap, subst}
use mathlib.Core.List.{List, [], ◌∷◌, ◌++◌}
use Prim.Native.Nat.{ℕ, zero, suc, ◌+◌, ◌*◌, ◌≤◌, ◌<◌, min}
use native.Mathlib.Omega.{arith}
use lib.ListN.{length, take, length-append}
use Rattle.reading.specs.Reading.{Cursor, Item, over_all, Stretch, Reading}
use Rattle.reading.proofs.ReadingLaws.{over-append, stretch-join}
use Rattle.channel.specs.Verdict.{Context}
use Rattle.channel.specs.Frames.{Frame, rules, beginning}
use Rattle.channel.proofs.ChannelLaws.{unique}
use Rattle.call.specs.declared.CursorNumbers.{CursorNumbers}
use Rattle.call.specs.declared.Answer.{Answer}
use Rattle.call.specs.Call.{cursor_by, next}
use Rattle.text.specs.Text.{Put}
use Rattle.text.proofs.TextLaws.{put-from, put-none, put-put, put_one}
use Rattle.line.specs.Line.{refusal_line}
use Rattle.lines.specs.Lines.{lines_of, Records, AllLined}
use Rattle.listing.specs.Listing.{number_of, whole_of, TextBy, Text, Listing, Listed}
use Rattle.listing.proofs.RoomLaws.{lines_append, lines_short, all_fit}
use Rattle.listing.proofs.PagingLaws.{first, page_number, number-due, PageTaken}

-- a listing under way: the cursor, and the lines of the items before it, put at a place. Where the first page is refused there are none
pub record Ongoing (capture : List ℕ) (direction : ℕ) (cursor : CursorNumbers) (before : List ℕ) (at : ℕ) (out : List ℕ) (end : ℕ) : Type 0 where
  pub done : List (Item Frame)
  pub stretch : Stretch rules (whole_of capture direction) beginning done
  pub moved : over_all rules beginning done ≡ cursor_by cursor
  pub put : Put before at (lines_of done) out end
  pub same : page_number capture direction cursor ≡ page_number capture direction first
  pub quiet : (page_number capture direction first ≡ 0 → ⊥) → done ≡ []
  pub ahead : 0 < length capture → cursor.position < 8 * length capture

pub begins : (capture : List ℕ) (direction : ℕ) (out : List ℕ) (at : ℕ) → at ≤ length out → Ongoing capture direction first out at out at
begins capture direction out at h =
    record {
      done = [];
      stretch = tt;
      moved = refl;
      put = put-none out at h;
      same = refl;
      quiet = λ q. refl;
      ahead = λ q. omega arith;
    }

-- the text by its number
module _ (capture : List ℕ) (direction number : ℕ) (due : number ≡ page_number capture direction first) where
  text-refused : (number ≡ 0 → ⊥) → Text capture direction (refusal_line number)
  text-refused z = subst (λ (k : ℕ). TextBy k capture direction (refusal_line number)) (due ∙ number-due capture direction) (go number z)
    where
      go : (k : ℕ) → (k ≡ 0 → ⊥) → TextBy k capture direction (refusal_line k)
      go zero z = absurd (z refl)
      go (suc k) z = refl

  text-taken : number ≡ 0 → (xs : List (Item Frame)) → Reading rules (whole_of capture direction) beginning xs → Text capture direction (lines_of xs)
  text-taken z xs r = subst (λ (k : ℕ). TextBy k capture direction (lines_of xs)) (sym z ∙ due ∙ number-due capture direction) (xs, r, refl)

module _ (capture : List ℕ) (direction : ℕ) (cursor : CursorNumbers) (before : List ℕ) (at : ℕ) (out : List ℕ) (end : ℕ) (now : Ongoing capture direction cursor before at out end) where
  -- a refusal: nothing is put yet, so nothing is cut off before its line is put
  pub refused-listing : (number : ℕ) (after : List ℕ) (behind : ℕ) → number ≡ page_number capture direction cursor → (number ≡ 0 → ⊥)
      → Put out (min end at) (refusal_line number) after behind → Listed (Text capture direction) before at after behind
  refused-listing number after behind e z p =
      let due : number ≡ page_number capture direction first = e ∙ now.same in
      let untouched : (out ≡ before) × (end ≡ at) = put_one (rw (now.quiet (λ q. z (due ∙ q))) at now.put) (put-none before at (put-from now.put)) in
      let place : min end at ≡ at = omega (arith, untouched.1) in
      record { text = refusal_line number; is = text-refused capture direction number due z; put = rw (place, untouched.0) at p }

  module _ (a : Answer) (buffer : List ℕ) (page : PageTaken capture direction cursor a buffer) where
    -- the items so far, with those of the page
    items : List (Item Frame)
    items = now.done ++ page.items

    whole : Stretch rules (whole_of capture direction) beginning items
    unfolding items
    whole =
        stretch-join rules (whole_of capture direction) beginning now.done page.items now.stretch
        (rw now.moved page.stretch)

    moved : over_all rules beginning items ≡ cursor_by (next a)
    unfolding items
    moved = over-append rules (whole_of capture direction) beginning now.done page.items ∙ ap (λ (c : Cursor Context). over_all rules c page.items) now.moved ∙ page.moved

    -- there is room for their lines
    pub page-records : length capture ≤ 65538 → at + 524544 ≤ length out → Records (take a.bytes buffer) end (length out)
    unfolding items
    page-records short long =
        record {
          items = page.items;
          fit = all_fit (whole_of capture direction) (omega arith) (cursor_by cursor) page.items page.stretch;
          are = page.bytes;
          room =
              omega
              (arith, now.put.ends, page.inside, ap (λ (c : Cursor Context). c.position) moved, ap length (lines_append now.done page.items), length-append (lines_of now.done) (lines_of page.items), lines_short (whole_of capture direction) beginning items whole);
        }

    first_taken : page_number capture direction first ≡ 0
    first_taken = sym now.same ∙ page.good

    module _ (short : length capture ≤ 65538) (after : List ℕ) (behind : ℕ) (lined : AllLined (take a.bytes buffer) out end after behind) where
      put_all : Put before at (lines_of items) after behind
      unfolding items
      put_all =
          rw (lines_append now.done page.items)
          (put-put now.put (lined page.items (all_fit (whole_of capture direction) (omega arith) (cursor_by cursor) page.items page.stretch) page.bytes))

      -- the next page is asked
      pub goes_on : a.position < 8 * length capture → Ongoing capture direction (next a) before at after behind
      goes_on h =
          record {
            done = items;
            stretch = whole;
            moved = moved;
            put = put_all;
            same = page.answered ∙ sym first_taken;
            quiet = λ q. absurd (q first_taken);
            ahead = λ q. h;
          }

      -- the end
      pub listed : 8 * length capture ≤ a.position → Listed (Text capture direction) before at after behind
      listed h =
          record {
            text = lines_of items;
            is = text-taken capture direction 0 (sym first_taken) refl items (whole, omega (arith, page.inside, ap (λ (c : Cursor Context). c.position) moved));
            put = put_all;
          }

-- one text at most is the listing of some input
pub one-text : (input s t : List ℕ) → Listing input s → Listing input t → s ≡ t
one-text [] s t p q = p ∙ sym q
one-text (direction ∷ capture) s t p q = go (number_of capture direction) p q
  where
    go : (number : ℕ) → TextBy number capture direction s → TextBy number capture direction t → s ≡ t
    go zero (xs, r, e) (ys, u, f) = e ∙ ap lines_of (unique (whole_of capture direction) beginning xs ys r u) ∙ sym f
    go (suc number) e f = e ∙ sym f

-- and the buffer after it, with the place where the text ends, is one
pub one-listing : (input before after last : List ℕ) (at end stop : ℕ) → Listed (Listing input) before at after end → Listed (Listing input) before at last stop → (after ≡ last) × (end ≡ stop)
one-listing input before after last at end stop p q =
    let e : p.text ≡ q.text = one-text input p.text q.text p.is q.is in put_one p.put (rw e q.put)
