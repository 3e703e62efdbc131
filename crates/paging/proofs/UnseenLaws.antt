-- Bits from n on never matter to paging: captures of one length that agree before n get the same answers and the same bytes.
-- Assumes nothing.
use mathlib.Core.Path.{◌≡◌, refl, ◌∙◌, ap, subst}
use mathlib.Core.Bool.{Bool, cond}
use mathlib.Core.List.{List, [], ◌∷◌}
use Prim.Native.Nat.{ℕ, zero, suc}
use lib.ListN.{length}
use Rattle.reading.specs.Reading.{Item, over_all}
use Rattle.reading.specs.Paging.{Page, first_left}
use Rattle.bits.specs.Bit.{bit_at}
use Rattle.channel.specs.declared.Terms.{Terms}
use Rattle.channel.specs.Frames.{Capture, capture_of, Frame, rules}
use Rattle.channel.specs.Growth.{Agree}
use Rattle.channel.proofs.UnseenLaws.{agree_back, leading_same}
use Rattle.channel.specs.Record.{record_of, records}
use Rattle.call.specs.declared.CursorNumbers.{CursorNumbers}
use Rattle.call.specs.declared.Answer.{Answer}
use Rattle.call.specs.Call.{terms_by, cursor_by, answered_by, refused}
use Rattle.call.specs.declared.PageRequest.{PageRequest}
use Rattle.refusal.specs.Refusal.{page_refusal}
use Rattle.paging.specs.Paging.{PagedBy, PageCall}

module _ (n : ℕ) (s t : List ℕ) (same : Agree n (bit_at s) (bit_at t)) (terms : Terms) (c : CursorNumbers) (most : ℕ) where
  page-same : (room : ℕ) (xs : List (Item Frame)) → Page rules record_of (capture_of s n terms) (cursor_by c) most room xs → Page rules record_of (capture_of t n terms) (cursor_by c) most room xs
  page-same room xs p =
      record {
        leads = leading_same n terms (bit_at s) (bit_at t) same (cursor_by c) xs p.leads;
        counted = p.counted;
        fits = p.fits;
        longest = λ ys l. p.longest ys (leading_same n terms (bit_at t) (bit_at s) (agree_back n (bit_at s) (bit_at t) same) (cursor_by c) ys l);
      }

  left-same : (xs : List (Item Frame)) → first_left rules record_of (capture_of s n terms) (cursor_by c) xs ≡ first_left rules record_of (capture_of t n terms) (cursor_by c) xs
  left-same [] = refl
  left-same (x ∷ xs) = refl

  paged_same : (number : ℕ) (buffer : List ℕ) (a : Answer) (after : List ℕ) → PagedBy rules record_of number (capture_of s n terms) c most buffer a after
      → PagedBy rules record_of number (capture_of t n terms) c most buffer a after
  paged_same zero buffer a after (xs, p, e, q) = (
    xs,
    page-same (length buffer) xs p,
    e ∙ ap (λ (b : Bool). cond b (refused 4 c) (answered_by (length xs) (length (records xs)) (over_all rules (cursor_by c) xs))) (left-same xs),
    q,
  )
  paged_same (suc number) buffer a after r = r

-- the same request on the other capture
pub call_same : (s t : List ℕ) (r : PageRequest) (buffer : List ℕ) (a : Answer) (after : List ℕ) → length s ≡ length t → Agree r.n (bit_at s) (bit_at t) → PageCall s r buffer a after
    → PageCall t r buffer a after
call_same s t r buffer a after l same call =
    let w : Capture = capture_of t r.n (terms_by r.terms) in
    subst (λ (bytes : ℕ). PagedBy rules record_of (page_refusal bytes r) w r.cursor r.most buffer a after) l
    (paged_same r.n s t same (terms_by r.terms) r.cursor r.most (page_refusal (length s) r) buffer a after call)
