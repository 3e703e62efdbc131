-- A page that reaches n (document 02, Ask 2): asked again with most one less than its items it is the same page without its last record, and ends before n;
-- as it is it need not stay, for it has another answer if the next bit is a one.
-- Assumes nothing.
use mathlib.Core.Path.{◌≡◌, refl, sym, ◌∙◌, ap, subst}
use mathlib.Core.Logic.{◌⊎◌, inl, inr}
use mathlib.Core.Bool.{Bool, true, false, cond}
use mathlib.Core.List.{List, [], ◌∷◌, ◌++◌}
use Prim.Native.Nat.{ℕ, ◌+◌, ◌-◌, ◌≤◌, ◌<◌}
use native.Mathlib.Omega.{arith}
use lib.ListN.{length, take, drop, length-append}
use lib.Seq.{take_at}
use Rattle.reading.specs.Reading.{Cursor, Item, gap, frame, Obeys, over, over_all, Stretch, Starts}
use Rattle.reading.specs.Paging.{first_left}
use Rattle.reading.proofs.ItemLaws.{later, within}
use Rattle.reading.proofs.ReadingLaws.{over-append, stretch-split}
use Rattle.reading.proofs.PageLaws.{records-more, length-records, page_full}
use Rattle.bits.specs.Bit.{bit_at}
use Rattle.channel.specs.Kinds.{body_of}
use Rattle.channel.specs.Verdict.{Context}
use Rattle.channel.specs.Frames.{Capture, capture_of, Frame, rules}
use Rattle.channel.specs.Record.{record_of, records}
use Rattle.channel.proofs.BoolLaws.{never}
use Rattle.channel.proofs.FrameLaws.{first_zero_lem, sound}
use Rattle.call.specs.declared.Answer.{Answer}
use Rattle.call.specs.Call.{terms_by, cursor_by, answered_by, refused}
use Rattle.call.specs.declared.PageRequest.{PageRequest}
use Rattle.refusal.specs.Refusal.{page_refusal}
use Rattle.refusal.proofs.RefusalLaws.{admit}
use Rattle.paging.specs.Paging.{PagedBy, PageCall}
use Rattle.paging.proofs.HarvestLaws.{answer-one, request, got, got_bytes, stretch}
use Rattle.growth.specs.Polling.{again, OneLess}

-- a list that is not empty has a last
split-last : {I : Type 0} (xs : List I) → 0 < length xs → (ys : List I) × (y : I) × (xs ≡ ys ++ (y ∷ []))
split-last [] h = absurd (omega arith)
split-last (x ∷ []) h = ([], x, refl)
split-last {I} (x ∷ z ∷ zs) h = let (ys, y, e) = split-last (z ∷ zs) (omega arith) in (x ∷ ys, y, ap (λ (l : List I). x ∷ l) e)

-- none is left to be refused behind a page that has an item
none_left : (w : Capture) (c : Cursor Context) (xs : List (Item Frame)) → 0 < length xs → first_left rules record_of w c xs ≡ false
none_left w c [] h = absurd (omega arith)
none_left w c (x ∷ xs) h = refl

module _ (capture : List ℕ) (r : PageRequest) (buffer : List ℕ) (a : Answer) (after : List ℕ) (call : PageCall capture r buffer a after) (taken-up : a.number ≡ 0) where
  abbrev w : Capture
  w = capture_of capture r.n (terms_by r.terms)

  abbrev c : Cursor Context
  c = cursor_by r.cursor

  before-end : (to : Cursor Context) (y : Item Frame) → Obeys rules w to y → to.position < r.n
  before-end to y o = omega (arith, later rules w (sound w) to y o, within rules w (sound w) to y o)

  abbrev page : List (Item Frame)
  page = (got capture r buffer a after call taken-up).filled.page

  module _ (two : 1 < a.items) (room : List ℕ) (large : length buffer ≤ length room) where
    not-refused : page_refusal (length capture) (again r a) ≡ 0
    not-refused =
        let h = request capture r buffer a after call taken-up in
        admit (length capture) (again r a) (record { way = h.way; some = omega arith; short = h.short; count = h.count; inside = h.inside; known = h.known })

    module _ (xs : List (Item Frame)) (y : Item Frame) (is : page ≡ xs ++ (y ∷ [])) where
      all : Stretch rules w c (xs ++ (y ∷ []))
      all = subst (Stretch rules w c) is (stretch capture r buffer a after call taken-up)

      as_many : length xs ≡ a.items - 1
      as_many = omega (arith, (got capture r buffer a after call taken-up).filled.counted, ap length is, length-append xs (y ∷ []))

      abbrev answer : Answer
      answer = answered_by (length xs) (length (records xs)) (over_all rules c xs)

      abbrev filled : List ℕ
      filled = records xs ++ drop (length (records xs)) room

      -- what it is answered
      due : PageCall capture (again r a) room answer filled
      due =
          let h = request capture r buffer a after call taken-up in
          let g = (got capture r buffer a after call taken-up).filled in
          let fits : length (records xs) ≤ length room = omega (arith, g.longest.fits, ap (λ (l : List (Item Frame)). length (records l)) is, length-records record_of xs y) in
          subst (λ (number : ℕ). PagedBy rules record_of number w r.cursor (again r a).most room answer filled) (sym not-refused) (
            xs,
            page_full rules record_of w (sound w) c (again r a).most (length room) h.inside xs (stretch-split rules w c xs (y ∷ []) all).0 (omega (arith, as_many)) fits (omega (arith, as_many)),
            sym (ap (λ (b : Bool). cond b (refused 4 r.cursor) answer) (none_left w c xs (omega (arith, as_many)))),
            refl,
          )

      -- no other answer fits
      one_less_is : (b : Answer) (later : List ℕ) → PageCall capture (again r a) room b later → OneLess r.n a after b later
      one_less_is b later q =
          let (e, f) = answer-one capture (again r a) room b answer later filled q due in
          let o : Obeys rules w (over_all rules c xs) y = (stretch-split rules w c xs (y ∷ []) all).1.0 in
          record {
            taken = ap (λ (d : Answer). d.number) e;
            items = omega (arith, ap (λ (d : Answer). d.items) e, as_many);
            ends = omega (arith, ap (λ (d : Answer). d.position) e, before-end (over_all rules c xs) y o);
            last = y;
            bytes =
                got_bytes capture r buffer a after call taken-up
                ∙ ap records is
                ∙ records-more record_of xs y
                ∙ ap (λ (l : List ℕ). l ++ record_of y) (sym (front b later e f));
          }
        where
          front : (b : Answer) (later : List ℕ) → b ≡ answer → later ≡ filled → take b.bytes later ≡ records xs
          front b later e f =
              ap (λ (d : Answer). take d.bytes later) e
              ∙ ap (take (length (records xs))) f
              ∙ take_at (records xs) (drop (length (records xs)) room) (length (records xs)) refl

    -- the recipe: a page of two items or more, asked again with most one less than its items, in a buffer no smaller, is the page without its last record;
    -- it is not refused and ends before n
    pub one_less : (b : Answer) (later : List ℕ) → PageCall capture (again r a) room b later → OneLess r.n a after b later
    one_less =
        let g = (got capture r buffer a after call taken-up).filled in
        let (xs, y, is) = split-last page (omega (arith, g.counted)) in
        one_less_is xs y is

-- before n no item ends where a one stands: a tail goes on there, and no run starts
none-ends : (v : Capture) (m : ℕ) → m < v.n → v.bits m ≡ true → (c : Cursor Context) (x : Item Frame) → Obeys rules v c x → (over rules c x).position ≡ m → ⊥
none-ends v m l o c (gap s k) h at = go h.stops
  where
    go : (s + k ≡ v.n) ⊎ ((f : Frame) × Starts rules v (s + k) f) → ⊥
    go (inl e) = omega arith
    go (inr (f, q)) = let here : s + k + 0 ≡ m = omega arith in never (sym o ∙ ap v.bits (sym here) ∙ first_zero_lem v (s + k) f q 0 (omega arith))
none-ends v m l o c (frame f) h at = go h.stands.tail.stops
  where
    q : ℕ
    q = c.position + body_of f.kind + f.tail

    here : q ≡ m
    here = omega (arith, h.stands.at)

    go : (q ≡ v.n) ⊎ (v.bits q ≡ false) → ⊥
    go (inl e) = omega (arith, here)
    go (inr e) = never (sym o ∙ ap v.bits (sym here) ∙ e)

-- so no page with an item ends there: one that reached n is never answered so again when more bits have come, the first of them a one
pub end_changes : (capture : List ℕ) (r : PageRequest) (buffer : List ℕ) (a : Answer) (after : List ℕ) (m : ℕ) → PageCall capture r buffer a after → a.number ≡ 0 → 0 < a.items → m < r.n → bit_at capture m ≡ true → a.position ≡ m → ⊥
end_changes capture r buffer a after m call taken-up some l o at =
    let g = (got capture r buffer a after call taken-up).filled in
    let v = capture_of capture r.n (terms_by r.terms) in
    let c = cursor_by r.cursor in
    let (xs, y, is) = split-last g.page (omega (arith, g.counted)) in
    let all : Stretch rules v c (xs ++ (y ∷ [])) = subst (Stretch rules v c) is (stretch capture r buffer a after call taken-up) in
    let p : (over_all rules c (xs ++ (y ∷ []))).position ≡ m = ap (λ (l : List (Item Frame)). (over_all rules c l).position) (sym is) ∙ sym (ap (λ (t : Cursor Context). t.position) g.moved) ∙ at in
    none-ends v m l o (over_all rules c xs) y (stretch-split rules v c xs (y ∷ []) all).1.0 (sym (ap (λ (t : Cursor Context). t.position) (over-append rules v c xs (y ∷ []))) ∙ p)
